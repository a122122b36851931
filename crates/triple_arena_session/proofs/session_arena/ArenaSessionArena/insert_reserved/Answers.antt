use Rattle.std.proofs.Common.{ap, ◌∙◌}
use Rattle.triple_arena_session.specs.SessionLayout.{uncounted}
use Rattle.triple_arena_session.proofs.Uncounted.{uncounted-inserted}
use Rattle.triple_arena_session.proofs.session_arena.ArenaSessionArena.insert_reserved.Goals as goal

pub returns-clause-inserted : goal.returns-clause-inserted
returns-clause-inserted g c = ap uncounted c.insert_reserved.ensures.inserted ∙ uncounted-inserted c.args.self.now c.args.t
