use Rattle.std.proofs.Common.{ap, ◌∙◌}
use Rattle.triple_arena_ptr.specs.Numbers.{raise}
use Rattle.triple_arena_session.specs.SessionLayout.{uncounted}
use Rattle.triple_arena_session.proofs.Uncounted.{uncounted-removed}
use Rattle.triple_arena_session.proofs.session_arena.ArenaSessionArena.remove.Goals as goal

pub returns-clause-done : goal.returns-clause-done
returns-clause-done g c live = ap uncounted (c.remove.ensures.done live).0 ∙ uncounted-removed (raise g.P.Gen.PtrGen.generations) c.args.self.now (g.P.Ptr.numbers c.args.p).0

pub returns-clause-unchanged : goal.returns-clause-unchanged
returns-clause-unchanged g c none = ap uncounted (c.remove.ensures.unchanged none).0
