use Rattle.std.proofs.Common.{ap}
use Rattle.triple_arena_session.specs.SessionLayout.{uncounted}
use Rattle.triple_arena_session.proofs.session_arena.ArenaSessionArena.invalidate.Goals as goal

pub returns-clause-done : goal.returns-clause-done
returns-clause-done g c live = ap uncounted (c.invalidate.ensures.done live).0
