use Rattle.std.proofs.Common.{ap}
use Rattle.triple_arena_traits.specs.Walks.{values}
use Rattle.triple_arena_session.specs.SessionLayout.{uncounted}
use Rattle.triple_arena_session.proofs.session_arena.StrictArenaSessionArena.compress_recast.Goals as goal

pub returns-in-Ok-clause-done : goal.returns-in-Ok-clause-done
returns-in-Ok-clause-done g c =
    let is = c.in-Ok.ensures.compacted in
    (values c.compress_recast.new.self.slots, is.made, ap uncounted is.left.0)
