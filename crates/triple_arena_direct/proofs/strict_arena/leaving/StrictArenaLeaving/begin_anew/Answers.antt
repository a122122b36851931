use Rattle.triple_arena_traits.specs.ArenaState.{ArenaState}
use Rattle.triple_arena_traits.specs.Histories.{begun_with}
use Rattle.triple_arena_traits.specs.laws.HistoryLaws.{Fits-keys}
use Rattle.triple_arena_traits.specs.Walks.{keys}
use Rattle.triple_arena_direct.specs.laws.GoneLaws.{up_to-fits}
use Rattle.triple_arena_direct.proofs.strict_arena.leaving.StrictArenaLeaving.begin_anew.Goals as goal

pub invariant_of-result : goal.invariant_of-result
invariant_of-result g c counts =
    let s : ArenaState g.row.T.Denot = c.self.inside.arena in
    let new : ArenaState g.row.T.Denot = c.compress_recast.new.this in
    up_to-fits (begun_with (keys new.slots)) new (c.in-Ok.ensures.compacted.begun (begun_with (keys s.slots)) (Fits-keys s (c.self.invariant counts)))

pub returns-in-Ok-clause-maps : goal.returns-in-Ok-clause-maps
returns-in-Ok-clause-maps g c = rw c.allow.ensures (rw (← c.self.view_is) c.in-Ok.ensures.map.maps)

pub returns-in-Ok-clause-compacted : goal.returns-in-Ok-clause-compacted
returns-in-Ok-clause-compacted g c = rw (← c.self.view_is) c.in-Ok.ensures.compacted

pub returns-in-Ok-clause-begun : goal.returns-in-Ok-clause-begun
returns-in-Ok-clause-begun g c counts =
    let s : ArenaState g.row.T.Denot = c.self.inside.arena in
    c.in-Ok.ensures.compacted.begun (begun_with (keys s.slots)) (Fits-keys s (c.self.invariant counts))
