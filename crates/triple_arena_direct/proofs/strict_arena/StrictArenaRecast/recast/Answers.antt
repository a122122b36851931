use Rattle.std.proofs.Common.{[]}
use Rattle.triple_arena_traits.specs.laws.HistoryLaws.{Continues-refilled}
use Rattle.triple_arena_direct.specs.laws.GoneLaws.{up_to-continues}
use Rattle.triple_arena_direct.proofs.strict_arena.StrictArenaRecast.recast.Goals as goal

pub invariant_of-self : goal.invariant_of-self
invariant_of-self g c = λ counting.
    rw c.recast.ensures.after (up_to-continues c.self.inside.arena _ (c.self.invariant counting) [] (Continues-refilled g.T.Recast.held g.T.Recast.refill c.self.inside.arena _))
