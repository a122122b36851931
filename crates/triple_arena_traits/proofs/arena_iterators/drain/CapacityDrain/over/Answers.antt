use Rattle.triple_arena_traits.proofs.arena_iterators.drain.CapacityDrain.over.Goals as goal

pub invariant_of-result : goal.invariant_of-result
invariant_of-result g c = record { forward = c.advancer-advancer.ensures.forward; all = c.advancer-advancer.ensures.all }
