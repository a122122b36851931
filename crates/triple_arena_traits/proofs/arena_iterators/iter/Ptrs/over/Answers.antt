use Rattle.triple_arena_traits.specs.laws.WalkLaws.{keys_first}
use Rattle.triple_arena_traits.proofs.Walking.{first_keys_counted}
use Rattle.triple_arena_traits.proofs.arena_iterators.iter.Ptrs.over.Goals as goal

pub returns : goal.returns
returns g c = keys_first _ _ c.advancer.ensures

pub invariant_of-result : goal.invariant_of-result
invariant_of-result g c = (c.advancer.ensures.forward, first_keys_counted _ _ _ c.advancer.ensures c.len.ensures.value)
