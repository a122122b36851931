use Rattle.triple_arena_traits.specs.laws.LimitLaws.{set_back, capacity_set_back, set_back_ends}
use Rattle.triple_arena_traits.proofs.laws.limit_set_back.Goals as goal

pub returns-clause-succeeds : goal.returns-clause-succeeds
returns-clause-succeeds g c = set_back_ends

pub returns-clause-same_capacity : goal.returns-clause-same_capacity
returns-clause-same_capacity g c = capacity_set_back

pub returns-clause-state : goal.returns-clause-state
returns-clause-state g c = set_back
