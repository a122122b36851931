use Rattle.triple_arena_traits.specs.laws.LimitLaws.{capacity-with_limit}
use Rattle.triple_arena_traits.proofs.laws.capacity_under_limit.Goals as goal

pub returns : goal.returns
returns g c = capacity-with_limit
