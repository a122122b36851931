use Rattle.triple_arena_traits.specs.laws.WalkLaws.{keys_rising, live_key, key_live, keys_end}
use Rattle.triple_arena_traits.proofs.laws.walk_in_order.Goals as goal

pub returns-clause-rising : goal.returns-clause-rising
returns-clause-rising g c = keys_rising

pub returns-clause-all : goal.returns-clause-all
returns-clause-all g c = λ slots p. (live_key slots p, key_live slots p)

pub returns-clause-last : goal.returns-clause-last
returns-clause-last g c = keys_end
