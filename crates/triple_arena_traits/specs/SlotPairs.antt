-- Two slots whose values are written at once.
use Rattle.std.specs.Prelude.{◌≡◌, ℕ, List, Some}
use Rattle.triple_arena_traits.specs.Items.{item, with_item}

-- these values stand in the slots of two indexes, where `with_value` puts a value into a slot; no other slot changes
pub record WritesTwo {X T : Type 0} (with_value : X → T → X) (old new : List X) (i j : ℕ) (x y : T) : Type 0 where
  pub first : X
  pub second : X
  pub at_first : item old i ≡ Some first
  pub at_second : item old j ≡ Some second
  pub written : new ≡ with_item (with_item old i (with_value first x)) j (with_value second y)
