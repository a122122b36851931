-- Slots with fewer or with more free ones at the end.
use Rattle.std.specs.Prelude.{◌-◌, ℕ, List, ◌++◌, length, take, replicate, Option, None, max}
use Rattle.triple_arena_traits.specs.FreeList.{trimmed}

module _ {A : Type 0} where
  -- the slots without the free ones at the end, but for those up to index m
  abbrev pub shortened : ℕ → List (Option A) → List (Option A)
  shortened m slots = take (max (length (trimmed slots)) m) slots

  -- the slots with free ones after them, so that there are at least so many
  abbrev pub extended : List (Option A) → ℕ → List (Option A)
  extended slots n = slots ++ replicate (n - length slots) None
