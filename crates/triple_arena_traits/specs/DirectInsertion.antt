-- Insertion under pointers of the caller's choice.
use Rattle.std.specs.Prelude.{◌≡◌, ◌≤◌, ◌<◌, ℕ, List, Option, None, IsSome, Result, Ok, Err}
use Rattle.triple_arena_base.specs.declared.errors.DirectInsertionError.{DirectInsertionError}
use Rattle.triple_arena_base.specs.declared.errors.DirectInsertionError.TheVariants.{NotWithinCapacity, ExistingElementAtIndex}
use Rattle.triple_arena_traits.specs.Entries.{entry_in}

module _ {T : Type 0} where
  -- an index is within this capacity, and no entry stands there
  pub record IsVacant (slots : List (Option (ℕ × T))) (capacity i : ℕ) : Type 0 where
    pub within : i ≤ capacity
    pub free : entry_in slots i ≡ None

  -- the answer on an index: an entry can be put there; it is above the capacity; or an entry stands there
  abbrev pub DirectInsertAnswer : (slots : List (Option (ℕ × T))) (capacity i : ℕ) {A : Type 0} → Result A DirectInsertionError → Type 0
  DirectInsertAnswer slots capacity i (Ok place) = IsVacant slots capacity i
  DirectInsertAnswer slots capacity i (Err NotWithinCapacity) = capacity < i
  DirectInsertAnswer slots capacity i (Err ExistingElementAtIndex) = (i ≤ capacity) × IsSome (entry_in slots i)
