-- Pointers that are gone for good.
use Rattle.std.specs.Prelude.{◌≡◌, ◌<◌, ◌≤◌, ℕ, nat_lt, Bool, IsTrue, List, Option, None}
use Rattle.std.specs.List.{list_any}
use Rattle.triple_arena_ptr.specs.Pointers.{Pointer}
use Rattle.triple_arena_traits.specs.Entries.{look_up}
use Rattle.triple_arena_traits.specs.ArenaState.{ArenaState}
use Rattle.triple_arena_traits.specs.Walks.{keys}
use Rattle.triple_arena_traits.specs.Histories.{is_live}

module _ {T : Type 0} where
  -- no entry is of a generation that the counter has not come to
  abbrev pub IsUpToCounter : ArenaState T → Type 0
  IsUpToCounter s = (p : Pointer) → IsTrue (is_live s p) → p.1 ≤ s.counter

  -- a pointer is gone for good, or was never given and never will be: it finds nothing, and its generation is one that the
  -- counter has left behind, so that no entry gets it any more
  abbrev pub IsGoneForGood : ArenaState T → Pointer → Type 0
  IsGoneForGood s p = (look_up s.slots p ≡ None) × (p.1 < s.counter)

module _ {K : Type 0} where
  -- an entry is of a generation past the counter
  abbrev pub is_any_past : (counter : ℕ) → List (Option (ℕ × K)) → Bool
  is_any_past counter slots = list_any (λ p. nat_lt counter p.1) (keys slots)
