-- Mirrors: direct arenas that are given the changes of another arena, and so have its pointers.
use Rattle.std.specs.Prelude.{◌≡◌, ℕ, List, Option, Some, None, is_some}
use Rattle.triple_arena_ptr.specs.Pointers.{Pointer}
use Rattle.triple_arena_traits.specs.Entries.{look_up, ChangesAt}
use Rattle.triple_arena_direct_arena.specs.DirectState.{DirectState, inserted_at, direct_removed}

-- a change of the pointers of an arena: an entry comes under this one, or the entry at an index goes
pub data Change : Type 0 where
  comes : Pointer → Change
  goes : ℕ → Change

-- the same pointers are valid
abbrev pub IsMirror : {T U : Type 0} → List (Option (ℕ × T)) → List (Option (ℕ × U)) → Type 0
IsMirror slots mirror = (p : Pointer) → is_some (look_up mirror p) ≡ is_some (look_up slots p)

module _ {T : Type 0} where
  -- the change, as the arena makes it
  abbrev pub Makes : List (Option (ℕ × T)) → Change → List (Option (ℕ × T)) → Type 0
  Makes old (comes p) new = (value : T) × ChangesAt old p.0 (Some (p.1, value)) new
  Makes old (goes i) new = ChangesAt old i None new

  -- the change, as the mirror is given it: an insertion under the pointer, or a removal at the index
  abbrev pub Follows : DirectState T → Change → DirectState T → Type 0
  Follows old (comes p) new = (value : T) × (new ≡ inserted_at old p value)
  Follows old (goes i) new = new ≡ direct_removed old i
