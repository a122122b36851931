-- The free list of an arena, tidied: in rising order, and without the slots past the last entry.
use Rattle.std.specs.Prelude.{◌≡◌, ◌≤◌, nat_le, false, ℕ, ◌+◌, List, [], ◌∷◌, length, filter, Option, Some, None}
use Rattle.triple_arena_traits.specs.Items.{item}
use Rattle.triple_arena_traits.specs.ArenaState.{ArenaState, entry, is_free, slot_count}

module _ {A : Type 0} where
  -- a slot before others; none where it is free and the last
  abbrev pub put_before : Option A → List (Option A) → List (Option A)
  put_before (Some e) rest = Some e ∷ rest
  put_before None [] = []
  put_before None (x ∷ rest) = None ∷ x ∷ rest

  -- the slots up to the last one with an entry
  abbrev pub trimmed : List (Option A) → List (Option A)
  trimmed [] = []
  trimmed (x ∷ rest) = put_before x (trimmed rest)

  -- the greatest index of an entry, or 0 where there is none
  abbrev pub last_index : List (Option A) → ℕ
  last_index slots = length (trimmed slots)

  -- the indexes of the slots without an entry, in rising order, where the first slot has the index `at`
  abbrev pub gaps : ℕ → List (Option A) → List ℕ
  gaps at [] = []
  gaps at (None ∷ rest) = at ∷ gaps (at + 1) rest
  gaps at (Some e ∷ rest) = gaps (at + 1) rest

-- the slots end with the last entry, and the free indexes are the gaps in rising order
abbrev pub tidied : {T : Type 0} → ArenaState T → ArenaState T
tidied s = record s { slots = trimmed s.slots; free = gaps 1 (trimmed s.slots) }

-- these slots under this counter; the free indexes are the gaps in rising order
abbrev pub laid_out : {T : Type 0} → ArenaState T → List (Option (ℕ × T)) → ℕ → ArenaState T
laid_out s slots counter = record s { slots = slots; counter = counter; free = gaps 1 slots }

-- the indexes that are at most n, in their order
abbrev pub up_to : ℕ → List ℕ → List ℕ
up_to n indexes = filter (λ i. nat_le i n) indexes

-- the slots end with the last entry, and the free indexes are those that are left, in their order
abbrev pub without_free_end : {T : Type 0} → ArenaState T → ArenaState T
without_free_end s = record s { slots = trimmed s.slots; free = up_to (length (trimmed s.slots)) s.free }

-- indexes in rising order, from `low` on
abbrev pub IsRising : ℕ → List ℕ → Type 0
IsRising low [] = Unit {0}
IsRising low (i ∷ rest) = (low ≤ i) × IsRising (i + 1) rest

-- every entry stays, the last slot has one, and the free indexes rise
pub record IsTidied {T : Type 0} (old new : ArenaState T) : Type 0 where
  pub entries : (i : ℕ) → entry new i ≡ entry old i
  pub ends_live : is_free (item new.slots (slot_count new)) ≡ false
  pub rising : IsRising 1 new.free
