-- Insertion into an arena.
use Rattle.std.specs.Prelude.{ℕ, ◌+◌, List, [], ◌∷◌, ◌++◌, Some}
use Rattle.triple_arena_ptr.specs.Pointers.{Pointer}
use Rattle.triple_arena_traits.specs.Items.{with_item}
use Rattle.triple_arena_traits.specs.ArenaState.{ArenaState, slot_count}

-- the first of these free indexes, or one past so many slots where there is none
abbrev pub place_among : List ℕ → ℕ → ℕ
place_among [] n = n + 1
place_among (i ∷ rest) n = i

module _ {T : Type 0} where
  -- the index that insertion takes: the first free one, or one past the last slot
  abbrev pub place : ArenaState T → ℕ
  place s = place_among s.free (slot_count s)

  -- the pointer that insertion gives
  abbrev pub next_pointer : ArenaState T → Pointer
  next_pointer s = (place s, s.counter)

  -- the value under the counter at the first of these free indexes, which is free no longer, or in a slot past the last
  -- where there is none
  abbrev pub inserted_among : List ℕ → ArenaState T → T → ArenaState T
  inserted_among [] s value = record s { slots = s.slots ++ Some (s.counter, value) ∷ [] }
  inserted_among (i ∷ rest) s value = record s { slots = with_item s.slots i (Some (s.counter, value)); free = rest }

  -- insertion: the value stands at the place, under the counter
  abbrev pub inserted : ArenaState T → T → ArenaState T
  inserted s value = inserted_among s.free s value
