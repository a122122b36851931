-- What a direct arena holds, and what each call makes of it.
use Rattle.std.specs.Prelude.{◌≤◌, ℕ, nat_lt, cond, List, [], length, Option, Some, None, min}
use Rattle.triple_arena_ptr.specs.Pointers.{Pointer}
use Rattle.triple_arena_stack.specs.StackKind.{StackKind, reallocated_room}
use Rattle.triple_arena_stack.specs.Capacity.{stack_capacity}
use Rattle.triple_arena_traits.specs.Items.{with_item}
use Rattle.triple_arena_traits.specs.Entries.{entry_count, with_value_in}
use Rattle.triple_arena_traits.specs.FreeEnd.{shortened, extended}
use Rattle.triple_arena_traits.specs.Walks.{keys}
use Rattle.triple_arena_traits.specs.Compression.{placed}

-- by index, from 1 to the number of slots, the generation and the value of the entry that stands there, or nothing; for how
-- many slots there is room, and how many are allowed, if there is a limit; and the greatest index
pub record DirectState (T : Type 0) : Type 0 where
  pub slots : List (Option (ℕ × T))
  pub room : ℕ
  pub limit : Option ℕ
  pub greatest : ℕ

module _ {T : Type 0} where
  -- the generation of an entry; 0 where there is none
  abbrev pub generation_of : Option (ℕ × T) → ℕ
  generation_of None = 0
  generation_of (Some e) = e.0

  -- an arena without slots
  abbrev pub new_direct : (room : ℕ) (limit : Option ℕ) (greatest : ℕ) → DirectState T
  new_direct room limit greatest = record { slots = []; room = room; limit = limit; greatest = greatest }

  -- the number of slots
  abbrev pub direct_slot_count : DirectState T → ℕ
  direct_slot_count s = length s.slots

  -- the number of entries
  abbrev pub direct_len : DirectState T → ℕ
  direct_len s = entry_count s.slots

  -- how many slots fit without growth: the smallest of room, limit and greatest index
  abbrev pub direct_capacity : DirectState T → ℕ
  direct_capacity s = min (stack_capacity s.room s.limit) s.greatest

  -- the slots are no more than fit
  abbrev pub SlotsFit : DirectState T → Type 0
  SlotsFit s = direct_slot_count s ≤ direct_capacity s

  -- another value in the entry at an index
  abbrev pub direct_with_value : DirectState T → ℕ → T → DirectState T
  direct_with_value s i value = record s { slots = with_value_in s.slots i value }

  -- insertion under a pointer: the value stands at its index, under its generation, and the slots that were missing below
  -- are free
  abbrev pub inserted_at : DirectState T → Pointer → T → DirectState T
  inserted_at s p value = record s { slots = with_item (extended s.slots p.0) p.0 (Some (p.1, value)) }

  -- removal at an index: its slot is free, also where it is the last
  abbrev pub direct_removed : DirectState T → ℕ → DirectState T
  direct_removed s i = record s { slots = with_item s.slots i None }

  -- clearing: no slot is left
  abbrev pub direct_cleared : DirectState T → DirectState T
  direct_cleared s = record s { slots = [] }

  -- compression: there are entries with these values, from index 1 on, each under its own generation, and no other slot
  abbrev pub direct_compressed : DirectState T → List T → DirectState T
  direct_compressed s values = record s { slots = placed (keys s.slots) values }

  -- free slots at the end go, but for those up to index m
  abbrev pub direct_shortened : DirectState T → ℕ → DirectState T
  direct_shortened s m = record s { slots = shortened m s.slots }

  -- there is room for so many
  abbrev pub direct_with_room_for : StackKind → DirectState T → ℕ → DirectState T
  direct_with_room_for kind s m = record s { room = reallocated_room kind s.room (direct_slot_count s) m }

  -- reallocation to so many: free slots past them go first
  abbrev pub direct_reallocated : StackKind → DirectState T → ℕ → DirectState T
  direct_reallocated kind s m = direct_with_room_for kind (direct_shortened s m) m

  -- the arena with a place for so many: where they are past the capacity, it is reallocated
  abbrev pub direct_ready_for : StackKind → DirectState T → ℕ → DirectState T
  direct_ready_for kind s m = cond (nat_lt (direct_capacity s) m) (direct_reallocated kind s m) s

  -- the arena with these slots
  abbrev pub direct_with_slots : DirectState T → List (Option (ℕ × T)) → DirectState T
  direct_with_slots s slots = record s { slots = slots }

  -- so many slots are allowed
  abbrev pub direct_with_limit : DirectState T → ℕ → DirectState T
  direct_with_limit s x = record s { limit = Some x }
