-- Reallocation, growth and limit of an arena.
use Rattle.std.specs.Prelude.{◌≡◌, ℕ, ◌<◌, ◌==◌, nat_lt, cond, Some, None}
use Rattle.triple_arena_stack.specs.StackKind.{StackKind, reallocated_room}
use Rattle.triple_arena_stack.specs.Capacity.{next_capacity}
use Rattle.triple_arena_traits.specs.ArenaState.{ArenaState, slot_count, arena_len, capacity, entry}
use Rattle.triple_arena_traits.specs.FreeList.{tidied}

module _ {T : Type 0} where
  -- the slots stay as they are, and there is room for so many
  abbrev pub with_room_for : StackKind → ArenaState T → ℕ → ArenaState T
  with_room_for kind s m = record s { room = reallocated_room kind s.room (slot_count s) m }

  -- reallocation to so many: the free list is tidied first
  abbrev pub reallocated : StackKind → ArenaState T → ℕ → ArenaState T
  reallocated kind s m = with_room_for kind (tidied s) m

  -- a reallocation to so many leaves the room as it is
  abbrev pub KeepsRoom : StackKind → ArenaState T → ℕ → Type 0
  KeepsRoom kind s m = (reallocated kind s m).room ≡ s.room

  -- the arena with a place for so many: where they are past the capacity, it is reallocated
  abbrev pub ready_for : StackKind → ArenaState T → ℕ → ArenaState T
  ready_for kind s m = cond (nat_lt (capacity s) m) (reallocated kind s m) s

  -- no entry stands past this index
  abbrev pub EndsBy : ArenaState T → ℕ → Type 0
  EndsBy s x = (i : ℕ) → x < i → entry s i ≡ None

  -- the arena that a limit of x is set on: below the capacity, and so below the old limit, the free list is tidied
  -- first
  abbrev pub ready_for_limit : ArenaState T → ℕ → ArenaState T
  ready_for_limit s x = cond (nat_lt x (capacity s)) (tidied s) s

  -- the limit is x
  abbrev pub with_limit : ArenaState T → ℕ → ArenaState T
  with_limit s x = record (ready_for_limit s x) { limit = Some x }

  -- a full arena grows; any other stays as it is
  abbrev pub grown : StackKind → ArenaState T → ArenaState T
  grown kind s = cond (arena_len s == capacity s) (with_room_for kind s (next_capacity (capacity s) s.limit s.greatest)) s
