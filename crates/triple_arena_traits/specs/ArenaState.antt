-- What an arena holds.
use Rattle.std.specs.Prelude.{◌≡◌, ℕ, ◌+◌, ◌≤◌, ◌==◌, Bool, true, false, cond, List, [], length, map, count_by, Option, Some, None, min}
use Rattle.std.specs.Option.{option_map}
use Rattle.triple_arena_stack.specs.Capacity.{stack_capacity}
use Rattle.triple_arena_traits.specs.Items.{item}
use Rattle.triple_arena_traits.specs.Entries.{entry_in, entry_count, with_value_in}

-- by index, from 1 to the number of slots, the generation and the value of the entry that stands there, or nothing; the
-- counter, which is the generation of the next entry; the free indexes, in the order in which insertion takes them; for how
-- many slots there is room, and how many are allowed, if there is a limit; the greatest index; and how many slots were
-- touched, of which bounded work alone speaks
pub record ArenaState (T : Type 0) : Type 0 where
  pub slots : List (Option (ℕ × T))
  pub counter : ℕ
  pub free : List ℕ
  pub room : ℕ
  pub limit : Option ℕ
  pub greatest : ℕ
  pub steps : ℕ

module _ {T : Type 0} where
  -- an arena without slots
  abbrev pub new_arena : (room : ℕ) (limit : Option ℕ) (greatest counter : ℕ) → ArenaState T
  new_arena room limit greatest counter = record { slots = []; counter = counter; free = []; room = room; limit = limit; greatest = greatest; steps = 0 }

  -- the number of slots
  abbrev pub slot_count : ArenaState T → ℕ
  slot_count s = length s.slots

  -- the number of entries
  abbrev pub arena_len : ArenaState T → ℕ
  arena_len s = entry_count s.slots

  -- how many entries fit without growth: the smallest of room, limit and greatest index
  abbrev pub capacity : ArenaState T → ℕ
  capacity s = min (stack_capacity s.room s.limit) s.greatest

  -- the entry at an index, if there is one
  abbrev pub entry : ArenaState T → ℕ → Option (ℕ × T)
  entry s i = entry_in s.slots i

  -- another value in the entry at an index
  abbrev pub with_value : ArenaState T → ℕ → T → ArenaState T
  with_value s i value = record s { slots = with_value_in s.slots i value }

  -- a slot without an entry
  abbrev pub is_free : Option (Option (ℕ × T)) → Bool
  is_free None = false
  is_free (Some None) = true
  is_free (Some (Some e)) = false

  -- the free indexes are those of the slots without an entry, each once, and the slots are no more than fit
  pub record IsWellFormed (s : ArenaState T) : Type 0 where
    pub free_once : (i : ℕ) → count_by (λ j. j == i) s.free ≡ cond (is_free (item s.slots i)) 1 0
    pub total : arena_len s + length s.free ≡ slot_count s
    pub fits : slot_count s ≤ capacity s

-- the entry with another value under its generation
abbrev pub map_entry : {T U : Type 0} → (T → U) → ℕ × T → ℕ × U
map_entry f e = (e.0, f e.1)

-- the arena with another value in each entry, how many slots were touched aside
abbrev pub map_values : {T U : Type 0} → (T → U) → ArenaState T → ArenaState U
map_values f s =
    record {
      slots = map (option_map (map_entry f)) s.slots;
      counter = s.counter;
      free = s.free;
      room = s.room;
      limit = s.limit;
      greatest = s.greatest;
      steps = 0;
    }
