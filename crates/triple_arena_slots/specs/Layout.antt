-- How an arena lies in its slots. Of public clauses those of `Slots` cite this module, and `links` of an arena's `backing`.
use Rattle.std.specs.Prelude.{◌≡◌, ◌≢◌, ℕ, zero, suc, List, [], ◌∷◌, map, length, take, ◌-◌, Option, Some, None, MatchOption}
use Rattle.std.specs.Option.{option_and_then}
use Rattle.triple_arena_traits.specs.Items.{item, with_item}
use Rattle.triple_arena_traits.specs.Entries.{entry_in}
use Rattle.triple_arena_traits.specs.ArenaState.{ArenaState, IsWellFormed, arena_len, slot_count}
use Rattle.triple_arena_traits.specs.FreeList.{up_to}
use Rattle.triple_arena_slots.specs.Slot.{entry_of, next_in, previous_in}
use Rattle.triple_arena_slots.specs.declared.slot.ArenaSlot.{ArenaSlot}

-- from a link on, each index leads to the next and back to the one before, and the last leads to none
abbrev pub Linked : (ℕ → Option ℕ) → (ℕ → Option ℕ) → Option ℕ → Option ℕ → List ℕ → Type 0
Linked on back last from [] = from ≡ None
Linked on back last from (i ∷ rest) = (from ≡ Some i) × (back i ≡ last) × Linked on back (Some i) (on i) rest

module _ {P T I G : Type 0} where
  -- the free index that the slot of an index leads to by one of its links, if there is one
  abbrev pub led_to : (ArenaSlot P T I G → ℕ → Option ℕ) → List (ArenaSlot P T I G) → ℕ → Option ℕ
  led_to read es i = option_and_then (λ slot. read slot i) (item es i)

  -- the free index after i, if there is one
  abbrev pub after : List (ArenaSlot P T I G) → ℕ → Option ℕ
  after es i = led_to next_in es i

  -- the free index before i, if there is one
  abbrev pub before : List (ArenaSlot P T I G) → ℕ → Option ℕ
  before es i = led_to previous_in es i

  -- the indexes from a link on, at most so many
  abbrev pub chain : List (ArenaSlot P T I G) → ℕ → Option ℕ → List ℕ
  chain es zero from = []
  chain es (suc fuel) None = []
  chain es (suc fuel) (Some i) = i ∷ chain es fuel (after es i)

  -- the state that these slots and this first free index stand for, with counter, room, limit, greatest index and count of steps
  abbrev pub state_of : (number : G → ℕ) (es : List (ArenaSlot P T I G)) (root : Option ℕ) (counter room : ℕ) (limit : Option ℕ) (greatest steps : ℕ) → ArenaState T
  state_of number es root counter room limit greatest steps =
      record {
        slots = map (entry_of number) es;
        counter = counter;
        free = chain es (length es) root;
        room = room;
        limit = limit;
        greatest = greatest;
        steps = steps;
      }

  -- these free slots each link to the next and to the one before, and the first and the last to none there
  abbrev pub IsLinked : List (ArenaSlot P T I G) → Option ℕ → List ℕ → Type 0
  IsLinked es from free = Linked (after es) (before es) None from free

  -- of the slots one that is free, if any, leads to this index by the one of its links, and no other link changes
  pub record LeadsTo (read other : ArenaSlot P T I G → ℕ → Option ℕ) (number : G → ℕ) (old new : List (ArenaSlot P T I G)) (from to : Option ℕ) : Type 0 where
    pub entries : map (entry_of number) new ≡ map (entry_of number) old
    pub leads : (j : ℕ) → from ≡ Some j → led_to read new j ≡ to
    pub kept : (j : ℕ) → from ≢ Some j → led_to read new j ≡ led_to read old j
    pub rest : (j : ℕ) → led_to other new j ≡ led_to other old j

  -- the slot at the index is free, leads to what was first, and back to none, and no link of another changes but that
  -- what was first leads back to it
  pub record Begins (number : G → ℕ) (old new : List (ArenaSlot P T I G)) (root : Option ℕ) (i : ℕ) : Type 0 where
    pub entries : map (entry_of number) new ≡ with_item (map (entry_of number) old) i None
    pub next : after new i ≡ root
    pub first : before new i ≡ None
    pub back : (j : ℕ) → j ≢ i → root ≡ Some j → before new j ≡ Some i
    pub kept : (j : ℕ) → j ≢ i → after new j ≡ after old j
    pub kept_back : (j : ℕ) → j ≢ i → root ≢ Some j → before new j ≡ before old j

  -- a free slot with this link at this index can leave the list: the slots that it leads to are free, and two
  pub record CanLeave (number : G → ℕ) (es : List (ArenaSlot P T I G)) (on back : Option ℕ) : Type 0 where
    pub next : (j : ℕ) → on ≡ Some j → item (map (entry_of number) es) j ≡ Some None
    pub previous : (j : ℕ) → back ≡ Some j → item (map (entry_of number) es) j ≡ Some None
    pub apart : (j : ℕ) → back ≡ Some j → on ≢ Some j

  -- the slots before and after one that left lead to each other, and no other link changes; where there is none before
  -- it, the one after is the first
  pub record Leaves (number : G → ℕ) (old new : List (ArenaSlot P T I G)) (root new_root on back : Option ℕ) : Type 0 where
    pub entries : map (entry_of number) new ≡ map (entry_of number) old
    pub next : (j : ℕ) → back ≡ Some j → after new j ≡ on
    pub kept_next : (j : ℕ) → back ≢ Some j → after new j ≡ after old j
    pub previous : (j : ℕ) → on ≡ Some j → before new j ≡ back
    pub kept_previous : (j : ℕ) → on ≢ Some j → before new j ≡ before old j
    pub begins : MatchOption back (new_root ≡ on) (λ _. new_root ≡ root)

  -- the slots, the first free index and the count of entries are those of the state
  pub record Shows (number : G → ℕ) (es : List (ArenaSlot P T I G)) (root : Option ℕ) (len : ℕ) (s : ArenaState T) : Type 0 where
    pub slots : map (entry_of number) es ≡ s.slots
    pub linked : IsLinked es root s.free
    pub counted : len ≡ arena_len s
    pub well : IsWellFormed s

  -- the generation and value that stand at an index
  abbrev pub entry_at : (G → ℕ) → List (ArenaSlot P T I G) → ℕ → Option (ℕ × T)
  entry_at number es i = entry_in (map (entry_of number) es) i

-- the state without the last slot, which leaves the free list
abbrev pub without_last : {T : Type 0} → ArenaState T → ArenaState T
without_last s = record s { slots = take (slot_count s - 1) s.slots; free = up_to (slot_count s - 1) s.free }
