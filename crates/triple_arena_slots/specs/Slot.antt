-- What a slot holds.
use Rattle.std.specs.Prelude.{◌≡◌, ℕ, ◌==◌, cond, Option, Some, None}
use Rattle.triple_arena_slots.specs.Link.{Link}
use Rattle.triple_arena_slots.specs.declared.slot.ArenaSlot.{ArenaSlot}
use Rattle.triple_arena_slots.specs.declared.slot.ArenaSlot.TheVariants.{Free, Allocated}

-- the index that the link of the free slot at index i leads to, if it leads to one
abbrev pub next_free : Link → ℕ → Option ℕ
next_free link i = cond (link.next == i) None (Some link.next)

-- the index that it leads back to, if it leads back to one
abbrev pub previous_free : Link → ℕ → Option ℕ
previous_free link i = cond (link.previous == i) None (Some link.previous)

-- one slot is touched where there is an index
abbrev pub touch_if : Option ℕ → ℕ
touch_if None = 0
touch_if (Some i) = 1

module _ {P T I G : Type 0} where
  -- the generation, by its number, and the value of the slot's entry, if it has one
  abbrev pub entry_of : (G → ℕ) → ArenaSlot P T I G → Option (ℕ × T)
  entry_of number (Free link) = None
  entry_of number (Allocated generation value) = Some (number generation, value)

  -- the slot with another value, if it has one
  abbrev pub with_slot_value : ArenaSlot P T I G → T → ArenaSlot P T I G
  with_slot_value (Free link) v = Free link
  with_slot_value (Allocated generation old) v = Allocated generation v

  -- the slot with another generation, if it has a value
  abbrev pub with_slot_generation : ArenaSlot P T I G → G → ArenaSlot P T I G
  with_slot_generation (Free link) g = Free link
  with_slot_generation (Allocated generation v) g = Allocated g v

  -- the index that the slot at index i leads to, if it is free and leads to one
  abbrev pub next_in : ArenaSlot P T I G → ℕ → Option ℕ
  next_in (Free link) i = next_free link i
  next_in (Allocated generation v) i = None

  -- the index that it leads back to, if it is free and leads back to one
  abbrev pub previous_in : ArenaSlot P T I G → ℕ → Option ℕ
  previous_in (Free link) i = previous_free link i
  previous_in (Allocated generation v) i = None

  -- a free slot stays so, and leads to this index by the one of its links, and by the other as before
  pub record LinksTo (read other : ArenaSlot P T I G → ℕ → Option ℕ) (old new : ArenaSlot P T I G) (i : ℕ) (to : Option ℕ) : Type 0 where
    pub free : (link : Link) × (new ≡ Free link)
    pub leads : read new i ≡ to
    pub kept : other new i ≡ other old i
