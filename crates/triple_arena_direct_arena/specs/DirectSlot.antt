-- What a slot of a direct arena holds.
use Rattle.std.specs.Prelude.{ℕ, Option, Some, None}
use Rattle.triple_arena_direct_arena.specs.declared.slot.DirectSlot.{DirectSlot}
use Rattle.triple_arena_direct_arena.specs.declared.slot.DirectSlot.TheVariants.{Free, Allocated}

module _ {P T I G : Type 0} where
  -- the generation, by its number, and the value of the slot's entry, if it has one
  abbrev pub direct_slot_entry : (G → ℕ) → DirectSlot P T I G → Option (ℕ × T)
  direct_slot_entry number Free = None
  direct_slot_entry number (Allocated generation value) = Some (number generation, value)

  -- the slot with another value, if it has one
  abbrev pub direct_with_slot_value : DirectSlot P T I G → T → DirectSlot P T I G
  direct_with_slot_value Free v = Free
  direct_with_slot_value (Allocated generation old) v = Allocated generation v
