-- What a slot holds once another value is written into it.
use Rattle.std.proofs.Common.{◌≡◌, ℕ, Some, None, refl, sym, ap}
use Rattle.std.proofs.lemmas.Option.{same_Some}
use Rattle.std.specs.Option.{option_map}
use Rattle.triple_arena_slots.specs.declared.slot.ArenaSlot.{ArenaSlot}
use Rattle.triple_arena_slots.specs.declared.slot.ArenaSlot.TheVariants.{Free, Allocated}
use Rattle.triple_arena_slots.specs.Slot.{entry_of, with_slot_value}

module _ {P T I G : Type 0} (number : G → ℕ) where
  pub entry_of-written : (slot : ArenaSlot P T I G) (value : T) → entry_of number (with_slot_value slot value) ≡ option_map (λ (e : ℕ × T). (e.0, value)) (entry_of number slot)
  entry_of-written (Free link) value = refl
  entry_of-written (Allocated generation old) value = refl

  -- a slot with its own value is itself
  pub with_own_slot_value : (slot : ArenaSlot P T I G) (e : ℕ × T) → entry_of number slot ≡ Some e → with_slot_value slot e.1 ≡ slot
  with_own_slot_value (Free link) e is = refl
  with_own_slot_value (Allocated generation value) e is = ap (λ (w : ℕ × T). Allocated generation w.1) (sym (same_Some _ _ is))

  -- a free slot stays so, whatever value it is given
  pub free-with_slot_value : (slot : ArenaSlot P T I G) (value : T) → entry_of number slot ≡ None → with_slot_value slot value ≡ slot
  free-with_slot_value (Free link) value is = refl
  free-with_slot_value (Allocated generation old) value is = absurd (cc)
