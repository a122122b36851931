-- What a slot of a direct arena holds once another value is written into it.
use Rattle.std.proofs.Common.{◌≡◌, ℕ, Some, None, refl, sym, ap}
use Rattle.std.proofs.lemmas.Option.{same_Some}
use Rattle.std.specs.Option.{option_map}
use Rattle.triple_arena_direct_arena.specs.declared.slot.DirectSlot.{DirectSlot}
use Rattle.triple_arena_direct_arena.specs.declared.slot.DirectSlot.TheVariants.{Free, Allocated}
use Rattle.triple_arena_direct_arena.specs.DirectSlot.{direct_slot_entry, direct_with_slot_value}

module _ {P T I G : Type 0} (number : G → ℕ) where
  pub slot_entry-written : (slot : DirectSlot P T I G) (value : T) → direct_slot_entry number (direct_with_slot_value slot value) ≡ option_map (λ (e : ℕ × T). (e.0, value)) (direct_slot_entry number slot)
  slot_entry-written Free value = refl
  slot_entry-written (Allocated generation old) value = refl

  -- a slot with its own value is itself
  pub with_own_slot_value : (slot : DirectSlot P T I G) (e : ℕ × T) → direct_slot_entry number slot ≡ Some e → direct_with_slot_value slot e.1 ≡ slot
  with_own_slot_value Free e is = refl
  with_own_slot_value (Allocated generation value) e is = ap (λ (w : ℕ × T). Allocated generation w.1) (sym (same_Some _ _ is))

  -- a free slot stays so, whatever value it is given
  pub free-with_slot_value : (slot : DirectSlot P T I G) (value : T) → direct_slot_entry number slot ≡ None → direct_with_slot_value slot value ≡ slot
  free-with_slot_value Free value is = refl
  free-with_slot_value (Allocated generation old) value is = absurd (cc)
