-- What the slots and the state of a direct arena are, where values alone change.
use Rattle.std.proofs.Common.{◌≡◌, ℕ, List, map, Option, is_some, refl, sym, ap, ◌∙◌}
use Rattle.std.specs.Option.{option_and_then}
use Rattle.triple_arena_traits.specs.laws.ItemLaws.{joined}
use Rattle.triple_arena_traits.specs.Entries.{value_of_generation}
use Rattle.triple_arena_traits.specs.Kept.{filled_all}
use Rattle.triple_arena_traits.proofs.KeptSlots.{entries-filled}
use Rattle.triple_arena_traits.specs.laws.ValueLaws.{length-kept, count-kept, at-kept, generations-kept, under-kept}
use Rattle.triple_arena_direct_arena.specs.DirectState.{DirectState}
use Rattle.triple_arena_direct_arena.specs.DirectSlot.{direct_slot_entry, direct_with_slot_value}
use Rattle.triple_arena_direct_arena.specs.DirectLayout.{direct_of, Counts}
use Rattle.triple_arena_direct_arena.specs.laws.DirectSlotLaws.{slot_entry-written}
use Rattle.triple_arena_direct_arena.specs.DirectValues.{direct_with_values_of, DirectKeepsPointers}
use Rattle.triple_arena_direct_arena.specs.declared.slot.DirectSlot.{DirectSlot}
use Rattle.triple_arena_direct_arena.proofs.Held.{made}

module _ {T : Type 0} where
  -- a walk that writes values keeps the pointers
  pub keeps_pointers : (s : DirectState T) → DirectKeepsPointers s
  keeps_pointers s w =
      record {
        pointers = λ q. at-kept (λ o. is_some (option_and_then (value_of_generation q.1) (joined o))) (under-kept q.1) s.slots w.slots q.0;
        generations = generations-kept s.slots w.slots;
        len = count-kept s.slots w.slots;
        room = refl;
        limit = refl;
        greatest = refl;
      }

  Counts-kept : (len : ℕ) (s w : DirectState T) → Counts len s → Counts len (direct_with_values_of s w)
  Counts-kept len s w counts =
      record {
        counted = counts.counted ∙ sym (count-kept s.slots w.slots);
        fits = rw (length-kept s.slots w.slots) counts.fits;
      }

module _ {P T I G : Type 0} (number : G → ℕ) where
  -- the invariant and the view of an arena whose values alone changed
  pub kept_within : (es es' : List (DirectSlot P T I G)) (len room room' : ℕ) (limit limit' : Option ℕ) (greatest : ℕ) (w : DirectState T) → es' ≡ filled_all direct_with_slot_value es w.slots → room' ≡ room → limit' ≡ limit → Counts len (direct_of number es room limit greatest)
      → Counts len (direct_of number es' room' limit' greatest) × (direct_of number es' room' limit' greatest ≡ direct_with_values_of (direct_of number es room limit greatest) w)
  kept_within es es' len room room' limit limit' greatest w e r l counts =
      let s : DirectState T = direct_of number es room limit greatest in
      made number es' len room' limit' greatest (direct_with_values_of s w) (ap (map (direct_slot_entry number)) e ∙ entries-filled direct_with_slot_value (direct_slot_entry number) (slot_entry-written number) es w.slots) r l refl (Counts-kept len s w counts)
