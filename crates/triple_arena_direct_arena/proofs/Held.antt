-- How the count and the state of a direct arena follow its slots.
use Rattle.std.proofs.Common.{◌≡◌, ◌≢◌, ℕ, ◌+◌, ◌-◌, ◌<◌, ◌≤◌, List, [], ◌∷◌, zero, suc, inl, inr, map, length, take, Option, Some, None, is_some, IsSome, cond, max, refl, sym, ap, subst, ◌∙◌, arith, true}
use Rattle.std.proofs.lemmas.Bool.{cases_eq}
use Rattle.std.proofs.lemmas.List.Sums.{count_by-le-length}
use Rattle.std.specs.Option.{option_map, option_and_then}
use Rattle.triple_arena_ptr.specs.Pointers.{Pointer}
use Rattle.triple_arena_stack.specs.StackKind.{StackKind}
use Rattle.triple_arena_traits.specs.Items.{item, with_item}
use Rattle.triple_arena_traits.specs.laws.ItemLaws.{eq_false, with_item-past, length-with_item, map-with_item, with_item-twice, item-with_other, item-map_none}
use Rattle.triple_arena_traits.specs.Entries.{entry_in, entry_count, look_up, value_of_generation, with_value_in, ChangesAt}
use Rattle.triple_arena_traits.specs.laws.EntryLaws.{within_room}
use Rattle.triple_arena_traits.specs.DirectInsertion.{IsVacant}
use Rattle.triple_arena_traits.specs.FreeList.{trimmed}
use Rattle.triple_arena_traits.specs.SlotPairs.{WritesTwo}
use Rattle.triple_arena_traits.specs.laws.PointerListLaws.{pointer_is}
use Rattle.triple_arena_traits.proofs.LookUps.{others_found, new_found}
use Rattle.triple_arena_traits.specs.laws.WellFormedLaws.{entry_of_value, with_value_is}
use Rattle.triple_arena_traits.specs.FreeEnd.{extended}
use Rattle.triple_arena_direct_arena.specs.DirectState.{DirectState, direct_slot_count, direct_capacity, direct_with_value, inserted_at, direct_removed, direct_shortened, direct_with_room_for, direct_with_slots}
use Rattle.triple_arena_direct_arena.specs.laws.DirectStepLaws.{len-with_value, len_taken, count-shortened}
use Rattle.triple_arena_direct_arena.specs.laws.DirectInsertionLaws.{length-extended, slots-inserted_at, len-inserted_at}
use Rattle.triple_arena_direct_arena.specs.DirectSlot.{direct_slot_entry, direct_with_slot_value}
use Rattle.triple_arena_direct_arena.specs.laws.DirectSlotLaws.{slot_entry-written}
use Rattle.triple_arena_direct_arena.specs.DirectLayout.{direct_of, Counts}
use Rattle.triple_arena_slots.specs.Lends.{with_value_at}
use Rattle.triple_arena_direct_arena.specs.declared.slot.DirectSlot.{DirectSlot}
use Rattle.triple_arena_traits.proofs.SlotEntries.{entry_item}

module _ {A : Type 0} where
  length-front : (n : ℕ) (xs : List A) → length (take n xs) ≤ length xs
  length-front zero xs = omega arith
  length-front (suc n) [] = omega arith
  length-front (suc n) (x ∷ xs) = omega (arith, length-front n xs)

module _ {T : Type 0} where
  pub Counts-removed : (len : ℕ) (s : DirectState T) (i : ℕ) → IsSome (entry_in s.slots i) → Counts len s → Counts (len - 1) (direct_removed s i)
  Counts-removed len s i live counts =
      record {
        counted = omega (arith, len_taken s i live, counts.counted);
        fits = omega (arith, length-with_item s.slots i None, counts.fits);
      }

  -- there are no more entries than indexes
  pub counted_within : (len : ℕ) (s : DirectState T) → Counts len s → len ≤ s.greatest
  counted_within len s counts = omega (arith, count_by-le-length is_some s.slots, counts.counted, counts.fits)

  pub Counts-inserted_at : (len : ℕ) (s : DirectState T) (p : Pointer) (v : T) → 0 < p.0 → IsVacant s.slots (direct_capacity s) p.0 → Counts len s → Counts (len + 1) (inserted_at s p v)
  Counts-inserted_at len s p v positive vacant counts =
      record {
        counted = omega (arith, len-inserted_at s p v positive vacant, counts.counted);
        fits = omega (arith, length-with_item (extended s.slots p.0) p.0 (Some (p.1, v)), length-extended s.slots p.0, vacant.within, counts.fits);
      }

  inserted_changes : (old new : DirectState T) (p : Pointer) (v : T) → 0 < p.0 → new ≡ inserted_at old p v → ChangesAt old.slots p.0 (Some (p.1, v)) new.slots
  inserted_changes old new p v positive is = rw is (slots-inserted_at old p v positive)

  -- the pointer of an insertion finds the value
  pub found_inserted_at : (old new : DirectState T) (p : Pointer) (v : T) → 0 < p.0 → new ≡ inserted_at old p v → look_up new.slots p ≡ Some v
  found_inserted_at old new p v positive is =
      new_found old.slots new.slots p p v refl (inserted_changes old new p v positive is)

  stale : (generation h : ℕ) (v : T) → h ≢ generation → option_and_then (value_of_generation generation) (Some (h, v)) ≡ None
  stale generation h v other = ap (λ b. cond b (Some v) None) (eq_false h generation other)

  -- every other pointer finds what it found
  pub others_inserted_at : (old new : DirectState T) (p : Pointer) (v : T) → 0 < p.0 → entry_in old.slots p.0 ≡ None → new ≡ inserted_at old p v → (q : Pointer) → q ≢ p → look_up new.slots q ≡ look_up old.slots q
  others_inserted_at old new p v positive free is q other =
      elim (cases_eq q.0 p.0) [
        | inl here ↦
            ap (option_and_then (value_of_generation q.1)) (ap (entry_in new.slots) here ∙ change.there)
            ∙ stale q.1 p.1 v (λ same. other (pointer_is q.0 q.1 p.0 p.1 here (sym same)))
            ∙ sym (ap (option_and_then (value_of_generation q.1)) (ap (entry_in old.slots) here ∙ free))
        | inr away ↦ others_found old.slots new.slots p.0 (Some (p.1, v)) change q away
      ]
    where
      change : ChangesAt old.slots p.0 (Some (p.1, v)) new.slots
      change = inserted_changes old new p v positive is

  -- what is written under the pointer of an insertion stands as if it was inserted
  pub rewritten_at : (old new : DirectState T) (p : Pointer) (v w : T) → 0 < p.0 → new ≡ inserted_at old p v → direct_with_value new p.0 w ≡ inserted_at old p w
  rewritten_at old new p v w positive is =
      let put = slots-inserted_at old p v positive in
      ap (λ s. direct_with_value s p.0 w) is
      ∙ ap (λ xs. record old { slots = xs }) (
      with_value_is (inserted_at old p v).slots p.0 p.1 v w put.there
      ∙ with_item-twice (extended old.slots p.0) p.0 (Some (p.1, v)) (Some (p.1, w))
      )

  pub Counts-with_value : (len : ℕ) (s : DirectState T) (i : ℕ) (w : T) → Counts len s → Counts len (direct_with_value s i w)
  Counts-with_value len s i w counts =
      record {
        counted = counts.counted ∙ sym (len-with_value s i w);
        fits = omega (arith, length-with_item s.slots i (option_map (λ (e : ℕ × T). (e.0, w)) (entry_in s.slots i)), counts.fits);
      }

  pub Counts-shortened : (len : ℕ) (s : DirectState T) (m : ℕ) → Counts len s → Counts len (direct_shortened s m)
  Counts-shortened len s m counts =
      record {
        counted = counts.counted ∙ sym (count-shortened m s.slots);
        fits = omega (arith, length-front (max (length (trimmed s.slots)) m) s.slots, counts.fits);
      }

  pub Counts-slots : (len : ℕ) (s : DirectState T) (xs : List (Option (ℕ × T))) → len ≡ entry_count xs → length xs ≤ direct_capacity s → Counts len (direct_with_slots s xs)
  Counts-slots len s xs counted fits = record { counted = counted; fits = fits }

  pub Counts-room : (kind : StackKind) (len : ℕ) (s : DirectState T) (m : ℕ) → Counts len s → Counts len (direct_with_room_for kind s m)
  Counts-room kind len s m counts =
      record { counted = counts.counted; fits = within_room kind s.room (direct_slot_count s) m s.greatest s.limit counts.fits }

  -- the value that is read at the index of a valid pointer
  pub value_read : (xs ys : List (Option (ℕ × T))) (p : Pointer) (i : ℕ) (v : T) → xs ≡ ys → i ≡ p.0 → is_some (look_up xs p) ≡ true → option_map (λ (e : ℕ × T). e.1) (entry_in xs i) ≡ Some v → look_up ys p ≡ Some v
  value_read xs ys p i v same here live read =
      let found = entry_of_value ys p.0 p.1 (ap (λ (zs : List (Option (ℕ × T))). is_some (look_up zs p)) (sym same) ∙ live) in
      found.2
      ∙ sym (ap (option_map (λ (e : ℕ × T). e.1)) found.1)
      ∙ ap (λ n. option_map (λ (e : ℕ × T). e.1) (entry_in ys n)) (sym here)
      ∙ ap (λ (zs : List (Option (ℕ × T))). option_map (λ (e : ℕ × T). e.1) (entry_in zs i)) (sym same)
      ∙ read

  pub entry_value_read : (xs ys : List (Option (ℕ × T))) (i j : ℕ) (v : T) → xs ≡ ys → j ≡ i → option_map (λ (e : ℕ × T). e.1) (entry_in xs j) ≡ Some v → option_map (λ (e : ℕ × T). e.1) (entry_in ys i) ≡ Some v
  entry_value_read xs ys i j v same here read =
      ap (λ n. option_map (λ (e : ℕ × T). e.1) (entry_in ys n)) (sym here)
      ∙ ap (λ (zs : List (Option (ℕ × T))). option_map (λ (e : ℕ × T). e.1) (entry_in zs j)) (sym same)
      ∙ read

module _ {P T I G : Type 0} (number : G → ℕ) where
  -- slots that are those of a state, with its count, make an arena of that state
  pub made : (es : List (DirectSlot P T I G)) (len room : ℕ) (limit : Option ℕ) (greatest : ℕ) (s : DirectState T) → map (direct_slot_entry number) es ≡ s.slots → room ≡ s.room → limit ≡ s.limit → greatest ≡ s.greatest → Counts len s → Counts len (direct_of number es room limit greatest) × (direct_of number es room limit greatest ≡ s)
  made es len room limit greatest s slots r l g counts =
      let is : direct_of number es room limit greatest ≡ s = rw (slots, r, l, g) refl in
      (rw is counts, is)

  written : (es : List (DirectSlot P T I G)) (i : ℕ) (w : T) → map (direct_slot_entry number) (with_value_at direct_with_slot_value es i (item es i) w) ≡ with_value_in (map (direct_slot_entry number) es) i w
  written es i w = by_item (item es i) refl
    where
      by_item : (o : Option (DirectSlot P T I G)) → item es i ≡ o → map (direct_slot_entry number) (with_value_at direct_with_slot_value es i o w) ≡ with_value_in (map (direct_slot_entry number) es) i w
      by_item None none =
          sym (with_item-past (map (direct_slot_entry number) es) i (option_map (λ (e : ℕ × T). (e.0, w)) (entry_in (map (direct_slot_entry number) es) i)) (item-map_none (direct_slot_entry number) es i none))
      by_item (Some x) found =
          map-with_item (direct_slot_entry number) es i (direct_with_slot_value x w)
          ∙ ap (with_item (map (direct_slot_entry number) es) i) (slot_entry-written number x w ∙ ap (option_map (λ (e : ℕ × T). (e.0, w))) (sym (entry_item (direct_slot_entry number) es i x found)))

  -- with other values in two slots the entries have them too
  pub both_written : (es es' : List (DirectSlot P T I G)) (i j : ℕ) (x y : T) → i ≢ j → WritesTwo direct_with_slot_value es es' i j x y → map (direct_slot_entry number) es' ≡ with_value_in (with_value_in (map (direct_slot_entry number) es) i x) j y
  both_written es es' i j x y apart w =
      let one : List (DirectSlot P T I G) = with_item es i (direct_with_slot_value w.first x) in
      let there : item one j ≡ Some w.second = item-with_other es i j (direct_with_slot_value w.first x) (λ e. apart (sym e)) ∙ w.at_second in
      let first : map (direct_slot_entry number) one ≡ with_value_in (map (direct_slot_entry number) es) i x = ap (λ o. map (direct_slot_entry number) (with_value_at direct_with_slot_value es i o x)) (sym w.at_first) ∙ written es i x in
      let second : map (direct_slot_entry number) (with_item one j (direct_with_slot_value w.second y)) ≡ with_value_in (map (direct_slot_entry number) one) j y = ap (λ o. map (direct_slot_entry number) (with_value_at direct_with_slot_value one j o y)) (sym there) ∙ written one j y in
      ap (map (direct_slot_entry number)) w.written ∙ second ∙ ap (λ xs. with_value_in xs j y) first

  -- the arena after a write through a borrow of a value
  pub lent : (es es' : List (DirectSlot P T I G)) (len room room' : ℕ) (limit limit' : Option ℕ) (greatest : ℕ) (s : DirectState T) (i : ℕ) (w : T) → Counts len (direct_of number es room limit greatest) → direct_of number es room limit greatest ≡ s → es' ≡ with_value_at direct_with_slot_value es i (item es i) w → room' ≡ room → limit' ≡ limit → Counts len (direct_of number es' room' limit' greatest) × (direct_of number es' room' limit' greatest ≡ direct_with_value s i w)
  lent es es' len room room' limit limit' greatest s i w own is put r l =
      made es' len room' limit' greatest (direct_with_value s i w)
      (ap (map (direct_slot_entry number)) put ∙ written es i w ∙ ap (λ (t : DirectState T). with_value_in t.slots i w) is)
      (r ∙ ap (λ (t : DirectState T). t.room) is) (l ∙ ap (λ (t : DirectState T). t.limit) is) (ap (λ (t : DirectState T). t.greatest) is)
      (Counts-with_value len s i w (subst (Counts len) is own))
