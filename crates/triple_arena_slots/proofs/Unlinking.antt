-- What writes to the links of single slots make of all links.
use Rattle.std.proofs.Common.{◌≡◌, ◌≢◌, ℕ, ◌≤◌, List, map, length, Option, Some, None, IsSome, MatchOption, refl, sym, ap, subst, ◌∙◌, inl, inr, arith, true≢false}
use Rattle.std.proofs.lemmas.Bool.{cases_eq}
use Rattle.std.proofs.lemmas.List.{length-map}
use Rattle.std.proofs.lemmas.Option.{same_Some}
use Rattle.std.specs.Option.{option_map}
use Rattle.triple_arena_traits.specs.Items.{item, with_item}
use Rattle.triple_arena_traits.specs.laws.ItemLaws.{map-with_item, item_within, item-map, item-with_same, item-with_other, with_item_same, item-map_some}
use Rattle.triple_arena_slots.specs.Slot.{entry_of, next_free, previous_free, next_in, previous_in, LinksTo}
use Rattle.triple_arena_slots.specs.Layout.{led_to, LeadsTo, Begins, Leaves}
use Rattle.triple_arena_slots.specs.Link.{Link}
use Rattle.triple_arena_slots.specs.declared.slot.ArenaSlot.{ArenaSlot}
use Rattle.triple_arena_slots.specs.declared.slot.ArenaSlot.TheVariants.{Free}
use Rattle.triple_arena_slots.proofs.Links.{led_at, led_same}

pub there_indexed : {A : Type 0} (xs : List A) (i greatest : ℕ) → length xs ≤ greatest → IsSome (item xs i) → i ≤ greatest
there_indexed xs i greatest indexed there = by_item (item xs i) refl there
  where
    by_item : (o : Option _) → item xs i ≡ o → IsSome o → i ≤ greatest
    by_item None is some = absurd (true≢false (sym some))
    by_item (Some x) is some = omega (arith, indexed, (item_within xs i x is).1)

-- the slots of as many entries are as many
pub same_indexed : {A B : Type 0} (f : A → B) (new old : List A) (greatest : ℕ) → map f new ≡ map f old → length old ≤ greatest → length new ≤ greatest
same_indexed f new old greatest same indexed = omega (arith, ap length same, length-map new f, length-map old f, indexed)

module _ {P T I G : Type 0} (number : G → ℕ) where
  -- the slot of an index where the state has a free one
  pub free_slot_at : (es : List (ArenaSlot P T I G)) (i : ℕ) → item (map (entry_of number) es) i ≡ Some None → (slot : ArenaSlot P T I G) × (item es i ≡ Some slot)
  free_slot_at es i vacant = by_item (item es i) refl
    where
      by_item : (o : Option (ArenaSlot P T I G)) → item es i ≡ o → (slot : ArenaSlot P T I G) × (item es i ≡ Some slot)
      by_item None h = absurd (let k = item-map (entry_of number) es i ∙ ap (option_map (entry_of number)) h in cc)
      by_item (Some slot) h = (slot, h)

  pub no_entry_at : (es : List (ArenaSlot P T I G)) (i : ℕ) (slot : ArenaSlot P T I G) → item (map (entry_of number) es) i ≡ Some None → item es i ≡ Some slot → entry_of number slot ≡ None
  no_entry_at es i slot vacant found = same_Some _ _ (sym (item-map_some (entry_of number) es i slot found) ∙ vacant)

  -- the index of a slot is within what all of them are within
  pub free_indexed : (es : List (ArenaSlot P T I G)) (i greatest : ℕ) → length es ≤ greatest → item (map (entry_of number) es) i ≡ Some None → i ≤ greatest
  free_indexed es i greatest indexed vacant =
      omega (arith, indexed, (item_within (map (entry_of number) es) i None vacant).1, length-map es (entry_of number))

  same_entries : (es : List (ArenaSlot P T I G)) (i : ℕ) (slot new : ArenaSlot P T I G) → item es i ≡ Some slot → entry_of number slot ≡ None → (link : Link) × (new ≡ Free link) → map (entry_of number) (with_item es i new) ≡ map (entry_of number) es
  same_entries es i slot new found none free =
      map-with_item (entry_of number) es i new ∙ with_item_same (map (entry_of number) es) i (entry_of number new) (item-map_some (entry_of number) es i slot found ∙ ap Some (none ∙ sym (ap (entry_of number) free.1)))

  module _ (read other : ArenaSlot P T I G → ℕ → Option ℕ) where
    pub LeadsTo-none : (es : List (ArenaSlot P T I G)) (to : Option ℕ) → LeadsTo read other number es es None to
    LeadsTo-none es to = record { entries = refl; leads = λ j e. absurd (cc); kept = λ j h. refl; rest = λ j. refl }

    pub LeadsTo-some : (es es1 : List (ArenaSlot P T I G)) (i : ℕ) (slot new : ArenaSlot P T I G) (to : Option ℕ) → item es i ≡ Some slot → entry_of number slot ≡ None → LinksTo read other slot new i to → es1 ≡ with_item es i new → LeadsTo read other number es es1 (Some i) to
    LeadsTo-some es es1 i slot new to found none links written =
        let within = item_within es i slot found in
        let here = item-with_same es i new within.0 within.1 in
        let apart : (j : ℕ) → Some i ≢ Some j → item (with_item es i new) j ≡ item es j = λ j h. item-with_other es i j new (λ e. h (ap Some (sym e))) in
        rw written (record {
          entries = same_entries es i slot new found none links.free;
          leads = λ j e. subst (λ k. led_to read (with_item es i new) k ≡ to) (same_Some _ _ e) (led_at read (with_item es i new) i new here ∙ links.leads);
          kept = λ j h. led_same read es (with_item es i new) j (apart j h);
          rest = λ j. elim (cases_eq i j) [
            | inl e ↦ subst (λ k. led_to other (with_item es i new) k ≡ led_to other es k) e (led_at other (with_item es i new) i new here ∙ links.kept ∙ sym (led_at other es i slot found))
            | inr ne ↦ led_same other es (with_item es i new) j (apart j (λ e. ne (same_Some _ _ e)))
          ];
        })

  -- the slot that was first leads back to one that is put before it
  pub Begins-put : (es es1 es2 : List (ArenaSlot P T I G)) (root : Option ℕ) (i : ℕ) (link : Link) (old : ArenaSlot P T I G) → item es i ≡ Some old → next_free link i ≡ root → previous_free link i ≡ None → root ≢ Some i → es1 ≡ with_item es i (Free link) → LeadsTo previous_in next_in number es1 es2 root (Some i) → Begins number es es2 root i
  Begins-put es es1 es2 root i link old found next first other put back =
      let within = item_within es i old found in
      let here : item es1 i ≡ Some (Free link) = ap (λ xs. item xs i) put ∙ item-with_same es i (Free link) within.0 within.1 in
      let same : (j : ℕ) → j ≢ i → item es1 j ≡ item es j = λ j ne. ap (λ xs. item xs j) put ∙ item-with_other es i j (Free link) ne in
      record {
        entries = back.entries ∙ ap (map (entry_of number)) put ∙ map-with_item (entry_of number) es i (Free link);
        next = back.rest i ∙ led_at next_in es1 i (Free link) here ∙ next;
        first = back.kept i other ∙ led_at previous_in es1 i (Free link) here ∙ first;
        back = λ j ne e. back.leads j e;
        kept = λ j ne. back.rest j ∙ led_same next_in es es1 j (same j ne);
        kept_back = λ j ne h. back.kept j h ∙ led_same previous_in es es1 j (same j ne);
      }

  -- the slots before and after one that left lead to each other
  pub Leaves-led : (es es1 es2 : List (ArenaSlot P T I G)) (root root2 next previous : Option ℕ) → MatchOption previous (root2 ≡ next) (λ _. root2 ≡ root) → LeadsTo next_in previous_in number es es1 previous next → LeadsTo previous_in next_in number es1 es2 next previous → Leaves number es es2 root root2 next previous
  Leaves-led es es1 es2 root root2 next previous begins on back =
      record {
        entries = back.entries ∙ on.entries;
        next = λ j e. back.rest j ∙ on.leads j e;
        kept_next = λ j h. back.rest j ∙ on.kept j h;
        previous = λ j e. back.leads j e;
        kept_previous = λ j h. back.kept j h ∙ on.rest j;
        begins = begins;
      }
