-- How the slots, and the links in them, follow each change of an arena.
use Rattle.std.proofs.Common.{◌≡◌, ◌≢◌, ℕ, zero, suc, ◌+◌, ◌-◌, ◌<◌, ◌≤◌, ◌==◌, List, [], ◌∷◌, ◌++◌, map, length, take, Option, Some, None, is_some, IsSome, count_by, cond, slice_get, refl, sym, ap, subst, ◌∙◌, arith, true≢false, true, false, Bool, IfSome, ◌↔◌, MatchOption}
use Rattle.std.proofs.lemmas.List.{length-take-le, length-map, length_push, map_push, take-map}
use Rattle.std.proofs.lemmas.List.Sums.{sum_by_push}
use Rattle.std.proofs.lemmas.Option.{same_Some}
use Rattle.std.specs.Option.{option_map, option_and_then}
use Rattle.triple_arena_traits.specs.Items.{item, with_item}
use Rattle.triple_arena_traits.specs.Entries.{with_generation_in}
use Rattle.triple_arena_traits.specs.ArenaState.{ArenaState, capacity, slot_count, arena_len, with_value, is_free, IsWellFormed}
use Rattle.triple_arena_traits.specs.Insertion.{place_among, place, inserted_among, inserted}
use Rattle.triple_arena_traits.specs.SlotSteps.{steps_among, insertion_steps}
use Rattle.triple_arena_traits.specs.Ending.{removed}
use Rattle.triple_arena_slots.specs.Slot.{entry_of, touch_if, next_free, previous_free, next_in, previous_in, with_slot_value, with_slot_generation}
use Rattle.triple_arena_slots.specs.Layout.{entry_at, Linked, led_to, after, before, chain, state_of, IsLinked, Begins, CanLeave, Leaves, Shows}
use Rattle.triple_arena_slots.specs.Lends.{with_value_at}
use Rattle.triple_arena_slots.specs.Link.{Link}
use Rattle.triple_arena_slots.specs.declared.slot.ArenaSlot.{ArenaSlot}
use Rattle.triple_arena_slots.specs.declared.slot.ArenaSlot.TheVariants.{Free, Allocated}
use Rattle.triple_arena_traits.specs.laws.ItemLaws.{joined, map-with_item, eq_true, eq_false, item_within, item-with_other, item-push_other, split_last, item-map, item-map_some, item-map_none}
use Rattle.triple_arena_slots.proofs.TwoWay.{times, Once, Skips, Leads, Linked-same, Linked-skipped, Linked-led, neighbours_apart, next_there, previous_there, root_skipped, split_at}
use Rattle.triple_arena_traits.proofs.SlotEntries.{entry_item}
use Rattle.triple_arena_traits.specs.laws.WellFormedLaws.{with_entry, with_value_is, with_generation_is, live_counted, live_not_free, IsWellFormed-inserted, IsWellFormed-removed, IsWellFormed-with_entry, IsWellFormed-counter}
use Rattle.triple_arena_traits.specs.laws.EntryLaws.{first_free}
use Rattle.triple_arena_traits.specs.laws.LengthLaws.{count-with_item}

not_own : (n i j : ℕ) (b : Bool) → (n == i) ≡ b → cond b None (Some n) ≡ Some j → j ≢ i
not_own n i j true t e = absurd (cc)
not_own n i j false t e = λ h. true≢false (sym (eq_true n i (same_Some _ _ e ∙ h)) ∙ t)

when_none : (o : Option ℕ) (A : Type 0) (B : ℕ → Type 0) → MatchOption o A B → o ≡ None → A
when_none None A B m e = m
when_none (Some j) A B m e = absurd (cc)

when_some : (o : Option ℕ) (A B : Type 0) (j : ℕ) → MatchOption o A (λ _. B) → o ≡ Some j → B
when_some None A B j m e = absurd (cc)
when_some (Some k) A B j m e = m

module _ {T : Type 0} where
  -- an index of the free list is that of a free slot, and the other way round
  pub vacant_there : (s : ArenaState T) (j : ℕ) → IsWellFormed s → 1 ≤ times j s.free → item s.slots j ≡ Some None
  vacant_there s j well there = by_slot (item s.slots j) (well.free_once j)
    where
      by_slot : (o : Option (Option (ℕ × T))) → times j s.free ≡ cond (is_free o) 1 0 → o ≡ Some None
      by_slot None h = absurd (omega (arith, h, there))
      by_slot (Some None) h = refl
      by_slot (Some (Some e)) h = absurd (omega (arith, h, there))

  pub there_vacant : (s : ArenaState T) (j : ℕ) → IsWellFormed s → item s.slots j ≡ Some None → 1 ≤ times j s.free
  there_vacant s j well vacant = omega (arith, rw vacant at (well.free_once j))

  pub Once-free : (s : ArenaState T) → IsWellFormed s → Once s.free
  Once-free s well j = by_test (is_free (item s.slots j)) (well.free_once j)
    where
      by_test : (b : Bool) → times j s.free ≡ cond b 1 0 → times j s.free ≤ 1
      by_test true h = omega (arith, h)
      by_test false h = omega (arith, h)

module _ {P T I G : Type 0} where
  -- the chain from a link is the list that it links
  pub chain_from : (es : List (ArenaSlot P T I G)) (fuel : ℕ) (last from : Option ℕ) (free : List ℕ) → length free ≤ fuel → Linked (after es) (before es) last from free → chain es fuel from ≡ free
  chain_from es zero last from [] fits linked = refl
  chain_from es (suc fuel) last from [] fits linked = rw linked refl
  chain_from es zero last from (i ∷ rest) fits linked = absurd (omega arith)
  chain_from es (suc fuel) last from (i ∷ rest) fits linked =
      rw linked.0 (ap (λ l. i ∷ l) (chain_from es fuel (Some i) (after es i) rest (omega arith) linked.2))

  -- where a slot leads, and that it leads there still where it stays
  pub led_at : (read : ArenaSlot P T I G → ℕ → Option ℕ) (es : List (ArenaSlot P T I G)) (i : ℕ) (slot : ArenaSlot P T I G) → item es i ≡ Some slot → led_to read es i ≡ read slot i
  led_at read es i slot found = ap (option_and_then (λ (s : ArenaSlot P T I G). read s i)) found

  pub led_same : (read : ArenaSlot P T I G → ℕ → Option ℕ) (old new : List (ArenaSlot P T I G)) (j : ℕ) → item new j ≡ item old j → led_to read new j ≡ led_to read old j
  led_same read old new j same = ap (option_and_then (λ slot. read slot j)) same

  -- what changes under an index that is not on the list keeps the list
  pub IsLinked-off : (old new : List (ArenaSlot P T I G)) (k : ℕ) (from : Option ℕ) (free : List ℕ) → ((j : ℕ) → j ≢ k → item new j ≡ item old j) → count_by (λ j. j == k) free ≡ 0 → IsLinked old from free → IsLinked new from free
  IsLinked-off old new k from free same off linked =
      Linked-same (after old) (before old) (after new) (before new) None from free (λ j there.
      let other : j ≢ k = λ e. omega (arith, off, subst (λ m. 1 ≤ times m free) e there) in
      (led_same next_in old new j (same j other), led_same previous_in old new j (same j other))) linked

  -- the links go from the first free index on
  pub linked_from_first : (es : List (ArenaSlot P T I G)) (root : Option ℕ) (free : List ℕ) → IsLinked es root free → IsLinked es (slice_get free 0) free
  linked_from_first es root [] linked = refl
  linked_from_first es root (i ∷ rest) linked = (refl, linked.1, linked.2)

  module _ (number : G → ℕ) where
    -- slots that show a state make an arena of that state
    pub shows_state : (es : List (ArenaSlot P T I G)) (root : Option ℕ) (len counter room : ℕ) (limit : Option ℕ) (greatest steps : ℕ) (s : ArenaState T) → Shows number es root len s → counter ≡ s.counter → room ≡ s.room → limit ≡ s.limit → greatest ≡ s.greatest → steps ≡ s.steps → Shows number es root len (state_of number es root counter room limit greatest steps) × (state_of number es root counter room limit greatest steps ≡ s)
    shows_state es root len counter room limit greatest steps s shows c r l g n =
        let size : length es ≡ length s.slots = sym (length-map es (entry_of number)) ∙ ap length shows.slots in
        let free : chain es (length es) root ≡ s.free = chain_from es (length es) None root s.free (omega (arith, shows.well.total)) shows.linked in
        let is : state_of number es root counter room limit greatest steps ≡ s = rw (c, r, l, g, n, shows.slots, free) refl in
        (rw is shows, is)

    -- an index of slots of which one is free, with this link
    pub record IsFreeAt (es : List (ArenaSlot P T I G)) (root : Option ℕ) (i : ℕ) (link : Link) (s : ArenaState T) : Type 0 where
      pub found : item es i ≡ Some (Free link)
      pub in_front : List ℕ
      pub behind : List ℕ
      pub split : s.free ≡ in_front ++ i ∷ behind
      pub linked : IsLinked es root (in_front ++ i ∷ behind)
      pub once : Once (in_front ++ i ∷ behind)

    pub free_at : (es : List (ArenaSlot P T I G)) (root : Option ℕ) (i len : ℕ) (link : Link) (s : ArenaState T) → item es i ≡ Some (Free link) → Shows number es root len s → IsFreeAt es root i link s
    free_at es root i len link s found shows =
        let vacant : item s.slots i ≡ Some None = ap (λ xs. item xs i) (sym shows.slots) ∙ item-map_some (entry_of number) es i (Free link) found in
        let parts = split_at i s.free (there_vacant s i shows.well vacant) in
        record {
          found = found;
          in_front = parts.0;
          behind = parts.1;
          split = parts.2;
          linked = subst (IsLinked es root) parts.2 shows.linked;
          once = subst Once parts.2 (Once-free s shows.well);
        }

    -- the slots to which it leads can lead to each other
    pub can_leave : (es es1 : List (ArenaSlot P T I G)) (root : Option ℕ) (i len : ℕ) (link : Link) (s : ArenaState T) → ((j : ℕ) → j ≢ i → item es1 j ≡ item es j) → item es i ≡ Some (Free link) → Shows number es root len s → CanLeave number es1 (next_free link i) (previous_free link i)
    can_leave es es1 root i len link s same found shows =
        let at = free_at es root i len link s found shows in
        let on : after es i ≡ next_free link i = led_at next_in es i (Free link) found in
        let back : before es i ≡ previous_free link i = led_at previous_in es i (Free link) found in
        let entry : (j : ℕ) → j ≢ i → 1 ≤ times j (at.in_front ++ i ∷ at.behind) → item (map (entry_of number) es1) j ≡ Some None =
        λ j other there. item-map (entry_of number) es1 j ∙ ap (option_map (entry_of number)) (same j other) ∙ sym (item-map (entry_of number) es j) ∙ ap (λ xs. item xs j) shows.slots ∙ vacant_there s j shows.well (subst (λ xs. 1 ≤ times j xs) (sym at.split) there) in
        record {
          next = λ j e. entry j (not_own link.next i j (link.next == i) refl e) (next_there (after es) (before es) root at.in_front i at.behind j at.linked (on ∙ e));
          previous = λ j e. entry j (not_own link.previous i j (link.previous == i) refl e) (previous_there (after es) (before es) root at.in_front i at.behind j at.linked (back ∙ e));
          apart = λ j e h. neighbours_apart (after es) (before es) root at.in_front i at.behind j at.once at.linked (back ∙ e) (on ∙ h);
        }

    -- once it left, the rest of the list is linked
    pub left_linked : (es es1 es2 : List (ArenaSlot P T I G)) (root root2 : Option ℕ) (i : ℕ) (link : Link) (s : ArenaState T) (at : IsFreeAt es root i link s) → ((j : ℕ) → j ≢ i → item es1 j ≡ item es j) → Leaves number es1 es2 root root2 (next_free link i) (previous_free link i) → IsLinked es2 root2 (at.in_front ++ at.behind)
    left_linked es es1 es2 root root2 i link s at same leaves =
        let on : after es i ≡ next_free link i = led_at next_in es i (Free link) at.found in
        let back : before es i ≡ previous_free link i = led_at previous_in es i (Free link) at.found in
        let skips : Skips (after es) (before es) (after es2) (before es2) i = record {
          next = λ j other e. leaves.next j (sym back ∙ e) ∙ sym on;
          kept = λ j other ne. leaves.kept_next j (λ e. ne (back ∙ e)) ∙ led_same next_in es es1 j (same j other);
          previous = λ j other e. leaves.previous j (sym on ∙ e) ∙ sym back;
          kept_back = λ j other ne. leaves.kept_previous j (λ e. ne (on ∙ e)) ∙ led_same previous_in es es1 j (same j other);
        } in
        let begins = root_skipped (after es) (before es) root at.in_front i at.behind root2 at.linked (λ e. when_none _ _ _ leaves.begins (sym back ∙ e) ∙ sym on) (λ j e. when_some _ _ _ j leaves.begins (sym back ∙ e)) in
        rw begins (Linked-skipped (after es) (before es) (after es2) (before es2) None root at.in_front i at.behind skips at.once (λ j e. absurd (cc)) at.linked)

    -- the link of the first free slot leads back to none
    pub first_link : (es : List (ArenaSlot P T I G)) (i len : ℕ) (link : Link) (s : ArenaState T) → item es i ≡ Some (Free link) → Shows number es (Some i) len s → previous_free link i ≡ None
    first_link es i len link s found shows = sym back ∙ by_free s.free (subst (λ f. IsLinked es (Some i) f) refl shows.linked)
      where
        back : before es i ≡ previous_free link i
        back = led_at previous_in es i (Free link) found

        by_free : (f : List ℕ) → IsLinked es (Some i) f → before es i ≡ None
        by_free [] linked = absurd (cc)
        by_free (j ∷ []) linked = subst (λ m. before es m ≡ None) (sym (same_Some _ _ linked.0)) linked.1
        by_free (j ∷ k ∷ rest) linked = subst (λ m. before es m ≡ None) (sym (same_Some _ _ linked.0)) linked.1

    -- insertion under the first free index
    pub Shows-filled : (es es2 : List (ArenaSlot P T I G)) (root2 : Option ℕ) (i len : ℕ) (link : Link) (g : G) (v : T) (s : ArenaState T) → arena_len s < capacity s → number g ≡ s.counter → item es i ≡ Some (Free link) → Leaves number (with_item es i (Allocated g v)) es2 (Some i) root2 (next_free link i) None → Shows number es (Some i) len s → (place s ≡ i) × Shows number es2 root2 (len + 1) (inserted s v)
    Shows-filled es es2 root2 i len link g v s room stamped found leaves shows = by_free s.free refl
      where
        filled : (rest : List ℕ) → s.free ≡ i ∷ rest → Shows number es2 root2 (len + 1) (inserted_among (i ∷ rest) s v)
        filled rest e =
            let first = first_free s i rest shows.well e in
            let slot : Option (ℕ × T) = Some (s.counter, v) in
            let leaves_so = subst (Leaves number (with_item es i (Allocated g v)) es2 (Some i) root2 (next_free link i)) (sym (first_link es i len link s found shows)) leaves in
            let at : IsFreeAt es (Some i) i link s = record {
              found = found;
              in_front = [];
              behind = rest;
              split = e;
              linked = subst (IsLinked es (Some i)) e shows.linked;
              once = subst Once e (Once-free s shows.well);
            } in
            record {
              slots = leaves.entries ∙ rw (map-with_item (entry_of number) es i (Allocated g v), shows.slots, stamped) refl;
              linked = left_linked es (with_item es i (Allocated g v)) es2 (Some i) root2 i link s at (λ j other. item-with_other es i j (Allocated g v) other) leaves_so;
              counted = omega (arith, count-with_item s.slots i None slot first.0, shows.counted);
              well = subst (λ f. IsWellFormed (inserted_among f s v)) e (IsWellFormed-inserted s v shows.well room);
            }

        by_free : (f : List ℕ) → s.free ≡ f → (place_among f (slot_count s) ≡ i) × Shows number es2 root2 (len + 1) (inserted_among f s v)
        by_free [] e = absurd (let h = subst (IsLinked es (Some i)) e shows.linked in cc)
        by_free (j ∷ rest) e =
            let linked = subst (IsLinked es (Some i)) e shows.linked in
            let same : i ≡ j = same_Some _ _ linked.0 in
            (sym same, subst (λ m. Shows number es2 root2 (len + 1) (inserted_among (m ∷ rest) s v)) same (filled rest (e ∙ ap (λ m. m ∷ rest) (sym same))))

    -- so many slots are touched where an insertion takes it
    pub steps-filled : (es : List (ArenaSlot P T I G)) (i len : ℕ) (link : Link) (s : ArenaState T) → item es i ≡ Some (Free link) → Shows number es (Some i) len s → 1 + touch_if (next_free link i) ≡ insertion_steps s
    steps-filled es i len link s found shows = by_free s.free (subst (λ f. IsLinked es (Some i) f) refl shows.linked)
      where
        on : after es i ≡ next_free link i
        on = led_at next_in es i (Free link) found

        by_free : (f : List ℕ) → IsLinked es (Some i) f → 1 + touch_if (next_free link i) ≡ steps_among f
        by_free [] linked = absurd (cc)
        by_free (j ∷ []) linked =
            let last : next_free link i ≡ None = sym on ∙ subst (λ m. after es m ≡ None) (sym (same_Some _ _ linked.0)) linked.2 in
            rw last refl
        by_free (j ∷ k ∷ rest) linked =
            let next : next_free link i ≡ Some k = sym on ∙ subst (λ m. after es m ≡ Some k) (sym (same_Some _ _ linked.0)) linked.2.0 in
            rw next refl

    -- with no free slot one is touched
    pub steps-pushed : (es : List (ArenaSlot P T I G)) (len : ℕ) (s : ArenaState T) → Shows number es None len s → insertion_steps s ≡ 1
    steps-pushed es len s shows = by_free s.free shows.linked
      where
        by_free : (f : List ℕ) → IsLinked es None f → steps_among f ≡ 1
        by_free [] linked = refl
        by_free (j ∷ rest) linked = absurd (let h = linked.0 in cc)

    -- insertion past the last slot
    pub Shows-pushed : (es : List (ArenaSlot P T I G)) (len : ℕ) (g : G) (v : T) (s : ArenaState T) → arena_len s < capacity s → number g ≡ s.counter → Shows number es None len s → (place s ≡ length es + 1) × Shows number (es ++ Allocated g v ∷ []) None (len + 1) (inserted s v)
    Shows-pushed es len g v s room stamped shows = by_free s.free refl
      where
        by_free : (f : List ℕ) → s.free ≡ f → (place_among f (slot_count s) ≡ length es + 1) × Shows number (es ++ Allocated g v ∷ []) None (len + 1) (inserted_among f s v)
        by_free [] e =
            let size : length es ≡ length s.slots = sym (length-map es (entry_of number)) ∙ ap length shows.slots in
            let slot : Option (ℕ × T) = Some (s.counter, v) in (
              omega arith,
              record {
                slots = rw (map_push (entry_of number) es (Allocated g v), shows.slots, stamped) refl;
                linked = rw e refl;
                counted = omega (arith, sum_by_push (λ o. cond (is_some o) 1 0) s.slots slot, shows.counted);
                well = subst (λ f. IsWellFormed (inserted_among f s v)) e (IsWellFormed-inserted s v shows.well room);
              },
            )
        by_free (j ∷ rest) e = absurd (let h = (subst (IsLinked es None) e shows.linked).0 in cc)

    -- the slot of a live index
    pub allocated_at : (es : List (ArenaSlot P T I G)) (i : ℕ) (e : ℕ × T) → item (map (entry_of number) es) i ≡ Some (Some e) → (g : G) × (item es i ≡ Some (Allocated g e.1)) × (number g ≡ e.0)
    allocated_at es i e live = by_item (item es i) refl
      where
        by_item : (o : Option (ArenaSlot P T I G)) → item es i ≡ o → (g : G) × (item es i ≡ Some (Allocated g e.1)) × (number g ≡ e.0)
        by_item None h = absurd (let m = item-map_none (entry_of number) es i h in cc)
        by_item (Some (Free link)) h = absurd (let m = item-map_some (entry_of number) es i (Free link) h in cc)
        by_item (Some (Allocated g v)) h =
            let m = item-map_some (entry_of number) es i (Allocated g v) h in
            let both : (number g, v) ≡ e = cc in
            (g, h ∙ ap (λ p. Some (Allocated g p.1)) both, ap (λ p. p.0) both)

    pub leads_of : (es es1 : List (ArenaSlot P T I G)) (root : Option ℕ) (i : ℕ) → Begins number es es1 root i → Leads (after es) (before es) (after es1) (before es1) root i
    leads_of es es1 root i begins =
        record { next = begins.next; first = begins.first; previous = begins.back; kept = begins.kept; kept_back = begins.kept_back }

    -- removal at the last slot
    pub Shows-popped : (raise : ℕ → ℕ) (es : List (ArenaSlot P T I G)) (root : Option ℕ) (i len : ℕ) (e : ℕ × T) (s : ArenaState T) → i ≡ length es → item s.slots i ≡ Some (Some e) → Shows number es root len s → Shows number (take (length es - 1) es) root (len - 1) (removed raise s i)
    Shows-popped raise es root i len e s last live shows =
        let size : length es ≡ length s.slots = sym (length-map es (entry_of number)) ∙ ap length shows.slots in
        let at_end : i ≡ length s.slots = omega arith in
        let found = allocated_at es i e (ap (λ xs. item xs i) shows.slots ∙ live) in
        let within = item_within es i _ found.1 in
        let rest : List (ArenaSlot P T I G) = take (length es - 1) es in
        let split : es ≡ rest ++ Allocated found.0 e.1 ∷ [] = split_last es _ (ap (item es) (sym last) ∙ found.1) in
        let shorter = ap length split ∙ length_push rest (Allocated found.0 e.1) in
        let same : (j : ℕ) → j ≢ length es → item rest j ≡ item es j =
        λ j other. sym (ap (λ xs. item xs j) split ∙ item-push_other rest j (Allocated found.0 e.1) (λ h. other (omega arith))) in
        let off = ap (λ m. count_by (λ j. j == m) s.free) (sym last) ∙ live_not_free s i e shows.well live in
        let well : IsWellFormed (record s { slots = take (slot_count s - 1) s.slots; counter = raise s.counter }) = rw (eq_true i (slot_count s) at_end) at (IsWellFormed-removed raise s i e shows.well live) in
        let kept = length-take-le (slot_count s - 1) s.slots (omega arith) in
        rw (eq_true i (slot_count s) at_end) (record {
          slots = rw (← take-map, shows.slots, size) refl;
          linked = IsLinked-off es rest (length es) root s.free same off shows.linked;
          counted = omega (arith, well.total, shows.well.total, shows.counted);
          well = well;
        })

    -- removal at any other slot
    pub Shows-freed : (raise : ℕ → ℕ) (es es1 : List (ArenaSlot P T I G)) (root : Option ℕ) (i len : ℕ) (e : ℕ × T) (s : ArenaState T) → i ≢ length es → Begins number es es1 root i → item s.slots i ≡ Some (Some e) → Shows number es root len s → Shows number es1 (Some i) (len - 1) (removed raise s i)
    Shows-freed raise es es1 root i len e s inner begins live shows =
        let size : length es ≡ length s.slots = sym (length-map es (entry_of number)) ∙ ap length shows.slots in
        let not_last : i ≢ slot_count s = λ h. inner (omega arith) in
        let off = live_not_free s i e shows.well live in
        let well : IsWellFormed (record s { slots = with_item s.slots i None; counter = raise s.counter; free = i ∷ s.free }) = rw (eq_false i (slot_count s) not_last) at (IsWellFormed-removed raise s i e shows.well live) in
        rw (eq_false i (slot_count s) not_last) (record {
          slots = begins.entries ∙ ap (λ xs. with_item xs i None) shows.slots;
          linked = Linked-led (after es) (before es) (after es1) (before es1) root i s.free (leads_of es es1 root i begins) off (Once-free s shows.well) shows.linked;
          counted = omega (arith, count-with_item s.slots i (Some e) None live, shows.counted);
          well = well;
        })

    -- another entry under a live index
    pub Shows-with_entry : (es : List (ArenaSlot P T I G)) (root : Option ℕ) (i len : ℕ) (g : G) (v : T) (e : ℕ × T) (s : ArenaState T) → item s.slots i ≡ Some (Some e) → Shows number es root len s → Shows number (with_item es i (Allocated g v)) root len (with_entry s i (number g, v))
    Shows-with_entry es root i len g v e s live shows =
        record {
          slots = rw (map-with_item (entry_of number) es i (Allocated g v), shows.slots) refl;
          linked = IsLinked-off es (with_item es i (Allocated g v)) i root s.free (λ j other. item-with_other es i j (Allocated g v) other) (live_not_free s i e shows.well live) shows.linked;
          counted = omega (arith, count-with_item s.slots i (Some e) (Some (number g, v)) live, shows.counted);
          well = IsWellFormed-with_entry s i e (number g, v) shows.well live;
        }

    -- the state with another counter
    pub Shows-counter : (es : List (ArenaSlot P T I G)) (root : Option ℕ) (len counter : ℕ) (s : ArenaState T) → Shows number es root len s → Shows number es root len (record s { counter = counter })
    Shows-counter es root len counter s shows =
        record { slots = shows.slots; linked = shows.linked; counted = shows.counted; well = IsWellFormed-counter s counter shows.well }

    -- the state with another count of steps
    pub Shows-steps : (es : List (ArenaSlot P T I G)) (root : Option ℕ) (len steps : ℕ) (s : ArenaState T) → Shows number es root len s → Shows number es root len (record s { steps = steps })
    Shows-steps es root len steps s shows =
        record { slots = shows.slots; linked = shows.linked; counted = shows.counted; well = record { free_once = shows.well.free_once; total = shows.well.total; fits = shows.well.fits } }

    -- the slot that the root names is free
    pub root_free : (es : List (ArenaSlot P T I G)) (root : Option ℕ) (i len : ℕ) (s : ArenaState T) → root ≡ Some i → Shows number es root len s → (link : Link) × (item es i ≡ Some (Free link))
    root_free es root i len s at_root shows = by_free s.free refl
      where
        vacant : item s.slots i ≡ Some None → (o : Option (ArenaSlot P T I G)) → item es i ≡ o → (link : Link) × (item es i ≡ Some (Free link))
        vacant none None h = absurd (let m = item-map_none (entry_of number) es i h in let k = ap (λ xs. item xs i) shows.slots in cc)
        vacant none (Some (Free link)) h = (link, h)
        vacant none (Some (Allocated g v)) h = absurd (let m = item-map_some (entry_of number) es i (Allocated g v) h in let k = ap (λ xs. item xs i) shows.slots in cc)

        by_free : (f : List ℕ) → s.free ≡ f → (link : Link) × (item es i ≡ Some (Free link))
        by_free [] e = absurd (let h = subst (IsLinked es root) e shows.linked in cc)
        by_free (j ∷ rest) e =
            let linked = (subst (IsLinked es root) e shows.linked).0 in
            let same : j ≡ i = cc in
            let first = (first_free s j rest shows.well e).0 in
            vacant (subst (λ m. item s.slots m ≡ Some None) same first) (item es i) refl

    pub root_vacant : (es : List (ArenaSlot P T I G)) (root : Option ℕ) (i len : ℕ) (s : ArenaState T) → root ≡ Some i → Shows number es root len s → item (map (entry_of number) es) i ≡ Some None
    root_vacant es root i len s at_root shows =
        let free = root_free es root i len s at_root shows in
        item-map_some (entry_of number) es i (Free free.0) free.1

    -- with no root every slot has a value
    pub full_at_none : (es : List (ArenaSlot P T I G)) (root : Option ℕ) (len : ℕ) (s : ArenaState T) → root ≡ None → Shows number es root len s → arena_len s ≡ length es
    full_at_none es root len s at_root shows = by_free s.free refl
      where
        by_free : (f : List ℕ) → s.free ≡ f → arena_len s ≡ length es
        by_free [] e = omega (arith, shows.well.total, ap length e, length-map es (entry_of number), ap length shows.slots)
        by_free (j ∷ rest) e = absurd (let h = (subst (IsLinked es root) e shows.linked).0 in cc)

  module _ (number : G → ℕ) where
    -- the root names an index of a slot
    pub root_within : (es : List (ArenaSlot P T I G)) (root : Option ℕ) (i len : ℕ) (s : ArenaState T) → root ≡ Some i → Shows number es root len s → (0 < i) × (i ≤ length es)
    root_within es root i len s at_root shows =
        let found = root_free number es root i len s at_root shows in
        item_within es i (Free found.0) found.1

  module _ (number : G → ℕ) where
    -- an index with an entry is one of a slot
    pub live_within : (es : List (ArenaSlot P T I G)) (i : ℕ) → IsSome (entry_at number es i) → (0 < i) × (i ≤ length es)
    live_within es i live = by_item (item (map (entry_of number) es) i) refl live
      where
        by_item : (o : Option (Option (ℕ × T))) → item (map (entry_of number) es) i ≡ o → IsSome (joined o) → (0 < i) × (i ≤ length es)
        by_item None h some = absurd (true≢false (sym some))
        by_item (Some slot) h some = let w = item_within (map (entry_of number) es) i slot h in (w.0, omega (arith, w, length-map es (entry_of number)))

    -- the entry of the state under that index
    pub live_in : (es : List (ArenaSlot P T I G)) (root : Option ℕ) (i len : ℕ) (s : ArenaState T) → IsSome (entry_at number es i) → Shows number es root len s → (e : ℕ × T) × (item s.slots i ≡ Some (Some e))
    live_in es root i len s live shows = by_item (item s.slots i) refl (subst (λ xs. IsSome (joined (item xs i))) shows.slots live)
      where
        by_item : (o : Option (Option (ℕ × T))) → item s.slots i ≡ o → IsSome (joined o) → (e : ℕ × T) × (item s.slots i ≡ Some (Some e))
        by_item None h some = absurd (true≢false (sym some))
        by_item (Some None) h some = absurd (true≢false (sym some))
        by_item (Some (Some e)) h some = (e, h)

    -- the root names no index with an entry
    pub root_not_live : (es : List (ArenaSlot P T I G)) (root : Option ℕ) (i len : ℕ) (s : ArenaState T) → IsSome (entry_at number es i) → Shows number es root len s → root ≡ Some i → ⊥
    root_not_live es root i len s live shows at_root =
        let found = root_free number es root i len s at_root shows in
        let none = item-map_some (entry_of number) es i (Free found.0) found.1 in
        true≢false (sym (rw none at live))

    -- what a call makes of the slots carries over to the arena: its invariant, and its state
    pub carried : (es es' : List (ArenaSlot P T I G)) (root root' : Option ℕ) (len len' counter counter' room room' : ℕ) (limit limit' : Option ℕ) (greatest steps steps' : ℕ) (s s' : ArenaState T) → Shows number es root len (state_of number es root counter room limit greatest steps) → state_of number es root counter room limit greatest steps ≡ s → (Shows number es root len s → Shows number es' root' len' s') → counter' ≡ s'.counter → room' ≡ s'.room → limit' ≡ s'.limit → greatest ≡ s'.greatest → steps' ≡ s'.steps → Shows number es' root' len' (state_of number es' root' counter' room' limit' greatest steps') × (state_of number es' root' counter' room' limit' greatest steps' ≡ s')
    carried es es' root root' len len' counter counter' room room' limit limit' greatest steps steps' s s' own is step c r l g n =
        shows_state number es' root' len' counter' room' limit' greatest steps' s' (step (subst (Shows number es root len) is own)) c r l g n

    -- the slots that hold an entry hold at least one
    pub live_len : (es : List (ArenaSlot P T I G)) (root : Option ℕ) (i len : ℕ) (s : ArenaState T) → IsSome (entry_at number es i) → Shows number es root len s → 1 ≤ len
    live_len es root i len s live shows =
        let found = live_in es root i len s live shows in
        omega (arith, live_counted s i found.0 found.1, shows.counted)

    -- another slot with an entry under a live index
    pub Shows-rewritten : (es : List (ArenaSlot P T I G)) (root : Option ℕ) (i len : ℕ) (g : G) (v : T) (s : ArenaState T) → IsSome (entry_at number es i) → Shows number es root len s → Shows number (with_item es i (Allocated g v)) root len (with_entry s i (number g, v))
    Shows-rewritten es root i len g v s live shows =
        let found = live_in es root i len s live shows in
        Shows-with_entry number es root i len g v found.0 s found.1 shows

    -- another value in the entry at an index
    pub Shows-with_value : (es : List (ArenaSlot P T I G)) (root : Option ℕ) (i len : ℕ) (w : T) (s : ArenaState T) → IsSome (entry_at number es i) → Shows number es root len s → Shows number (with_value_at with_slot_value es i (item es i) w) root len (with_value s i w)
    Shows-with_value es root i len w s live shows = by_item (item es i) refl
      where
        by_item : (o : Option (ArenaSlot P T I G)) → item es i ≡ o → Shows number (with_value_at with_slot_value es i o w) root len (with_value s i w)
        by_item None h = absurd (true≢false (sym (rw (item-map_none (entry_of number) es i h) at live)))
        by_item (Some (Free link)) h = absurd (true≢false (sym (rw (entry_item (entry_of number) es i (Free link) h) at live)))
        by_item (Some (Allocated g v)) h =
            let here : joined (item s.slots i) ≡ Some (number g, v) = ap (λ xs. joined (item xs i)) (sym shows.slots) ∙ entry_item (entry_of number) es i (Allocated g v) h in
            rw (with_value_is s.slots i (number g) v w here) (Shows-rewritten es root i len g w s live shows)

    -- another generation on the slot at an index
    pub Shows-stamped : (es : List (ArenaSlot P T I G)) (root : Option ℕ) (i len : ℕ) (g : G) (e : ArenaSlot P T I G) (s : ArenaState T) → item es i ≡ Some e → IsSome (entry_at number es i) → Shows number es root len s → Shows number (with_item es i (with_slot_generation e g)) root len (record s { slots = with_generation_in s.slots i (number g) })
    Shows-stamped es root i len g (Free link) s found live shows = absurd (true≢false (sym (rw (entry_item (entry_of number) es i (Free link) found) at live)))
    Shows-stamped es root i len g (Allocated h v) s found live shows =
        let here : joined (item s.slots i) ≡ Some (number h, v) = ap (λ xs. joined (item xs i)) (sym shows.slots) ∙ entry_item (entry_of number) es i (Allocated h v) found in
        rw (with_generation_is s.slots i (number h) (number g) v here) (Shows-rewritten es root i len g v s live shows)

    -- the root is the first free index
    pub root_head : (es : List (ArenaSlot P T I G)) (root : Option ℕ) (i len : ℕ) (s : ArenaState T) → root ≡ Some i → Shows number es root len s → slice_get s.free 0 ≡ Some i
    root_head es root i len s at_root shows = by_free s.free refl
      where
        by_free : (f : List ℕ) → s.free ≡ f → slice_get f 0 ≡ Some i
        by_free [] e = absurd (let h = subst (IsLinked es root) e shows.linked in cc)
        by_free (j ∷ rest) e = sym (subst (IsLinked es root) e shows.linked).0 ∙ at_root

    -- the root is an index of the arena
    pub root_indexed : (es : List (ArenaSlot P T I G)) (root : Option ℕ) (i len : ℕ) (s : ArenaState T) → root ≡ Some i → Shows number es root len s → i ≤ s.greatest
    root_indexed es root i len s at_root shows =
        omega (arith, (root_within number es root i len s at_root shows).1, shows.well.fits, length-map es (entry_of number), ap length shows.slots)

    -- where no slot is free, one more fits before the greatest index
    pub one_more : (es : List (ArenaSlot P T I G)) (root : Option ℕ) (len : ℕ) (s : ArenaState T) → root ≡ None → Shows number es root len s → arena_len s < capacity s → length es < s.greatest
    one_more es root len s at_root shows room = omega (arith, full_at_none number es root len s at_root shows, room)

    -- the arena after a write through a borrow of a value
    pub lent : (es es' : List (ArenaSlot P T I G)) (root : Option ℕ) (len counter room room' : ℕ) (limit limit' : Option ℕ) (greatest steps : ℕ) (s : ArenaState T) (i : ℕ) (w : T) → Shows number es root len (state_of number es root counter room limit greatest steps) → state_of number es root counter room limit greatest steps ≡ s → IsSome (entry_at number es i) → es' ≡ with_value_at with_slot_value es i (item es i) w → room' ≡ room → limit' ≡ limit → Shows number es' root len (state_of number es' root counter room' limit' greatest steps) × (state_of number es' root counter room' limit' greatest steps ≡ with_value s i w)
    lent es es' root len counter room room' limit limit' greatest steps s i w own is live written r l =
        carried es es' root root len len counter counter room room' limit limit' greatest steps steps s (with_value s i w) own is (λ shows. rw written (Shows-with_value es root i len w s live shows)) (ap (λ t. t.counter) is) (r ∙ ap (λ t. t.room) is) (l ∙ ap (λ t. t.limit) is) (ap (λ t. t.greatest) is) (ap (λ t. t.steps) is)

-- an index that is within the greatest has its number
pub index_of_number : {I : Type 0} (number : I → ℕ) (o : Option I) (i greatest : ℕ) → (IsSome o ↔ (i ≤ greatest)) → IfSome o (λ x. number x ≡ i) → i ≤ greatest → option_map number o ≡ Some i
index_of_number number None i greatest some is within = absurd (true≢false (sym (some.1 within)))
index_of_number number (Some x) i greatest some is within = ap Some is
