-- Each change of an arena keeps it well formed.
use Rattle.std.proofs.Common.{◌≡◌, ◌≢◌, ℕ, zero, suc, ◌+◌, ◌-◌, ◌<◌, ◌≤◌, ◌==◌, Bool, true, false, List, [], ◌∷◌, ◌++◌, length, take, Option, Some, None, is_some, count_by, cond, refl, sym, ap, subst, ◌∙◌, inl, inr, arith, true≢false, not}
use Rattle.std.proofs.lemmas.Bool.{cases_eq, eqb-true}
use Rattle.std.proofs.lemmas.List.{length_push}
use Rattle.std.proofs.lemmas.List.Sums.{sum_by_push, sum_by-cons}
use Rattle.triple_arena_ptr.specs.Pointers.{Pointer}
use Rattle.triple_arena_traits.specs.laws.ItemLaws.{joined, item_nil, eq_true, eq_false, item_within, item_past, length-with_item, item-with_same, item-with_other, item-push_same, item-push_other, split_last}
use Rattle.std.specs.Option.{option_and_then, option_map}
use Rattle.triple_arena_traits.specs.Items.{item, with_item}
use Rattle.triple_arena_traits.specs.Entries.{look_up, entry_in, value_of_generation, with_value_in, with_generation_in}
use Rattle.triple_arena_traits.specs.ArenaState.{ArenaState, new_arena, capacity, entry, slot_count, arena_len, is_free, IsWellFormed}
use Rattle.triple_arena_traits.specs.Insertion.{place_among, place, inserted_among, inserted}
use Rattle.triple_arena_traits.specs.SlotSteps.{steps_among, IsTouched}
use Rattle.triple_arena_traits.specs.Ending.{removed, invalidated}
use Rattle.triple_arena_traits.specs.laws.EntryLaws.{count_head, first_free, by_case}
use Rattle.triple_arena_traits.specs.laws.LengthLaws.{count-with_item}

-- the entry at an index is this one
abbrev pub with_entry : {T : Type 0} → ArenaState T → ℕ → ℕ × T → ArenaState T
with_entry s i e = record s { slots = with_item s.slots i (Some e) }

-- an insertion touches at most two slots
pub few_steps : (free : List ℕ) → steps_among free ≤ 2
few_steps [] = omega arith
few_steps (i ∷ []) = omega arith
few_steps (i ∷ j ∷ rest) = omega arith

-- the count of an index in a list that begins with another
pub count_tail : (i j : ℕ) (rest : List ℕ) → i ≢ j → count_by (λ k. k == j) (i ∷ rest) ≡ count_by (λ k. k == j) rest
count_tail i j rest h = omega (arith, sum_by-cons (λ k. cond (k == j) 1 0) i rest, ap {B = ℕ} (λ b. cond b 1 0) (eq_false i j h))

module _ {T : Type 0} where
  free_once-push : (s : ArenaState T) (e : ℕ × T) (i : ℕ) → IsWellFormed s → count_by (λ j. j == i) s.free ≡ cond (is_free (item (s.slots ++ Some e ∷ []) i)) 1 0
  free_once-push s e i well =
      elim (cases_eq i (length s.slots + 1)) [
        | inl same ↦ rw (item-push_same s.slots i (Some e) same) (rw (item_past s.slots i (omega arith)) at (well.free_once i))
        | inr other ↦ rw (item-push_other s.slots i (Some e) other) (well.free_once i)
      ]

  -- insertion keeps the free list and the count
  pub IsWellFormed-inserted : (s : ArenaState T) (v : T) → IsWellFormed s → arena_len s < capacity s → IsWellFormed (inserted s v)
  IsWellFormed-inserted s v well room = by_free s.free refl
    where
      by_free : (f : List ℕ) → s.free ≡ f → IsWellFormed (inserted_among f s v)
      by_free [] e =
          record {
            free_once = λ i. free_once-push s (s.counter, v) i well;
            total = rw (length_push s.slots (Some (s.counter, v)), sum_by_push (λ o. cond (is_some o) 1 0) s.slots (Some (s.counter, v))) (omega (arith, well.total));
            fits = rw (length_push s.slots (Some (s.counter, v))) (omega (arith, well.total, ap length e));
          }
      by_free (i ∷ rest) e =
          let first = first_free s i rest well e in
          let within = item_within s.slots i None first.0 in
          let counted = count-with_item s.slots i None (Some (s.counter, v)) first.0 in
          record {
            free_once = λ j. elim (cases_eq j i) [
              | inl same ↦ rw (same, item-with_same s.slots i (Some (s.counter, v)) within.0 within.1) first.1
              | inr other ↦ rw (item-with_other s.slots i j (Some (s.counter, v)) other) (sym (count_tail i j rest (λ h. other (sym h))) ∙ ap (count_by (λ k. k == j)) (sym e) ∙ well.free_once j)
            ];
            total = rw (length-with_item s.slots i (Some (s.counter, v))) (omega (arith, counted, well.total, ap length e));
            fits = rw (length-with_item s.slots i (Some (s.counter, v))) well.fits;
          }

  -- a slot with an entry is not free
  pub live_not_free : (s : ArenaState T) (i : ℕ) (e : ℕ × T) → IsWellFormed s → item s.slots i ≡ Some (Some e) → count_by (λ j. j == i) s.free ≡ 0
  live_not_free s i e well found = rw found at (well.free_once i)

  -- the slot of a live index
  pub live_item : (s : ArenaState T) (i : ℕ) (e : ℕ × T) → entry s i ≡ Some e → item s.slots i ≡ Some (Some e)
  live_item s i e found = by_item (item s.slots i) found
    where
      by_item : (o : Option (Option (ℕ × T))) → joined o ≡ Some e → o ≡ Some (Some e)
      by_item None h = absurd (cc)
      by_item (Some slot) h = ap Some h

  -- another entry under a live index keeps the free list and the count
  pub IsWellFormed-with_entry : (s : ArenaState T) (i : ℕ) (old new : ℕ × T) → IsWellFormed s → item s.slots i ≡ Some (Some old) → IsWellFormed (with_entry s i new)
  IsWellFormed-with_entry s i old new well found =
      let within = item_within s.slots i (Some old) found in
      let counted = count-with_item s.slots i (Some old) (Some new) found in
      record {
        free_once = λ j. elim (cases_eq j i) [
          | inl same ↦ rw (same, item-with_same s.slots i (Some new) within.0 within.1) (live_not_free s i old well found)
          | inr other ↦ rw (item-with_other s.slots i j (Some new) other) (well.free_once j)
        ];
        total = rw (length-with_item s.slots i (Some new)) (omega (arith, counted, well.total));
        fits = rw (length-with_item s.slots i (Some new)) well.fits;
      }

  pub IsWellFormed-counter : (s : ArenaState T) (counter : ℕ) → IsWellFormed s → IsWellFormed (record s { counter = counter })
  IsWellFormed-counter s counter well = record { free_once = well.free_once; total = well.total; fits = well.fits }

  -- the last slot goes
  pub IsWellFormed-popped : (s : ArenaState T) (e : ℕ × T) (counter : ℕ) → IsWellFormed s → item s.slots (slot_count s) ≡ Some (Some e) → IsWellFormed (record s { slots = take (slot_count s - 1) s.slots; counter = counter })
  IsWellFormed-popped s e counter well found =
      let within = item_within s.slots (slot_count s) (Some e) found in
      let rest : List (Option (ℕ × T)) = take (slot_count s - 1) s.slots in
      let split : s.slots ≡ rest ++ Some e ∷ [] = split_last s.slots (Some e) found in
      let shorter = ap length split ∙ length_push rest (Some e) in
      let fewer = ap (count_by is_some) split ∙ sum_by_push (λ o. cond (is_some o) 1 0) rest (Some e) in
      record {
        free_once = λ j. elim (cases_eq j (length rest + 1)) [
          | inl same ↦
              let here : j ≡ slot_count s = omega arith in
              rw (item_past rest j (omega arith)) (live_not_free s j e well (ap (item s.slots) here ∙ found))
          | inr other ↦ well.free_once j ∙ ap (λ xs. cond (is_free (item xs j)) 1 0) split ∙ ap (λ o. cond (is_free o) 1 0) (item-push_other rest j (Some e) other)
        ];
        total = omega (arith, well.total);
        fits = omega (arith, well.fits);
      }

  -- a live index becomes the first free one
  pub IsWellFormed-freed : (s : ArenaState T) (i : ℕ) (e : ℕ × T) (counter : ℕ) → IsWellFormed s → item s.slots i ≡ Some (Some e) → IsWellFormed (record s { slots = with_item s.slots i None; counter = counter; free = i ∷ s.free })
  IsWellFormed-freed s i e counter well found =
      let within = item_within s.slots i (Some e) found in
      let counted = count-with_item s.slots i (Some e) None found in
      record {
        free_once = λ j. elim (cases_eq j i) [
          | inl same ↦ subst (λ m. count_by (λ k. k == m) (i ∷ s.free) ≡ cond (is_free (item (with_item s.slots i None) m)) 1 0) (sym same) (rw (item-with_same s.slots i None within.0 within.1) (count_head i s.free ∙ ap (λ n. 1 + n) (live_not_free s i e well found)))
          | inr other ↦ rw (item-with_other s.slots i j None other) (count_tail i j s.free (λ h. other (sym h)) ∙ well.free_once j)
        ];
        total = rw (length-with_item s.slots i None) (omega (arith, counted, well.total));
        fits = rw (length-with_item s.slots i None) well.fits;
      }

  -- removal keeps the free list and the count
  pub IsWellFormed-removed : (raise : ℕ → ℕ) (s : ArenaState T) (i : ℕ) (e : ℕ × T) → IsWellFormed s → item s.slots i ≡ Some (Some e) → IsWellFormed (removed raise s i)
  IsWellFormed-removed raise s i e well found =
      elim (cases_eq i (slot_count s)) [
        | inl same ↦ rw (eq_true i (slot_count s) same) (IsWellFormed-popped s e (raise s.counter) well (ap (item s.slots) (sym same) ∙ found))
        | inr other ↦ rw (eq_false i (slot_count s) other) (IsWellFormed-freed s i e (raise s.counter) well found)
      ]

  -- no slots and no free index
  pub IsWellFormed-empty : (room : ℕ) (limit : Option ℕ) (greatest counter : ℕ) → IsWellFormed {T = T} (new_arena room limit greatest counter)
  IsWellFormed-empty room limit greatest counter = record { free_once = λ i. rw (item_nil {A = Option (ℕ × T)} i) refl; total = refl; fits = omega arith }

  -- a state that counts and holds an entry is not empty
  pub live_counted : (s : ArenaState T) (i : ℕ) (e : ℕ × T) → item s.slots i ≡ Some (Some e) → 1 ≤ arena_len s
  live_counted s i e found = omega (arith, count-with_item s.slots i (Some e) None found)

  pub counter-removed : (raise : ℕ → ℕ) (s : ArenaState T) (i : ℕ) → (removed raise s i).counter ≡ raise s.counter
  counter-removed raise s i = by_case (λ t. t.counter) (i == slot_count s) _ _ (raise s.counter) refl refl

  pub room-removed : (raise : ℕ → ℕ) (s : ArenaState T) (i : ℕ) → (removed raise s i).room ≡ s.room
  room-removed raise s i = by_case (λ t. t.room) (i == slot_count s) _ _ s.room refl refl

  pub limit-removed : (raise : ℕ → ℕ) (s : ArenaState T) (i : ℕ) → (removed raise s i).limit ≡ s.limit
  limit-removed raise s i = by_case (λ t. t.limit) (i == slot_count s) _ _ s.limit refl refl

  pub greatest-removed : (raise : ℕ → ℕ) (s : ArenaState T) (i : ℕ) → (removed raise s i).greatest ≡ s.greatest
  greatest-removed raise s i = by_case (λ t. t.greatest) (i == slot_count s) _ _ s.greatest refl refl

  -- insertion leaves what is no entry
  pub kept-inserted : (s : ArenaState T) (v : T) → ((inserted s v).counter ≡ s.counter) × ((inserted s v).room ≡ s.room) × ((inserted s v).limit ≡ s.limit) × ((inserted s v).greatest ≡ s.greatest) × ((inserted s v).steps ≡ s.steps)
  kept-inserted s v = by_free s.free
    where
      by_free : (f : List ℕ) → ((inserted_among f s v).counter ≡ s.counter) × ((inserted_among f s v).room ≡ s.room) × ((inserted_among f s v).limit ≡ s.limit) × ((inserted_among f s v).greatest ≡ s.greatest) × ((inserted_among f s v).steps ≡ s.steps)
      by_free [] = (refl, refl, refl, refl, refl)
      by_free (i ∷ rest) = (refl, refl, refl, refl, refl)

  -- a removal counts nothing, and what was counted before makes no difference to it
  pub steps-removed : (raise : ℕ → ℕ) (s : ArenaState T) (n m i : ℕ) → ◌≡◌ {A = ArenaState T} (record (removed raise (record s { steps = n }) i) { steps = m }) (record (removed raise s i) { steps = m })
  steps-removed raise s n m i = by_test (i == slot_count s)
    where
      by_test : (b : Bool) → ◌≡◌ {A = ArenaState T} (record (cond b (record s { slots = take (slot_count s - 1) s.slots; counter = raise s.counter; steps = n }) (record s { slots = with_item s.slots i None; counter = raise s.counter; free = i ∷ s.free; steps = n })) { steps = m }) (record (cond b (record s { slots = take (slot_count s - 1) s.slots; counter = raise s.counter }) (record s { slots = with_item s.slots i None; counter = raise s.counter; free = i ∷ s.free })) { steps = m })
      by_test true = refl
      by_test false = refl

  -- slots that were touched make no difference
  pub IsWellFormed-touched : (s new : ArenaState T) → IsTouched s new → IsWellFormed s → IsWellFormed new
  IsWellFormed-touched s new touched well =
      let counted : IsWellFormed (record s { steps = new.steps }) = record { free_once = well.free_once; total = well.total; fits = well.fits } in
      subst IsWellFormed (sym touched.0) counted

  -- the place of an insertion is an index within the bounds
  pub place_within : (s : ArenaState T) → IsWellFormed s → arena_len s < capacity s → (0 < place s) × (place s ≤ capacity s)
  place_within s well room = by_free s.free refl
    where
      by_free : (f : List ℕ) → s.free ≡ f → (0 < place_among f (slot_count s)) × (place_among f (slot_count s) ≤ capacity s)
      by_free [] e = (omega arith, omega (arith, well.total, ap length e))
      by_free (i ∷ rest) e =
          let within = item_within s.slots i None (first_free s i rest well e).0 in
          (within.0, omega (arith, well.fits, within))

  -- no entry stands at the place of an insertion
  pub place_free : (s : ArenaState T) → IsWellFormed s → entry s (place s) ≡ None
  place_free s well = by_free s.free refl
    where
      by_free : (f : List ℕ) → s.free ≡ f → entry s (place_among f (slot_count s)) ≡ None
      by_free [] e = ap joined (item_past s.slots (slot_count s + 1) (omega arith))
      by_free (i ∷ rest) e = ap joined (first_free s i rest well e).0

  -- the entries are no more than the capacity
  pub len_within : (s : ArenaState T) → IsWellFormed s → arena_len s ≤ capacity s
  len_within s well = omega (arith, well.total, well.fits)

  -- the value under an index and a generation is that of the entry
  pub value_of_entry : (s : ArenaState T) (i h stamp : ℕ) (v : T) → entry s i ≡ Some (h, v) → is_some (look_up s.slots (i, stamp)) ≡ true → look_up s.slots (i, stamp) ≡ Some v
  value_of_entry s i h stamp v found some = by_test (h == stamp) (ap (option_and_then (value_of_generation stamp)) found) some
    where
      by_test : (b : Bool) → look_up s.slots (i, stamp) ≡ cond b (Some v) None → is_some (look_up s.slots (i, stamp)) ≡ true → look_up s.slots (i, stamp) ≡ Some v
      by_test true e some = e
      by_test false e some = absurd (cc)

  -- a live index and generation have an entry
  pub entry_of_value : (xs : List (Option (ℕ × T))) (i stamp : ℕ) → is_some (look_up xs (i, stamp)) ≡ true → (v : T) × (entry_in xs i ≡ Some (stamp, v)) × (look_up xs (i, stamp) ≡ Some v)
  entry_of_value xs i stamp some = by_entry (entry_in xs i) refl some
    where
      by_test : (e : ℕ × T) (b : Bool) → (e.0 == stamp) ≡ b → entry_in xs i ≡ Some e → is_some (cond b (Some e.1) None) ≡ true → (v : T) × (entry_in xs i ≡ Some (stamp, v)) × (look_up xs (i, stamp) ≡ Some v)
      by_test e true t h some =
          let same : e.0 ≡ stamp = eqb-true e.0 stamp t in
          (e.1, h ∙ ap (λ n. Some (n, e.1)) same, ap (option_and_then (value_of_generation stamp)) h ∙ ap (λ b. cond b (Some e.1) None) t)
      by_test e false t h some = absurd (cc)

      by_entry : (o : Option (ℕ × T)) → entry_in xs i ≡ o → is_some (option_and_then (value_of_generation stamp) o) ≡ true → (v : T) × (entry_in xs i ≡ Some (stamp, v)) × (look_up xs (i, stamp) ≡ Some v)
      by_entry None h some = absurd (cc)
      by_entry (Some e) h some = by_test e (e.0 == stamp) refl h some

  -- another value of an entry
  pub with_value_is : (xs : List (Option (ℕ × T))) (i h : ℕ) (v w : T) → joined (item xs i) ≡ Some (h, v) → with_value_in xs i w ≡ with_item xs i (Some (h, w))
  with_value_is xs i h v w found = ap (λ o. with_item xs i (option_map (λ e. (e.0, w)) o)) found

  -- another generation of an entry
  pub with_generation_is : (xs : List (Option (ℕ × T))) (i h n : ℕ) (v : T) → joined (item xs i) ≡ Some (h, v) → with_generation_in xs i n ≡ with_item xs i (Some (n, v))
  with_generation_is xs i h n v found = ap (λ o. with_item xs i (option_map (λ e. (n, e.1)) o)) found

  -- no entry stands past the greatest index
  pub entry_past : (s : ArenaState T) (i : ℕ) → IsWellFormed s → s.greatest < i → entry s i ≡ None
  entry_past s i well past = ap joined (item_past s.slots i (omega (arith, well.fits)))

  pub entry_within : (s : ArenaState T) (i : ℕ) → IsWellFormed s → is_some (entry s i) ≡ true → (0 < i) × (i ≤ s.greatest)
  entry_within s i well live = by_item (item s.slots i) refl live
    where
      by_item : (o : Option (Option (ℕ × T))) → item s.slots i ≡ o → is_some (joined o) ≡ true → (0 < i) × (i ≤ s.greatest)
      by_item None h some = absurd (true≢false (sym some))
      by_item (Some slot) h some =
          let within = item_within s.slots i slot h in
          (within.0, omega (arith, within.1, well.fits))

  -- a valid pointer is that of an entry, and finds its value
  pub live_entry : (xs : List (Option (ℕ × T))) (p : Pointer) → is_some (look_up xs p) ≡ true → is_some (entry_in xs p.0) ≡ true
  live_entry xs p live = by_entry (entry_in xs p.0) live
    where
      by_entry : (o : Option (ℕ × T)) → is_some (option_and_then (value_of_generation p.1) o) ≡ true → is_some o ≡ true
      by_entry None some = some
      by_entry (Some e) some = refl

  pub look_up_value : (s : ArenaState T) (p : Pointer) (v : T) → is_some (look_up s.slots p) ≡ true → option_map (λ (e : ℕ × T). e.1) (entry s p.0) ≡ Some v → look_up s.slots p ≡ Some v
  look_up_value s p v live found = by_entry (entry s p.0) live found
    where
      by_test : (e : ℕ × T) (b : Bool) → is_some (cond b (Some e.1) None) ≡ true → Some e.1 ≡ Some v → cond b (Some e.1) None ≡ Some v
      by_test e true some same = same
      by_test e false some same = absurd (true≢false (sym some))

      by_entry : (o : Option (ℕ × T)) → is_some (option_and_then (value_of_generation p.1) o) ≡ true → option_map (λ (e : ℕ × T). e.1) o ≡ Some v → option_and_then (value_of_generation p.1) o ≡ Some v
      by_entry None some same = absurd (true≢false (sym some))
      by_entry (Some e) some same = by_test e (e.0 == p.1) some same

  -- a new generation at an index, which is the raised counter, is an invalidation
  pub invalidated_is : (raise : ℕ → ℕ) (s : ArenaState T) (i j n : ℕ) → j ≡ i → n ≡ raise s.counter → record s { slots = with_generation_in s.slots j n; counter = n } ≡ invalidated raise s i
  invalidated_is raise s i j n here raised = rw (here, raised) refl

  -- what is read of an arena that is s, at the index of a valid pointer
  pub value_read : (s t : ArenaState T) (p : Pointer) (i : ℕ) (v : T) → t ≡ s → i ≡ p.0 → is_some (look_up t.slots p) ≡ true → option_map (λ (e : ℕ × T). e.1) (entry t i) ≡ Some v → look_up s.slots p ≡ Some v
  value_read s t p i v is here live read = sym (ap (λ a. look_up a.slots p) is) ∙ look_up_value t p v live (sym (ap (λ n. option_map (λ (e : ℕ × T). e.1) (entry t n)) here) ∙ read)

  pub entry_value_read : (s t : ArenaState T) (i j : ℕ) (v : T) → t ≡ s → j ≡ i → option_map (λ (e : ℕ × T). e.1) (entry t j) ≡ Some v → option_map (λ (e : ℕ × T). e.1) (entry s i) ≡ Some v
  entry_value_read s t i j v is here read = sym (ap (λ a. option_map (λ (e : ℕ × T). e.1) (entry a j)) is ∙ ap (λ n. option_map (λ (e : ℕ × T). e.1) (entry s n)) here) ∙ read

  -- where no index has an entry, there is none
  pub none_counted : (xs : List (Option (ℕ × T))) → ((i : ℕ) → joined (item xs i) ≡ None) → count_by is_some xs ≡ 0
  none_counted [] none = refl
  none_counted (x ∷ xs) none = omega (arith, sum_by-cons (λ o. cond (is_some o) 1 0) x xs, ap {B = ℕ} (λ o. cond (is_some o) 1 0) (none 1), none_counted xs later)
    where
      later : (i : ℕ) → joined (item xs i) ≡ None
      later zero = refl
      later (suc k) = none (suc (suc k))

  pub is_free_not : (o : Option (ℕ × T)) → is_free (Some o) ≡ not (is_some o)
  is_free_not None = refl
  is_free_not (Some e) = refl
