-- Laws of walks: what a step leaves ahead.
use Rattle.std.proofs.Common.{◌≡◌, ◌≢◌, ℕ, zero, suc, ◌+◌, ◌-◌, ◌<◌, ◌≤◌, nat_le, nat_lt, ◌&&◌, not, Bool, true, false, IsTrue, IsSome, List, [], ◌∷◌, map, length, Option, Some, None, is_some, count_by, cond, slice_get, slice_index_or, All, Contains, ◌++◌, refl, sym, ap, subst, ◌∙◌, inl, inr, arith, true≢false, ◌⊎◌, max}
use Rattle.std.proofs.lemmas.List.Sums.{sum_by-cons}
use Rattle.std.proofs.lemmas.Bool.{cases_eq, cases_lt, le-leb}
use Rattle.std.proofs.lemmas.Bool.Decides.{leb_tells}
use Rattle.std.specs.Option.{option_map, option_and_then}
use Rattle.triple_arena_ptr.specs.Pointers.{Pointer}
use Rattle.triple_arena_traits.specs.Items.{item}
use Rattle.triple_arena_traits.specs.laws.ItemLaws.{joined, item_within, eq_true, eq_false}
use Rattle.triple_arena_traits.specs.Entries.{entry_in, look_up, value_of_generation, entry_count, ChangesAt, with_value_in, IsFirst, IsLast}
use Rattle.triple_arena_traits.specs.laws.EntryLaws.{written}
use Rattle.triple_arena_traits.specs.FreeList.{IsRising}
use Rattle.triple_arena_traits.specs.Walks.{Stand, place_of, is_ahead, moved, steps_left, Answers, Steps, IsAtFirst, IsBeforeAll, Walk, put_entry, entries_where, entries_from, entries, entries_ahead, entries_behind, keys_of, keys, keys_ahead}

positive : (n : ℕ) → nat_lt 0 (suc n) ≡ true
positive n = le-leb 1 (suc n) (omega arith)

abbrev up : ℕ → ℕ → Bool
up n j = nat_lt 0 n && nat_le n j

abbrev down : ℕ → ℕ → Bool
down n j = nat_lt 0 n && nat_le j n

not_le : (a b : ℕ) → b < a → nat_le a b ≡ false
not_le a b h =
    elim (leb_tells a b) [
      | inl t ↦ absurd (omega (arith, t.1))
      | inr f ↦ f.0
    ]

pub up_yes : (n j : ℕ) → 0 < n → n ≤ j → up n j ≡ true
up_yes zero j h w = absurd (omega arith)
up_yes (suc n) j h w = rw (positive n) (le-leb (suc n) j w)

up_no : (n j : ℕ) → j < n → up n j ≡ false
up_no zero j h = refl
up_no (suc n) j h = rw (positive n) (not_le (suc n) j h)

up_tells : (n j : ℕ) → up n j ≡ true → (0 < n) × (n ≤ j)
up_tells zero j h = absurd (true≢false (sym h))
up_tells (suc n) j h =
    elim (leb_tells (suc n) j) [
      | inl t ↦ (omega arith, t.1)
      | inr f ↦ absurd (true≢false (sym (rw (positive n) at h) ∙ f.0))
    ]

down_yes : (n j : ℕ) → 0 < n → j ≤ n → down n j ≡ true
down_yes zero j h w = absurd (omega arith)
down_yes (suc n) j h w = rw (positive n) (le-leb j (suc n) w)

down_no : (n j : ℕ) → n < j → down n j ≡ false
down_no zero j h = refl
down_no (suc n) j h = rw (positive n) (not_le j (suc n) h)

down_tells : (n j : ℕ) → down n j ≡ true → (0 < n) × (j ≤ n)
down_tells zero j h = absurd (true≢false (sym h))
down_tells (suc n) j h =
    elim (leb_tells j (suc n)) [
      | inl t ↦ (omega arith, t.1)
      | inr f ↦ absurd (true≢false (sym (rw (positive n) at h) ∙ f.0))
    ]

-- what is ahead of a forward stand is at or above its place
ahead_from : (s : Stand) (i : ℕ) → s.reverse ≡ false → IsTrue (is_ahead s i) → (0 < s.place) × (s.place ≤ i)
ahead_from s i forward ahead = up_tells s.place i (rw forward at ahead)

-- the place after an index
place_cases : (greatest m : ℕ) → ((place_of greatest m ≡ m) × (m ≤ greatest)) ⊎ ((place_of greatest m ≡ 0) × (greatest < m))
place_cases greatest m =
    elim (leb_tells m greatest) [
      | inl t ↦ inl (rw t.0 refl, t.1)
      | inr f ↦ inr (rw f.0 refl, f.1)
    ]

gone_up : (greatest i : ℕ) → up (place_of greatest (i + 1)) i ≡ false
gone_up greatest i =
    elim (place_cases greatest (i + 1)) [
      | inl t ↦ rw t.0 (up_no (i + 1) i (omega arith))
      | inr f ↦ rw f.0 refl
    ]

same_up : (greatest place i j : ℕ) → j ≤ greatest → 0 < place → place ≤ i → (up place j ≡ true → j < i → ⊥) → j ≢ i → up (place_of greatest (i + 1)) j ≡ up place j
same_up greatest place i j within above_zero from none other =
    elim (cases_lt j i) [
      | inl below ↦
          let before : j < place = elim (cases_lt j place) [ inl h ↦ h | inr h ↦ absurd (none (up_yes place j above_zero h) below) ] in
          (elim (place_cases greatest (i + 1)) [
            | inl t ↦ rw t.0 (up_no (i + 1) j (omega (arith, below)))
            | inr f ↦ rw f.0 refl
          ]) ∙ sym (up_no place j before)
      | inr above ↦
          let past : i < j = elim (cases_eq j i) [ inl h ↦ absurd (other h) | inr h ↦ omega (arith, above) ] in
          (elim (place_cases greatest (i + 1)) [
            | inl t ↦ rw t.0 (up_yes (i + 1) j (omega arith) (omega (arith, past)))
            | inr f ↦ absurd (omega (arith, f.1, past))
          ]) ∙ sym (up_yes place j above_zero (omega (arith, past)))
    ]

same_down : (place i j : ℕ) → 0 < j → 0 < place → i ≤ place → (down place j ≡ true → i < j → ⊥) → j ≢ i → down (i - 1) j ≡ down place j
same_down place i j low above_zero to none other =
    elim (cases_lt i j) [
      | inl above ↦
          let past : place < j = elim (cases_lt place j) [ inl h ↦ h | inr h ↦ absurd (none (down_yes place j above_zero h) above) ] in
          down_no (i - 1) j (omega (arith, above)) ∙ sym (down_no place j past)
      | inr below ↦
          let before : j < i = elim (cases_eq j i) [ inl h ↦ absurd (other h) | inr h ↦ omega (arith, below) ] in
          down_yes (i - 1) j (omega (arith, before)) (omega (arith, before)) ∙ sym (down_yes place j above_zero (omega (arith, before)))
    ]

fewer_up : (greatest place i : ℕ) → 0 < place → place ≤ i → i ≤ greatest → cond (nat_lt 0 (place_of greatest (i + 1))) (greatest + 1 - place_of greatest (i + 1)) 0 < cond (nat_lt 0 place) (greatest + 1 - place) 0
fewer_up greatest zero i above_zero from within = absurd (omega arith)
fewer_up greatest (suc place) i above_zero from within =
    let reached : (m : ℕ) → 0 < m → greatest + 1 - m < greatest + 1 - suc place → cond (nat_lt 0 m) (greatest + 1 - m) 0 < greatest + 1 - suc place = λ m h. rw (le-leb 1 m h) (λ less. less) in
    elim (place_cases greatest (i + 1)) [
      | inl t ↦ rw (t.0, positive place) (reached (i + 1) (omega arith) (omega (arith, t.1)))
      | inr f ↦ rw (f.0, positive place) (omega arith)
    ]

after_none : (greatest n place j : ℕ) → j ≤ n → up (cond (nat_lt 0 place) (place_of greatest (max place (n + 1) + 1)) 0) j ≡ false
after_none greatest n zero j within = refl
after_none greatest n (suc place) j within =
    rw (positive place) (elim (place_cases greatest (max (suc place) (n + 1) + 1)) [
      | inl t ↦ rw t.0 (up_no (max (suc place) (n + 1) + 1) j (omega (arith, within)))
      | inr f ↦ rw f.0 refl
    ])

-- indexes that rise from some index on rise from any below it
rising_below : (low high : ℕ) (is : List ℕ) → low ≤ high → IsRising high is → IsRising low is
rising_below low high [] below rising = tt
rising_below low high (i ∷ rest) below rising = (omega (arith, below, rising.0), rising.1)

-- the pointers whose index meets a test
abbrev met : (ℕ → Bool) → List Pointer → List Pointer
met f [] = []
met f (k ∷ ks) = cond (f k.0) (k ∷ met f ks) (met f ks)

module _ {T : Type 0} where
  -- an entry that is not asked for makes no difference
  not_put : (at : ℕ) (o : Option (ℕ × T)) (rest : List (Pointer × T)) → put_entry false at o rest ≡ rest
  not_put at None rest = refl
  not_put at (Some e) rest = refl

  put_same : (asked : Bool) (at : ℕ) (o o' : Option (ℕ × T)) (rest : List (Pointer × T)) → (asked ≡ true → o ≡ o') → put_entry asked at o rest ≡ put_entry asked at o' rest
  put_same true at o o' rest same = ap (λ x. put_entry true at x rest) (same refl)
  put_same false at o o' rest same = not_put at o rest ∙ sym (not_put at o' rest)

  put_agree : (a b : Bool) (at : ℕ) (o : Option (ℕ × T)) (rest : List (Pointer × T)) → (IsSome o → a ≡ b) → put_entry a at o rest ≡ put_entry b at o rest
  put_agree a b at None rest same = refl
  put_agree a b at (Some e) rest same = ap (λ asked. put_entry asked at (Some e) rest) (same refl)

  -- the entries whose index meets one of two tests that agree on them
  entries_agree : (f g : ℕ → Bool) (at : ℕ) (xs : List (Option (ℕ × T))) → ((j k : ℕ) → j ≡ at + k → IsSome (joined (slice_get xs k)) → f j ≡ g j) → entries_where f at xs ≡ entries_where g at xs
  entries_agree f g at [] same = refl
  entries_agree f g at (x ∷ xs) same =
      put_agree (f at) (g at) at x _ (same at zero (omega arith))
      ∙ ap (put_entry (g at) at x) (entries_agree f g (at + 1) xs (λ j k e. same j (suc k) (omega arith)))

  -- entries whose index meets a test are those of any slots that agree with these on them
  entries_same : (f : ℕ → Bool) (at : ℕ) (xs ys : List (Option (ℕ × T))) → ((j k : ℕ) → j ≡ at + k → f j ≡ true → joined (slice_get xs k) ≡ joined (slice_get ys k)) → entries_where f at xs ≡ entries_where f at ys
  entries_same f at [] [] same = refl
  entries_same f at [] (y ∷ ys) same =
      entries_same f (at + 1) [] ys (λ j k e. same j (suc k) (omega arith))
      ∙ put_same (f at) at None y _ (same at zero (omega arith))
  entries_same f at (x ∷ xs) [] same =
      put_same (f at) at x None _ (same at zero (omega arith))
      ∙ entries_same f (at + 1) xs [] (λ j k e. same j (suc k) (omega arith))
  entries_same f at (x ∷ xs) (y ∷ ys) same =
      put_same (f at) at x y _ (same at zero (omega arith))
      ∙ ap (put_entry (f at) at y) (entries_same f (at + 1) xs ys (λ j k e. same j (suc k) (omega arith)))

  -- one that leaves out the first of them
  entries_taken : (f g : ℕ → Bool) (at : ℕ) (xs : List (Option (ℕ × T))) (i k : ℕ) (e : ℕ × T) → i ≡ at + k → slice_get xs k ≡ Some (Some e) → f i ≡ true → g i ≡ false → ((j m : ℕ) → j ≡ at + m → IsSome (joined (slice_get xs m)) → j < i → f j ≡ false) → ((j m : ℕ) → j ≡ at + m → IsSome (joined (slice_get xs m)) → j ≢ i → g j ≡ f j) → entries_where f at xs ≡ ((i, e.0), e.1) ∷ entries_where g at xs
  entries_taken f g at [] i k e place found was gone none same = absurd (cc)
  entries_taken f g at (None ∷ xs) i zero e place found was gone none same = absurd (cc)
  entries_taken f g at (Some x ∷ xs) i zero e place found was gone none same =
      let here : i ≡ at = omega arith in
      let is : x ≡ e = cc in
      rw (sym here, was, gone, is) (ap (λ r. ((i, e.0), e.1) ∷ r) (entries_agree f g (i + 1) xs (λ j m at' live. sym (same j (suc m) (omega arith) live (λ h. absurd (omega arith))))))
  entries_taken f g at (None ∷ xs) i (suc k) e place found was gone none same =
      entries_taken f g (at + 1) xs i k e (omega arith) found was gone (λ j m at'. none j (suc m) (omega arith)) (λ j m at'. same j (suc m) (omega arith))
  entries_taken f g at (Some x ∷ xs) i (suc k) e place found was gone none same =
      let no = none at zero (omega arith) refl (omega arith) in
      let no' = same at zero (omega arith) refl (λ h. absurd (omega arith)) ∙ no in
      rw (no, no') (entries_taken f g (at + 1) xs i k e (omega arith) found was gone (λ j m at'. none j (suc m) (omega arith)) (λ j m at'. same j (suc m) (omega arith)))

  -- none where the test holds of no live index
  entries_none : (f : ℕ → Bool) (at : ℕ) (xs : List (Option (ℕ × T))) → ((j k : ℕ) → j ≡ at + k → IsSome (joined (slice_get xs k)) → f j ≡ false) → entries_where f at xs ≡ []
  entries_none f at [] none = refl
  entries_none f at (None ∷ xs) none = entries_none f (at + 1) xs (λ j k e. none j (suc k) (omega arith))
  entries_none f at (Some x ∷ xs) none =
      rw (none at zero (omega arith) refl) (entries_none f (at + 1) xs (λ j k e. none j (suc k) (omega arith)))

  put_append : (asked : Bool) (at : ℕ) (o : Option (ℕ × T)) (xs ys : List (Pointer × T)) → put_entry asked at o (xs ++ ys) ≡ put_entry asked at o xs ++ ys
  put_append asked at None xs ys = refl
  put_append true at (Some e) xs ys = refl
  put_append false at (Some e) xs ys = refl

  -- one that adds the last of them
  entries_given : (f g : ℕ → Bool) (at : ℕ) (xs : List (Option (ℕ × T))) (i k : ℕ) (e : ℕ × T) → i ≡ at + k → slice_get xs k ≡ Some (Some e) → f i ≡ false → g i ≡ true → ((j m : ℕ) → j ≡ at + m → IsSome (joined (slice_get xs m)) → i < j → f j ≡ false) → ((j m : ℕ) → j ≡ at + m → IsSome (joined (slice_get xs m)) → j ≢ i → g j ≡ f j) → entries_where g at xs ≡ entries_where f at xs ++ ((i, e.0), e.1) ∷ []
  entries_given f g at [] i k e place found was now none same = absurd (cc)
  entries_given f g at (None ∷ xs) i zero e place found was now none same = absurd (cc)
  entries_given f g at (Some x ∷ xs) i zero e place found was now none same =
      let here : at ≡ i = omega arith in
      let is : x ≡ e = cc in
      let rest : entries_where f (at + 1) xs ≡ [] = entries_none f (at + 1) xs (λ j m at' live. none j (suc m) (omega arith) live (omega arith)) in
      let rest' : entries_where g (at + 1) xs ≡ [] = entries_agree g f (at + 1) xs (λ j m at' live. same j (suc m) (omega arith) live (λ h. absurd (omega arith))) ∙ rest in
      rw (here, was, now, rw here at rest, rw here at rest', is) refl
  entries_given f g at (None ∷ xs) i (suc k) e place found was now none same =
      entries_given f g (at + 1) xs i k e (omega arith) found was now (λ j m at'. none j (suc m) (omega arith)) (λ j m at'. same j (suc m) (omega arith))
  entries_given f g at (Some x ∷ xs) i (suc k) e place found was now none same =
      let later = entries_given f g (at + 1) xs i k e (omega arith) found was now (λ j m at'. none j (suc m) (omega arith)) (λ j m at'. same j (suc m) (omega arith)) in
      ap (λ asked. put_entry asked at (Some x) (entries_where g (at + 1) xs)) (same at zero (omega arith) refl (λ h. absurd (omega arith)))
      ∙ ap (put_entry (f at) at (Some x)) later
      ∙ put_append (f at) at (Some x) (entries_where f (at + 1) xs) (((i, e.0), e.1) ∷ [])

  live_slot : (slots : List (Option (ℕ × T))) (j k : ℕ) → j ≡ 1 + k → IsSome (joined (slice_get slots k)) → IsSome (entry_in slots j)
  live_slot slots zero k e live = absurd (omega arith)
  live_slot slots (suc m) k e live = let same : m ≡ k = omega arith in rw same live

  joined_some : (o : Option (Option (ℕ × T))) (e : ℕ × T) → joined o ≡ Some e → o ≡ Some (Some e)
  joined_some None e h = absurd (cc)
  joined_some (Some o) e h = ap Some h

  pub length-entries_from : (at : ℕ) (xs : List (Option (ℕ × T))) → length (entries_from at xs) ≡ count_by is_some xs
  length-entries_from at [] = refl
  length-entries_from at (None ∷ xs) = omega (arith, length-entries_from (at + 1) xs, sum_by-cons (λ o. cond (is_some o) 1 0) None xs)
  length-entries_from at (Some x ∷ xs) = omega (arith, length-entries_from (at + 1) xs, sum_by-cons (λ o. cond (is_some o) 1 0) (Some x) xs)

  pub length-entries : (slots : List (Option (ℕ × T))) → length (entries slots) ≡ entry_count slots
  length-entries slots = length-entries_from 1 slots

  pub some_or_none : (e : Option (ℕ × T)) → IsSome e → e ≡ None → ⊥
  some_or_none None h e = true≢false (sym h)
  some_or_none (Some x) h e = cc

  -- an entry stands at the index of a slot
  pub live_within : (xs : List (Option (ℕ × T))) (i : ℕ) → IsSome (entry_in xs i) → (0 < i) × (i ≤ length xs)
  live_within xs i live = by_item (item xs i) refl
    where
      by_item : (o : Option (Option (ℕ × T))) → item xs i ≡ o → (0 < i) × (i ≤ length xs)
      by_item None e = absurd (some_or_none _ live (ap joined e))
      by_item (Some x) e = item_within xs i x e

  -- the value under a live pointer, and its entry
  pub record Found (slots : List (Option (ℕ × T))) (p : Pointer) : Type 0 where
    pub value : T
    pub entry : entry_in slots p.0 ≡ Some (p.1, value)
    pub looked_up : look_up slots p ≡ Some value

  found_in : (o : Option (ℕ × T)) (g : ℕ) → IsSome (option_and_then (value_of_generation g) o) → (v : T) × (o ≡ Some (g, v)) × (option_and_then (value_of_generation g) o ≡ Some v)
  found_in None g live = absurd (true≢false (sym live))
  found_in (Some (h, v)) g live =
      elim (cases_eq h g) [
        | inl same ↦ (v, ap (λ n. Some (n, v)) same, rw (eq_true h g same) refl)
        | inr other ↦ absurd (true≢false (sym (rw (eq_false h g other) at live)))
      ]

  pub found : (slots : List (Option (ℕ × T))) (p : Pointer) → IsSome (look_up slots p) → Found slots p
  found slots p live =
      let f = found_in (entry_in slots p.0) p.1 live in
      record { value = f.0; entry = f.1; looked_up = f.2 }

  live_entry : (slots : List (Option (ℕ × T))) (p : Pointer) → IsSome (look_up slots p) → IsSome (entry_in slots p.0)
  live_entry slots p live = let f = found slots p live in rw f.entry refl

  -- a step that answers takes one live index out of those ahead
  pub record Taken (greatest : ℕ) (slots : List (Option (ℕ × T))) (b : Stand) (p : Pointer) (a : Stand) : Type 0 where
    pub live : IsSome (look_up slots p)
    pub was : is_ahead b p.0 ≡ true
    pub gone : is_ahead a p.0 ≡ false
    pub same : (j : ℕ) → IsSome (entry_in slots j) → j ≢ p.0 → is_ahead a j ≡ is_ahead b j
    pub fewer : steps_left greatest a < steps_left greatest b

  taken_moved : (greatest : ℕ) (slots : List (Option (ℕ × T))) (reverse : Bool) (place : ℕ) (p : Pointer) → Answers slots (record { place = place; reverse = reverse }) (Some p) → length slots ≤ greatest → Taken greatest slots (record { place = place; reverse = reverse }) p (moved greatest (length slots) (record { place = place; reverse = reverse }) (Some p))
  taken_moved greatest slots false place p answer size =
      let at = up_tells place p.0 answer.1 in
      let within = (live_within slots p.0 (live_entry slots p answer.0)).1 in
      record {
        live = answer.0;
        was = answer.1;
        gone = gone_up greatest p.0;
        same = λ j live other. same_up greatest place p.0 j (omega (arith, size, (live_within slots j live).1)) at.0 at.1 (λ ahead below. some_or_none _ live (answer.2 j ahead (le-leb (suc j) p.0 below))) other;
        fewer = fewer_up greatest place p.0 at.0 at.1 (omega (arith, within, size));
      }
  taken_moved greatest slots true place p answer size =
      let at = down_tells place p.0 answer.1 in
      let within = live_within slots p.0 (live_entry slots p answer.0) in
      record {
        live = answer.0;
        was = answer.1;
        gone = down_no (p.0 - 1) p.0 (omega (arith, within.0));
        same = λ j live other. same_down place p.0 j (live_within slots j live).0 at.0 at.1 (λ ahead above. some_or_none _ live (answer.2 j ahead (le-leb (suc p.0) j above))) other;
        fewer = omega (arith, within.0, at.1);
      }

  pub taken : (greatest : ℕ) (slots : List (Option (ℕ × T))) (b : Stand) (p : Pointer) (a : Stand) → Steps greatest slots b (Some p) a → Taken greatest slots b p a
  taken greatest slots b p a s =
      subst (Taken greatest slots b p) (sym s.moves) (taken_moved greatest slots b.reverse b.place p s.answers s.within)

  -- a step that answers leaves fewer
  pub fewer_left : (greatest : ℕ) (slots : List (Option (ℕ × T))) (b : Stand) (o : Option Pointer) (a : Stand) → Steps greatest slots b o a → IsSome o → steps_left greatest a < steps_left greatest b
  fewer_left greatest slots b None a s some = absurd (true≢false (sym some))
  fewer_left greatest slots b (Some p) a s some = (taken greatest slots b p a s).fewer

  -- the first of the entries ahead is the one that is answered
  pub ahead_taken : (greatest : ℕ) (slots : List (Option (ℕ × T))) (b : Stand) (p : Pointer) (a : Stand) → b.reverse ≡ false → Steps greatest slots b (Some p) a → (v : T) → look_up slots p ≡ Some v → entries_ahead b slots ≡ (p, v) ∷ entries_ahead a slots
  ahead_taken greatest slots b p a forward s v is =
      let t = taken greatest slots b p a s in
      let f = found slots p t.live in
      let same : f.value ≡ v = some_same (sym f.looked_up ∙ is) in
      let low = (live_within slots p.0 (live_entry slots p t.live)).0 in
      let place : p.0 ≡ 1 + (p.0 - 1) = omega (arith, low) in
      let next : p.0 ≡ suc (p.0 - 1) = omega (arith, low) in
      subst (λ w. entries_ahead b slots ≡ (p, w) ∷ entries_ahead a slots) same
      (entries_taken (is_ahead b) (is_ahead a) 1 slots p.0 (p.0 - 1) (p.1, f.value) place
      (joined_some (slice_get slots (p.0 - 1)) (p.1, f.value) (subst (λ n. entry_in slots n ≡ Some (p.1, f.value)) next f.entry))
      t.was t.gone
      (λ j k at live below. before j (live_slot slots j k at live) below)
      (λ j k at live other. t.same j (live_slot slots j k at live) other))
    where
      some_same : {A : Type 0} {x y : A} → Some x ≡ Some y → x ≡ y
      some_same e = cc

      before : (j : ℕ) → IsSome (entry_in slots j) → j < p.0 → is_ahead b j ≡ false
      before j live below = by_test (is_ahead b j) refl
        where
          by_test : (t : Bool) → is_ahead b j ≡ t → is_ahead b j ≡ false
          by_test false e = e
          by_test true e = absurd (some_or_none _ live (s.answers.2 j e (rw forward (le-leb (suc j) p.0 below))))

  -- where none is answered, no entry was ahead, and all were behind
  not_ahead : (greatest : ℕ) (slots : List (Option (ℕ × T))) (b a : Stand) → Steps greatest slots b None a → (j : ℕ) → IsSome (entry_in slots j) → is_ahead b j ≡ false
  not_ahead greatest slots b a s j live = by_test (is_ahead b j) refl
    where
      by_test : (t : Bool) → is_ahead b j ≡ t → is_ahead b j ≡ false
      by_test false e = e
      by_test true e = absurd (some_or_none _ live (s.answers j e))

  pub ahead_none : (greatest : ℕ) (slots : List (Option (ℕ × T))) (b a : Stand) → Steps greatest slots b None a → entries_ahead b slots ≡ []
  ahead_none greatest slots b a s = entries_none (is_ahead b) 1 slots (λ j k at live. not_ahead greatest slots b a s j (live_slot slots j k at live))

  pub all_behind : (greatest : ℕ) (slots : List (Option (ℕ × T))) (b a : Stand) → Steps greatest slots b None a → entries_behind b slots ≡ entries slots
  all_behind greatest slots b a s =
      entries_agree (λ i. not (is_ahead b i)) (λ i. true) 1 slots (λ j k at live. ap not (not_ahead greatest slots b a s j (live_slot slots j k at live)))

  -- where every entry is ahead, all are
  pub ahead_all : (slots : List (Option (ℕ × T))) (s : Stand) → ((i : ℕ) → IsSome (entry_in slots i) → IsTrue (is_ahead s i)) → entries_ahead s slots ≡ entries slots
  ahead_all slots s all = entries_agree (is_ahead s) (λ i. true) 1 slots (λ j k at live. all j (live_slot slots j k at live))

  -- all entries are ahead of an advancer at the first one
  pub ahead_first : (slots : List (Option (ℕ × T))) (s : Stand) → IsAtFirst slots s → entries_ahead s slots ≡ entries slots
  ahead_first slots s first = ahead_all slots s first.all

  pub none_behind : (slots : List (Option (ℕ × T))) (s : Stand) → IsAtFirst slots s → entries_behind s slots ≡ []
  none_behind slots s first = entries_none (λ i. not (is_ahead s i)) 1 slots (λ j k at live. ap not (first.all j (live_slot slots j k at live)))

  -- a step keeps the direction
  pub forward_stays : (greatest : ℕ) (slots : List (Option (ℕ × T))) (b : Stand) (r : Option Pointer) (a : Stand) → Steps greatest slots b r a → a.reverse ≡ b.reverse
  forward_stays greatest slots b None a s = ap (λ t. t.reverse) s.moves
  forward_stays greatest slots b (Some p) a s = ap (λ t. t.reverse) s.moves

  pub one_less : (greatest : ℕ) (slots : List (Option (ℕ × T))) (b : Stand) (p : Pointer) (a : Stand) → b.reverse ≡ false → Steps greatest slots b (Some p) a → length (entries_ahead b slots) ≡ 1 + length (entries_ahead a slots)
  one_less greatest slots b p a forward s =
      let f = found slots p (taken greatest slots b p a s).live in
      omega (arith, ap length (ahead_taken greatest slots b p a forward s f.value f.looked_up))

  -- and nothing is ahead after it
  pub ahead_after_none : (greatest : ℕ) (slots : List (Option (ℕ × T))) (b a : Stand) → b.reverse ≡ false → Steps greatest slots b None a → entries_ahead a slots ≡ []
  ahead_after_none greatest slots b a forward s =
      entries_none (is_ahead a) 1 slots (λ j k at live. rw (s.moves, forward) (after_none greatest (length slots) b.place j (live_within slots j (live_slot slots j k at live)).1))

  keys_cond : (b : Bool) (x : Pointer × T) (xs : List (Pointer × T)) → keys_of (cond b (x ∷ xs) xs) ≡ cond b (x.0 ∷ keys_of xs) (keys_of xs)
  keys_cond true x xs = refl
  keys_cond false x xs = refl

  keys_where : (f : ℕ → Bool) (at : ℕ) (xs : List (Option (ℕ × T))) → keys_of (entries_where f at xs) ≡ met f (keys_of (entries_from at xs))
  keys_where f at [] = refl
  keys_where f at (None ∷ xs) = keys_where f (at + 1) xs
  keys_where f at (Some e ∷ xs) =
      keys_cond (f at) ((at, e.0), e.1) (entries_where f (at + 1) xs)
      ∙ ap (λ ks. cond (f at) ((at, e.0) ∷ ks) ks) (keys_where f (at + 1) xs)

  -- what is ahead depends on the pointers of the entries alone
  pub ahead_by_keys : (s : Stand) (old new : List (Option (ℕ × T))) → keys old ≡ keys new → keys_ahead s old ≡ keys_ahead s new
  ahead_by_keys s old new e =
      keys_where (is_ahead s) 1 old ∙ ap (met (is_ahead s)) e ∙ sym (keys_where (is_ahead s) 1 new)

  -- a walk begins with all pointers, takes the first at each step, and ends with none
  pub keys_first : (slots : List (Option (ℕ × T))) (s : Stand) → IsAtFirst slots s → keys_ahead s slots ≡ keys slots
  keys_first slots s first = ap keys_of (ahead_first slots s first)

  pub keys_taken : (greatest : ℕ) (slots : List (Option (ℕ × T))) (b : Stand) (p : Pointer) (a : Stand) → b.reverse ≡ false → Steps greatest slots b (Some p) a → keys_ahead b slots ≡ p ∷ keys_ahead a slots
  keys_taken greatest slots b p a forward s =
      let f = found slots p (taken greatest slots b p a s).live in
      ap keys_of (ahead_taken greatest slots b p a forward s f.value f.looked_up)

  pub keys_none : (greatest : ℕ) (slots : List (Option (ℕ × T))) (b a : Stand) → Steps greatest slots b None a → keys_ahead b slots ≡ []
  keys_none greatest slots b a s = ap keys_of (ahead_none greatest slots b a s)

  -- there is an answer where something is ahead
  pub some_answer : {P : Type 0} (numbers : P → Pointer) (greatest : ℕ) (slots : List (Option (ℕ × T))) (b : Stand) (o : Option P) (a : Stand) → Steps greatest slots b (option_map numbers o) a → 0 < length (keys_ahead b slots) → IsSome o
  some_answer numbers greatest slots b None a s more = absurd (omega (arith, more, ap length (keys_none greatest slots b a s)))
  some_answer numbers greatest slots b (Some p) a s more = refl

  pub slot_at : (slots : List (Option (ℕ × T))) (i : ℕ) (e : ℕ × T) → entry_in slots i ≡ Some e → (k : ℕ) × (i ≡ 1 + k) × (slice_get slots k ≡ Some (Some e))
  slot_at slots zero e found = absurd (cc)
  slot_at slots (suc k) e found = (k, omega arith, joined_some (slice_get slots k) e found)

  pub slot_of : (slots : List (Option (ℕ × T))) (j k : ℕ) → j ≡ 1 + k → entry_in slots j ≡ joined (slice_get slots k)
  slot_of slots zero k e = absurd (omega (arith, e))
  slot_of slots (suc m) k e = let same : m ≡ k = omega (arith, e) in rw same refl

  -- a change at the pointer that was just answered leaves what is ahead: the pointers and the values
  pub ahead_changed : (greatest : ℕ) (slots new : List (Option (ℕ × T))) (b : Stand) (p : Pointer) (a : Stand) (o : Option (ℕ × T)) → Steps greatest slots b (Some p) a → ChangesAt slots p.0 o new → entries_ahead a new ≡ entries_ahead a slots
  ahead_changed greatest slots new b p a o s change =
      let gone = (taken greatest slots b p a s).gone in
      let other : (j : ℕ) → is_ahead a j ≡ true → j ≢ p.0 = λ j yes e. true≢false (sym yes ∙ ap (is_ahead a) e ∙ gone) in
      entries_same (is_ahead a) 1 new slots (λ j k at yes. sym (slot_of new j k at) ∙ change.others j (other j yes) ∙ slot_of slots j k at)

  pub ahead_written : (greatest : ℕ) (slots : List (Option (ℕ × T))) (b : Stand) (p : Pointer) (a : Stand) (w : T) → Steps greatest slots b (Some p) a → entries_ahead a (with_value_in slots p.0 w) ≡ entries_ahead a slots
  ahead_written greatest slots b p a w s =
      ahead_changed greatest slots (with_value_in slots p.0 w) b p a (option_map (λ e. (e.0, w)) (entry_in slots p.0)) s (written slots p.0 w)

  -- and the entry that was answered comes last of those behind
  pub behind_written : (greatest : ℕ) (slots : List (Option (ℕ × T))) (b : Stand) (p : Pointer) (a : Stand) (w : T) → b.reverse ≡ false → Steps greatest slots b (Some p) a → entries_behind a (with_value_in slots p.0 w) ≡ entries_behind b slots ++ (p, w) ∷ []
  behind_written greatest slots b p a w forward s =
      let t = taken greatest slots b p a s in
      let entry = (found slots p t.live).entry in
      let change = written slots p.0 w in
      let here : entry_in (with_value_in slots p.0 w) p.0 ≡ Some (p.1, w) = change.there ∙ ap (option_map (λ (e : ℕ × T). (e.0, w))) entry in
      let slot = slot_at (with_value_in slots p.0 w) p.0 (p.1, w) here in
      let from = ahead_from b p.0 forward t.was in
      let ahead : (j : ℕ) → p.0 < j → is_ahead b j ≡ true = λ j above. rw forward (up_yes b.place j from.0 (omega (arith, from.1, above))) in
      let was : (j k : ℕ) → j ≡ 1 + k → j ≢ p.0 → joined (slice_get (with_value_in slots p.0 w) k) ≡ joined (slice_get slots k) = λ j k at other. sym (slot_of (with_value_in slots p.0 w) j k at) ∙ change.others j other ∙ slot_of slots j k at in
      entries_given (λ i. not (is_ahead b i)) (λ i. not (is_ahead a i)) 1 (with_value_in slots p.0 w) p.0 slot.0 (p.1, w) slot.1 slot.2 (ap not t.was) (ap not t.gone)
      (λ j k at live above. ap not (ahead j above))
      (λ j k at live other. ap not (t.same j (live_slot slots j k at (subst IsSome (was j k at other) live)) other))
      ∙ ap (λ es. es ++ (p, w) ∷ []) (entries_same (λ i. not (is_ahead b i)) 1 (with_value_in slots p.0 w) slots (λ j k at yes. was j k at (λ e. true≢false (sym yes ∙ ap (λ i. not (is_ahead b i)) e ∙ ap not t.was))))

  -- a walk goes on by one more step
  pub walk_more : (greatest : ℕ) (s : Stand) (turns : List (List (Option (ℕ × T)) × Pointer)) (t : Stand) (slots : List (Option (ℕ × T))) (p : Pointer) (u : Stand) → Walk greatest s turns t → Steps greatest slots t (Some p) u → Walk greatest s (turns ++ (slots, p) ∷ []) u
  walk_more greatest s [] t slots p u walk step = (u, subst (λ v. Steps greatest slots v (Some p) u) walk step, refl)
  walk_more greatest s ((first, q) ∷ rest) t slots p u (v, begins, walk) step = (v, begins, walk_more greatest v rest t slots p u walk step)

  -- the indexes that a forward walk answers rise, from its place on
  pub rises_from : (greatest low : ℕ) (s : Stand) (turns : List (List (Option (ℕ × T)) × Pointer)) (t : Stand) → s.reverse ≡ false → (s.place ≡ 0) ⊎ (low ≤ s.place) → Walk greatest s turns t → IsRising low (map (λ turn. turn.1.0) turns)
  rises_from greatest low s [] t forward from walk = tt
  rises_from greatest low s ((slots, p) ∷ rest) t forward from (u, step, walk) =
      let ahead = ahead_from s p.0 forward step.answers.1 in
      let at : u.place ≡ place_of greatest (p.0 + 1) = ap (λ (v : Stand). v.place) step.moves ∙ ap (λ b. cond b (p.0 - 1) (place_of greatest (p.0 + 1))) forward in
      let on : (u.place ≡ 0) ⊎ (p.0 + 1 ≤ u.place) = elim (place_cases greatest (p.0 + 1)) [ inl here ↦ inr (omega (arith, at, here.0)) | inr nowhere ↦ inl (at ∙ nowhere.0) ] in (
        elim from [ inl nowhere ↦ absurd (omega (arith, nowhere, ahead.0)) | inr below ↦ omega (arith, below, ahead.1) ],
        rises_from greatest (p.0 + 1) u rest t (forward_stays greatest slots s (Some p) u step ∙ forward) on walk,
      )

  pub walk_rises : (greatest : ℕ) (s : Stand) (turns : List (List (Option (ℕ × T)) × Pointer)) (t : Stand) → s.reverse ≡ false → Walk greatest s turns t → IsRising s.place (map (λ turn. turn.1.0) turns)
  walk_rises greatest s turns t forward walk = rises_from greatest s.place s turns t forward (inr (omega arith)) walk

  -- an index that is ahead, and that is live at every step of a walk that ends, is answered
  pub walk_sees : (greatest : ℕ) (s : Stand) (turns : List (List (Option (ℕ × T)) × Pointer)) (t : Stand) (last : List (Option (ℕ × T))) (end : Stand) (i : ℕ) → IsTrue (is_ahead s i) → Walk greatest s turns t → Steps greatest last t None end → All (λ turn. IsSome (entry_in turn.0 i)) turns → IsSome (entry_in last i) → Contains (map (λ turn. turn.1.0) turns) i
  walk_sees greatest s [] t last end i ahead walk ends lives live =
      absurd (some_or_none _ live (ends.answers i (ap (λ v. is_ahead v i) walk ∙ ahead)))
  walk_sees greatest s ((slots, p) ∷ rest) t last end i ahead (u, step, walk) ends lives live =
      elim (cases_eq i p.0) [
        | inl same ↦ (zero, omega arith, sym same)
        | inr other ↦
            let here = lives zero (slots, p) (omega arith) in
            let still = (taken greatest slots s p u step).same i here other ∙ ahead in
            let later = walk_sees greatest u rest t last end i still walk ends (λ k d within. lives (suc k) d (omega (arith, within))) live in
            (suc later.0, omega (arith, later.1), later.2)
      ]

  -- where every entry is ahead, the one that is answered is the first, and every other one is ahead after it; where none is
  -- answered, there is none
  pub answer_first : (greatest : ℕ) (slots : List (Option (ℕ × T))) (b : Stand) (p : Pointer) (a : Stand) → IsBeforeAll slots b → Steps greatest slots b (Some p) a → IsFirst slots p
  answer_first greatest slots b p a before s =
      record { live = s.answers.0; none_below = λ i below. by_entry i below (entry_in slots i) refl }
    where
      by_entry : (i : ℕ) → i < p.0 → (o : Option (ℕ × T)) → entry_in slots i ≡ o → entry_in slots i ≡ None
      by_entry i below None e = e
      by_entry i below (Some x) e = s.answers.2 i (before.all i (rw e refl)) (rw before.forward (le-leb (suc i) p.0 below))

  pub others_ahead : (greatest : ℕ) (slots : List (Option (ℕ × T))) (b : Stand) (p : Pointer) (a : Stand) (left : List (Option (ℕ × T))) → IsBeforeAll slots b → Steps greatest slots b (Some p) a → ChangesAt slots p.0 None left → IsBeforeAll left a
  others_ahead greatest slots b p a left before s change =
      record {
        forward = forward_stays greatest slots b (Some p) a s ∙ before.forward;
        all = λ i live. elim (cases_eq i p.0) [
          | inl same ↦ absurd (some_or_none _ live (ap (entry_in left) same ∙ change.there))
          | inr other ↦ let was = rw (change.others i other) at live in (taken greatest slots b p a s).same i was other ∙ before.all i was
        ];
      }

  pub none_left : (greatest : ℕ) (slots : List (Option (ℕ × T))) (b a : Stand) → IsBeforeAll slots b → Steps greatest slots b None a → (entry_count slots ≡ 0) × IsBeforeAll slots a
  none_left greatest slots b a before s = (
    sym (length-entries slots) ∙ ap length (sym (ahead_all slots b before.all) ∙ ahead_none greatest slots b a s),
    record {
      forward = forward_stays greatest slots b None a s ∙ before.forward;
      all = λ i live. absurd (some_or_none _ live (s.answers i (before.all i live)));
    },
  )

  -- the first of the entries ahead is the one that is answered, and where it is taken out, the others stay ahead
  pub ahead_taken_out : (greatest : ℕ) (slots left : List (Option (ℕ × T))) (b : Stand) (p : Pointer) (a : Stand) (v : T) → b.reverse ≡ false → Steps greatest slots b (Some p) a → look_up slots p ≡ Some v → ChangesAt slots p.0 None left → entries_ahead b slots ≡ (p, v) ∷ entries_ahead a left
  ahead_taken_out greatest slots left b p a v forward s is change =
      ahead_taken greatest slots b p a forward s v is ∙ ap (λ rest. (p, v) ∷ rest) (sym (ahead_changed greatest slots left b p a None s change))

  -- the indexes of the entries rise
  keys_rise : (at : ℕ) (xs : List (Option (ℕ × T))) → IsRising at (map (λ p. p.0) (keys_of (entries_from at xs)))
  keys_rise at [] = tt
  keys_rise at (None ∷ xs) = rising_below at (at + 1) _ (omega arith) (keys_rise (at + 1) xs)
  keys_rise at (Some e ∷ xs) = (omega arith, keys_rise (at + 1) xs)

  pub keys_rising : (slots : List (Option (ℕ × T))) → IsRising 1 (map (λ p. p.0) (keys slots))
  keys_rising slots = keys_rise 1 slots

  -- each entry's pointer is among them
  key_of : (at : ℕ) (xs : List (Option (ℕ × T))) (i k : ℕ) (e : ℕ × T) → i ≡ at + k → slice_get xs k ≡ Some (Some e) → Contains (keys_of (entries_from at xs)) (i, e.0)
  key_of at [] i k e place found = absurd (cc)
  key_of at (None ∷ xs) i zero e place found = absurd (cc)
  key_of at (Some x ∷ xs) i zero e place found =
      let here : at ≡ i = omega (arith, place) in
      let is : x ≡ e = cc in
      (zero, omega arith, rw (here, is) refl)
  key_of at (None ∷ xs) i (suc k) e place found = key_of (at + 1) xs i k e (omega (arith, place)) found
  key_of at (Some x ∷ xs) i (suc k) e place found =
      let later = key_of (at + 1) xs i k e (omega (arith, place)) found in
      (suc later.0, omega (arith, later.1), later.2)

  pub live_key : (slots : List (Option (ℕ × T))) (p : Pointer) → IsSome (look_up slots p) → Contains (keys slots) p
  live_key slots p live =
      let f = found slots p live in
      let slot = slot_at slots p.0 (p.1, f.value) f.entry in
      key_of 1 slots p.0 slot.0 (p.1, f.value) slot.1 slot.2

  -- and no other is
  entry_of_key : (at : ℕ) (xs : List (Option (ℕ × T))) (j : ℕ) (p : Pointer) → j < length (keys_of (entries_from at xs)) → slice_index_or (keys_of (entries_from at xs)) j p ≡ p → (k : ℕ) × (v : T) × (p.0 ≡ at + k) × (slice_get xs k ≡ Some (Some (p.1, v)))
  entry_of_key at [] j p within is = absurd (omega (arith, within))
  entry_of_key at (None ∷ xs) j p within is =
      let later = entry_of_key (at + 1) xs j p within is in
      (suc later.0, later.1, omega (arith, later.2), later.3)
  entry_of_key at (Some e ∷ xs) zero p within is =
      (zero, e.1, omega (arith, ap (λ (q : Pointer). q.0) is), ap (λ (q : Pointer). Some (Some (q.1, e.1))) is)
  entry_of_key at (Some e ∷ xs) (suc j) p within is =
      let later = entry_of_key (at + 1) xs j p (omega (arith, within)) is in
      (suc later.0, later.1, omega (arith, later.2), later.3)

  pub key_live : (slots : List (Option (ℕ × T))) (p : Pointer) → Contains (keys slots) p → IsSome (look_up slots p)
  key_live slots p key =
      let found = entry_of_key 1 slots key.0 p key.1 key.2 in
      let entry : entry_in slots p.0 ≡ Some (p.1, found.1) = slot_of slots p.0 found.0 found.2 ∙ ap joined found.3 in
      rw (entry, eq_true p.1 p.1 refl) refl

  -- the pointer of greatest index is the last of them
  last_key : (at : ℕ) (xs : List (Option (ℕ × T))) (i k : ℕ) (e : ℕ × T) → i ≡ at + k → slice_get xs k ≡ Some (Some e) → ((m : ℕ) → k < m → joined (slice_get xs m) ≡ None) → (before : List Pointer) × (keys_of (entries_from at xs) ≡ before ++ (i, e.0) ∷ [])
  last_key at [] i k e place found none = absurd (cc)
  last_key at (None ∷ xs) i zero e place found none = absurd (cc)
  last_key at (Some x ∷ xs) i zero e place found none =
      let here : at ≡ i = omega (arith, place) in
      let is : x ≡ e = cc in
      let rest = entries_none (λ j. true) (at + 1) xs (λ j m at' live. absurd (some_or_none _ live (none (suc m) (omega arith)))) in
      ([], ap (λ entries. (at, x.0) ∷ keys_of entries) rest ∙ rw (here, is) refl)
  last_key at (None ∷ xs) i (suc k) e place found none = last_key (at + 1) xs i k e (omega (arith, place)) found (λ m past. none (suc m) (omega (arith, past)))
  last_key at (Some x ∷ xs) i (suc k) e place found none =
      let later = last_key (at + 1) xs i k e (omega (arith, place)) found (λ m past. none (suc m) (omega (arith, past))) in
      ((at, x.0) ∷ later.0, ap (λ rest. (at, x.0) ∷ rest) later.1)

  pub keys_end : (slots : List (Option (ℕ × T))) (p : Pointer) → IsLast slots p → (before : List Pointer) × (keys slots ≡ before ++ p ∷ [])
  keys_end slots p last =
      let f = found slots p last.live in
      let slot = slot_at slots p.0 (p.1, f.value) f.entry in
      last_key 1 slots p.0 slot.0 (p.1, f.value) slot.1 slot.2 (λ m past. sym (slot_of slots (suc m) m (omega arith)) ∙ last.none_above (suc m) (omega (arith, past, slot.1)))
