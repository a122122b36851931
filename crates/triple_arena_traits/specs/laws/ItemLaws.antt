-- Laws of lists whose items are numbered from 1.
use Rattle.std.proofs.Common.{◌≡◌, ◌≢◌, ℕ, zero, suc, ◌+◌, ◌-◌, ◌<◌, ◌≤◌, ◌==◌, true, false, List, [], ◌∷◌, ◌++◌, map, length, set, take, Option, Some, None, slice_get, refl, sym, ap, ◌∙◌, arith}
use Rattle.std.proofs.lemmas.Bool.Decides.{nat_tests}
use Rattle.std.proofs.lemmas.List.{length-set, length-take-le, map-set}
use Rattle.std.proofs.lemmas.Option.{slice_get_within, slice_get_past, slice_get-map}
use Rattle.std.specs.Option.{option_map, option_and_then}
use Rattle.triple_arena_traits.specs.Items.{item, with_item}

-- the entry of a slot, if there is a slot and it has one
abbrev pub joined : {A : Type 0} → Option (Option A) → Option A
joined o = option_and_then (λ slot. slot) o

pub joined_mapped : {A B : Type 0} (f : A → Option B) (o : Option A) → option_and_then f o ≡ joined (option_map f o)
joined_mapped f None = refl
joined_mapped f (Some x) = refl

pub eq_true : (j i : ℕ) → j ≡ i → (j == i) ≡ true
eq_true j i e = grind (arith, nat_tests)

pub eq_false : (j i : ℕ) → j ≢ i → (j == i) ≡ false
eq_false j i e = grind (arith, nat_tests)

module _ {A : Type 0} where
  slice_get-set_other : (xs : List A) (k j : ℕ) (x : A) → j ≢ k → slice_get (set xs k x) j ≡ slice_get xs j
  slice_get-set_other [] k j x h = refl
  slice_get-set_other (y ∷ xs) zero zero x h = absurd (h refl)
  slice_get-set_other (y ∷ xs) zero (suc j) x h = refl
  slice_get-set_other (y ∷ xs) (suc k) zero x h = refl
  slice_get-set_other (y ∷ xs) (suc k) (suc j) x h = slice_get-set_other xs k j x (λ e. h (ap suc e))

  slice_get-push_same : (xs : List A) (k : ℕ) (x : A) → k ≡ length xs → slice_get (xs ++ x ∷ []) k ≡ Some x
  slice_get-push_same [] k x e = rw e refl
  slice_get-push_same (y ∷ xs) zero x e = absurd (omega arith)
  slice_get-push_same (y ∷ xs) (suc k) x e = slice_get-push_same xs k x (omega arith)

  slice_get-push_other : (xs : List A) (k : ℕ) (x : A) → k ≢ length xs → slice_get (xs ++ x ∷ []) k ≡ slice_get xs k
  slice_get-push_other [] zero x h = absurd (h refl)
  slice_get-push_other [] (suc k) x h = refl
  slice_get-push_other (y ∷ xs) zero x h = refl
  slice_get-push_other (y ∷ xs) (suc k) x h = slice_get-push_other xs k x (λ e. h (ap suc e))

  pub item_within : (xs : List A) (i : ℕ) (x : A) → item xs i ≡ Some x → (0 < i) × (i ≤ length xs)
  item_within xs zero x e = absurd (cc)
  item_within xs (suc k) x e = (omega arith, omega (arith, slice_get_within xs k x e))

  pub item_past : (xs : List A) (i : ℕ) → length xs < i → item xs i ≡ None
  item_past xs zero h = refl
  item_past xs (suc k) h = slice_get_past xs k (omega arith)

  pub item-with_other : (xs : List A) (i j : ℕ) (x : A) → j ≢ i → item (with_item xs i x) j ≡ item xs j
  item-with_other xs zero j x h = refl
  item-with_other xs (suc k) zero x h = refl
  item-with_other xs (suc k) (suc m) x h = slice_get-set_other xs k m x (λ e. h (ap suc e))

  pub item-push_same : (xs : List A) (i : ℕ) (x : A) → i ≡ length xs + 1 → item (xs ++ x ∷ []) i ≡ Some x
  item-push_same xs zero x e = absurd (omega arith)
  item-push_same xs (suc k) x e = slice_get-push_same xs k x (omega arith)

  pub item-push_other : (xs : List A) (i : ℕ) (x : A) → i ≢ length xs + 1 → item (xs ++ x ∷ []) i ≡ item xs i
  item-push_other xs zero x h = refl
  item-push_other xs (suc k) x h = slice_get-push_other xs k x (λ e. h (omega arith))

  set-past : (xs : List A) (k : ℕ) (x : A) → slice_get xs k ≡ None → set xs k x ≡ xs
  set-past [] k x e = refl
  set-past (y ∷ xs) zero x e = absurd (cc)
  set-past (y ∷ xs) (suc k) x e = ap (λ l. y ∷ l) (set-past xs k x e)

  -- an item is put only where one stands
  pub with_item-past : (xs : List A) (i : ℕ) (x : A) → item xs i ≡ None → with_item xs i x ≡ xs
  with_item-past xs zero x e = refl
  with_item-past xs (suc k) x e = set-past xs k x e

  -- a list with a last item is the rest and that item
  pub split_last : (xs : List A) (x : A) → item xs (length xs) ≡ Some x → xs ≡ take (length xs - 1) xs ++ x ∷ []
  split_last [] x e = absurd (cc)
  split_last (y ∷ []) x e = let same : y ≡ x = cc in ap (λ z. z ∷ []) same
  split_last (y ∷ z ∷ xs) x e =
      let n : length (y ∷ z ∷ xs) - 1 ≡ suc (length xs) = omega arith in
      let m : length (z ∷ xs) - 1 ≡ length xs = omega arith in
      rw n (ap (λ l. y ∷ l) (rw m at (split_last (z ∷ xs) x e)))

  slice_get-set_same : (xs : List A) (k : ℕ) (x : A) → k < length xs → slice_get (set xs k x) k ≡ Some x
  slice_get-set_same [] k x h = absurd (omega arith)
  slice_get-set_same (y ∷ xs) zero x h = refl
  slice_get-set_same (y ∷ xs) (suc k) x h = slice_get-set_same xs k x (omega arith)

  pub item_nil : (i : ℕ) → item {A = A} [] i ≡ None
  item_nil zero = refl
  item_nil (suc k) = refl

  pub item_at : (xs : List A) (i : ℕ) → 0 < i → item xs i ≡ slice_get xs (i - 1)
  item_at xs zero h = absurd (omega arith)
  item_at xs (suc k) h = let e : suc k - 1 ≡ k = omega arith in rw e refl

  -- the last item, as it is popped
  pub item_last : (xs : List A) (i : ℕ) (x : A) → 0 < i → i ≡ length xs → slice_get xs (length xs - 1) ≡ Some x → item xs i ≡ Some x
  item_last xs i x positive last popped = item_at xs i positive ∙ ap (λ n. slice_get xs (n - 1)) last ∙ popped

  pub with_item_at : (xs : List A) (i : ℕ) (x : A) → 0 < i → with_item xs i x ≡ set xs (i - 1) x
  with_item_at xs zero x h = absurd (omega arith)
  with_item_at xs (suc k) x h = let e : suc k - 1 ≡ k = omega arith in rw e refl

  pub length-with_item : (xs : List A) (i : ℕ) (x : A) → length (with_item xs i x) ≡ length xs
  length-with_item xs zero x = refl
  length-with_item xs (suc k) x = length-set xs k x

  pub item-with_same : (xs : List A) (i : ℕ) (x : A) → 0 < i → i ≤ length xs → item (with_item xs i x) i ≡ Some x
  item-with_same xs zero x h l = absurd (omega arith)
  item-with_same xs (suc k) x h l = slice_get-set_same xs k x (omega arith)

  set-twice : (xs : List A) (k : ℕ) (x y : A) → set (set xs k x) k y ≡ set xs k y
  set-twice [] k x y = refl
  set-twice (z ∷ xs) zero x y = refl
  set-twice (z ∷ xs) (suc k) x y = ap (λ l. z ∷ l) (set-twice xs k x y)

  set-push : (xs : List A) (k : ℕ) (x y : A) → k ≡ length xs → set (xs ++ x ∷ []) k y ≡ xs ++ y ∷ []
  set-push [] k x y e = rw e refl
  set-push (z ∷ xs) zero x y e = absurd (omega arith)
  set-push (z ∷ xs) (suc k) x y e = ap (λ l. z ∷ l) (set-push xs k x y (omega arith))

  -- of two items that are put under one number the second stays
  pub with_item-twice : (xs : List A) (i : ℕ) (x y : A) → with_item (with_item xs i x) i y ≡ with_item xs i y
  with_item-twice xs zero x y = refl
  with_item-twice xs (suc k) x y = set-twice xs k x y

  pub with_item-push : (xs : List A) (i : ℕ) (x y : A) → i ≡ length xs + 1 → with_item (xs ++ x ∷ []) i y ≡ xs ++ y ∷ []
  with_item-push xs zero x y e = absurd (omega arith)
  with_item-push xs (suc k) x y e = set-push xs k x y (omega arith)

  slice_get-take : (n : ℕ) (xs : List A) (k : ℕ) → k < n → slice_get (take n xs) k ≡ slice_get xs k
  slice_get-take zero xs k h = absurd (omega arith)
  slice_get-take (suc n) [] k h = refl
  slice_get-take (suc n) (x ∷ xs) zero h = refl
  slice_get-take (suc n) (x ∷ xs) (suc k) h = slice_get-take n xs k (omega arith)

  -- the items up to a number
  pub item-take : (n : ℕ) (xs : List A) (i : ℕ) → i ≤ n → item (take n xs) i ≡ item xs i
  item-take n xs zero h = refl
  item-take n xs (suc k) h = slice_get-take n xs k (omega arith)

  take-take : (n m : ℕ) (xs : List A) → n ≤ m → take n (take m xs) ≡ take n xs
  take-take zero m xs h = refl
  take-take (suc n) zero xs h = absurd (omega arith)
  take-take (suc n) (suc m) [] h = refl
  take-take (suc n) (suc m) (x ∷ xs) h = ap (λ l. x ∷ l) (take-take n m xs (omega arith))

  -- a front of a list without its last item is a front of it
  pub front_popped : (old xs : List A) → xs ≡ take (length xs) old → take (length xs - 1) xs ≡ take (length (take (length xs - 1) xs)) old
  front_popped old xs front =
      let n : length (take (length xs - 1) xs) ≡ length xs - 1 = length-take-le (length xs - 1) xs (omega arith) in
      rw n (ap (take (length xs - 1)) front ∙ take-take (length xs - 1) (length xs) old (omega arith))

  set_same : (xs : List A) (k : ℕ) (x : A) → slice_get xs k ≡ Some x → set xs k x ≡ xs
  set_same [] k x found = refl
  set_same (y ∷ xs) zero x found = let same : y ≡ x = cc in ap (λ z. z ∷ xs) (sym same)
  set_same (y ∷ xs) (suc k) x found = ap (λ l. y ∷ l) (set_same xs k x found)

  pub with_item_same : (xs : List A) (i : ℕ) (x : A) → item xs i ≡ Some x → with_item xs i x ≡ xs
  with_item_same xs zero x found = refl
  with_item_same xs (suc k) x found = set_same xs k x found

module _ {A B : Type 0} (f : A → B) where
  pub item-map : (xs : List A) (i : ℕ) → item (map f xs) i ≡ option_map f (item xs i)
  item-map xs zero = refl
  item-map xs (suc k) = slice_get-map f xs k

  pub map-with_item : (xs : List A) (i : ℕ) (x : A) → map f (with_item xs i x) ≡ with_item (map f xs) i (f x)
  map-with_item xs zero x = refl
  map-with_item xs (suc k) x = map-set f xs k x

  pub item-map_some : (xs : List A) (i : ℕ) (x : A) → item xs i ≡ Some x → item (map f xs) i ≡ Some (f x)
  item-map_some xs zero x e = absurd (cc)
  item-map_some xs (suc k) x e = rw (slice_get-map f xs k, e) refl

  pub item-map_none : (xs : List A) (i : ℕ) → item xs i ≡ None → item (map f xs) i ≡ None
  item-map_none xs zero e = refl
  item-map_none xs (suc k) e = rw (slice_get-map f xs k, e) refl
