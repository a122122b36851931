-- The rows of a table of names, and the images of their pointers.
use Rattle.std.proofs.Common.{◌≡◌, ℕ, ◌+◌, ◌-◌, ◌<◌, zero, suc, Bool, List, [], ◌∷◌, ◌++◌, map, take, drop, length, Option, Some, None, Result, Err, slice_get, slice_set, MatchOption, refl, sym, ap, subst, ◌∙◌, inl, inr, arith}
use Rattle.std.specs.List.{position, position_or_len}
use Rattle.std.specs.Option.{option_map}
use Rattle.std.proofs.lemmas.List.{length-map, map-append, map-set}
use Rattle.std.proofs.lemmas.Option.{slice_get-map, slice_get_cases}
use Rattle.triple_arena_base.specs.Held.{recast_item, item_answer}
use Rattle.triple_arena_stack.specs.StackState.{Roomed}
use Rattle.triple_arena_traits.specs.Items.{item, with_item}
use Rattle.triple_arena_commands.specs.declared.name_table.Row.{Row}
use Rattle.triple_arena_commands.specs.NameLayout.{pointers_of, RecastsAt}

-- a write that a map doesn't see
pub unseen_write : {A B : Type 0} (f : A → B) (xs : List A) (k : ℕ) (x y : A) → Some x ≡ slice_get xs k → f y ≡ f x → map f (slice_set xs k y) ≡ map f xs
unseen_write f [] k x y e same = absurd (cc)
unseen_write f (a ∷ rest) zero x y e same = let is : x ≡ a = cc in rw (same, is) refl
unseen_write f (a ∷ rest) (suc k) x y e same = ap (λ l. f a ∷ l) (unseen_write f rest k x y e same)

with_item_before : {A : Type 0} (xs : List A) (n : ℕ) (x : A) → 0 < n → with_item xs n x ≡ slice_set xs (n - 1) x
with_item_before xs zero x positive = absurd (omega arith)
with_item_before xs (suc k) x positive = let e : suc k - 1 ≡ k = omega arith in rw e refl

item_before : {A : Type 0} (xs : List A) (n : ℕ) → 0 < n → item xs n ≡ slice_get xs (n - 1)
item_before xs zero positive = absurd (omega arith)
item_before xs (suc k) positive = let e : suc k - 1 ≡ k = omega arith in rw e refl

set_absent : {A : Type 0} (xs : List A) (k : ℕ) (x : A) → None ≡ slice_get xs k → xs ≡ slice_set xs k x
set_absent [] k x none = refl
set_absent (y ∷ ys) zero x none = absurd (cc)
set_absent (y ∷ ys) (suc k) x none = ap (λ l. y ∷ l) (set_absent ys k x none)

set_same : {A : Type 0} (xs : List A) (k : ℕ) (x : A) → Some x ≡ slice_get xs k → xs ≡ slice_set xs k x
set_same [] k x found = refl
set_same (y ∷ ys) zero x found = let same : y ≡ x = cc in ap (λ z. z ∷ ys) same
set_same (y ∷ ys) (suc k) x found = ap (λ l. y ∷ l) (set_same ys k x found)

-- the rows of a table
module _ {P : Type 0} where
  -- the pointer that is read in the row of a name
  pub row_read : (rows : List (Row P)) (table : List P) (n m : ℕ) (o : Option (Row P)) → pointers_of rows ≡ table → m ≡ n → 0 < m → o ≡ slice_get rows (m - 1) → option_map (λ row. row.pointer) o ≡ item table n
  row_read rows table n m o shown is positive read =
      ap (option_map (λ row. row.pointer)) read
      ∙ sym (slice_get-map (λ row. row.pointer) rows (m - 1))
      ∙ ap (λ ps. slice_get ps (m - 1)) shown
      ∙ sym (item_before table m positive)
      ∙ ap (item table) is

  -- a pointer that is pushed
  pub row_pushed : (rows : List (Row P)) (table : List P) (row pushed : Row P) → pointers_of rows ≡ table → pushed ≡ row → pointers_of (rows ++ pushed ∷ []) ≡ table ++ row.pointer ∷ []
  row_pushed rows table row pushed shown is =
      map-append (λ r. r.pointer) rows (pushed ∷ [])
      ∙ ap (λ ps. ps ++ pushed.pointer ∷ []) shown
      ∙ ap (λ r. table ++ r.pointer ∷ []) is

  -- how many rows there are, and their room
  module _ (rows : List (Row P)) (room : ℕ) (table : Roomed P) (shows : ◌≡◌ {A = Roomed P} (record { items = pointers_of rows; room = room }) table) where
    pub length-shown : length rows ≡ length table.items
    length-shown = sym (length-map rows (λ row. row.pointer)) ∙ ap (λ t. length t.items) shows

    pub room-shown : room ≡ table.room
    room-shown = ap (λ t. t.room) shows

  -- a pointer that is written in the row of a name
  pub row_written : (rows : List (Row P)) (table : List P) (n m : ℕ) (row : Row P) → pointers_of rows ≡ table → m ≡ n → 0 < m → pointers_of (slice_set rows (m - 1) row) ≡ with_item table n row.pointer
  row_written rows table n m row shown is positive =
      map-set (λ r. r.pointer) rows (m - 1) row
      ∙ ap (λ ps. slice_set ps (m - 1) row.pointer) shown
      ∙ sym (with_item_before table m row.pointer positive)
      ∙ ap (λ k. with_item table k row.pointer) is

  -- where there is no row of a name, a write changes nothing
  pub no_row_written : (rows : List (Row P)) (table : List P) (n m : ℕ) (p : P) → pointers_of rows ≡ table → m ≡ n → 0 < m → None ≡ slice_get rows (m - 1) → pointers_of rows ≡ with_item table n p
  no_row_written rows table n m p shown is positive none =
      shown
      ∙ set_absent table (m - 1) p (ap (option_map (λ r. r.pointer)) none ∙ sym (slice_get-map (λ r. r.pointer) rows (m - 1)) ∙ ap (λ ps. slice_get ps (m - 1)) shown)
      ∙ sym (with_item_before table m p positive)
      ∙ ap (λ k. with_item table k p) is

-- a list whose first items have been mapped
module _ {A : Type 0} (f : A → A) where
  abbrev pub mapped_to : ℕ → List A → List A
  mapped_to k xs = map f (take k xs) ++ drop k xs

  next_read : (xs : List A) (k : ℕ) (x : A) → slice_get xs k ≡ Some x → slice_get (mapped_to k xs) k ≡ Some x
  next_read [] k x e = absurd (cc)
  next_read (y ∷ ys) zero x e = e
  next_read (y ∷ ys) (suc k) x e = next_read ys k x e

  next_written : (xs : List A) (k : ℕ) (x : A) → slice_get xs k ≡ Some x → slice_set (mapped_to k xs) k (f x) ≡ mapped_to (suc k) xs
  next_written [] k x e = absurd (cc)
  next_written (y ∷ ys) zero x e = let is : x ≡ y = cc in rw is refl
  next_written (y ∷ ys) (suc k) x e = ap (λ l. f y ∷ l) (next_written ys k x e)

  pub all_mapped : (xs : List A) → mapped_to (length xs) xs ≡ map f xs
  all_mapped [] = refl
  all_mapped (x ∷ xs) = ap (λ l. f x ∷ l) (all_mapped xs)

-- the image of one more item in its place
next_mapped : {A : Type 0} (image : A → Option A) (xs old new : List A) (k : ℕ) → k < length xs → old ≡ mapped_to (λ x. recast_item (image x) x) k xs → RecastsAt image (suc k) old new → new ≡ mapped_to (λ x. recast_item (image x) x) (suc k) xs
next_mapped {A} image xs old new k within is step =
    elim (slice_get_cases xs k).1 [
      | inl stands ↦ by_item stands.0 stands.2
      | inr past ↦ absurd (omega (arith, within, past.0))
    ]
  where
    by_item : (x : A) → slice_get xs k ≡ Some x → new ≡ mapped_to (λ y. recast_item (image y) y) (suc k) xs
    by_item x e =
        let at : slice_get old k ≡ Some x = ap (λ l. slice_get l k) is ∙ next_read (λ y. recast_item (image y) y) xs k x e in
        let new_is : new ≡ slice_set old k (recast_item (image x) x) = subst (λ o. MatchOption o (new ≡ old) (λ y. new ≡ slice_set old k (recast_item (image y) y))) at step in
        new_is ∙ ap (λ l. slice_set l k (recast_item (image x) x)) is ∙ next_written (λ y. recast_item (image y) y) xs k x e

pub one_more_mapped : {A : Type 0} (image : A → Option A) (xs old new : List A) (k : ℕ) → k < length xs → old ≡ mapped_to (λ x. recast_item (image x) x) k xs → RecastsAt image (k + 1) old new → new ≡ mapped_to (λ x. recast_item (image x) x) (k + 1) xs
one_more_mapped image xs old new k within is step = let next : k + 1 ≡ suc k = omega arith in rw next (next_mapped image xs old new k within is (subst (λ n. RecastsAt image n old new) next step))

-- an item that is put in its own place changes nothing
pub item_kept : {A : Type 0} (xs : List A) (n : ℕ) (x : A) → Some x ≡ item xs n → xs ≡ with_item xs n x
item_kept xs zero x e = refl
item_kept xs (suc k) x e = set_same xs k x e

-- what the replacement of an item by its image comes to, where it has none
pub none_recast : {A : Type 0} (image : A → Option A) (xs : List A) (n : ℕ) (x y : A) → Some x ≡ item xs n → Err y ≡ item_answer (image x) x → RecastsAt image n xs xs
none_recast {A} image xs n x y e refused = subst (λ o. MatchOption o (xs ≡ xs) (λ z. xs ≡ with_item xs n (recast_item (image z) z))) e (by_image (image x) refused)
  where
    by_image : (o : Option A) → ◌≡◌ {A = Result (Unit {0}) A} (Err y) (item_answer o x) → xs ≡ with_item xs n (recast_item o x)
    by_image None same = item_kept xs n x e
    by_image (Some z) same = absurd (cc)

module _ {A B : Type 0} (f : A → B) where
  module _ (p : B → Bool) (q : A → Bool) (agree : (x : A) → q x ≡ p (f x)) where
    place-mapped : (xs : List A) → position_or_len q xs ≡ position_or_len p (map f xs)
    place-mapped [] = refl
    place-mapped (x ∷ xs) = rw (agree x, place-mapped xs) refl

    -- the first of a list that passes is the first of the mapped list that passes
    pub position-mapped : (xs : List A) → position q xs ≡ position p (map f xs)
    position-mapped xs = rw (place-mapped xs, length-map xs f) refl
