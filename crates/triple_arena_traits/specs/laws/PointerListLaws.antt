-- Laws of lists of pointers, and of the pointers of an arena.
use Rattle.std.proofs.Common.{◌≡◌, ◌≢◌, ℕ, zero, suc, ◌+◌, ◌<◌, ◌==◌, ◌||◌, Bool, true, false, IsTrue, List, [], ◌∷◌, ◌++◌, Option, Some, None, is_some, slice_get, refl, sym, ap, ◌∙◌, inl, inr, arith, true≢false}
use Rattle.std.proofs.lemmas.Bool.{cases_eq, eqb-true, eq-eqb, and_parts}
use Rattle.std.proofs.lemmas.List.Folds.{list_any-append}
use Rattle.std.specs.Option.{option_and_then}
use Rattle.triple_arena_ptr.specs.Pointers.{Pointer, is_same}
use Rattle.triple_arena_traits.specs.Items.{item}
use Rattle.triple_arena_traits.specs.laws.ItemLaws.{joined, eq_true, eq_false}
use Rattle.triple_arena_traits.specs.Entries.{value_of_generation}
use Rattle.triple_arena_traits.specs.ArenaState.{ArenaState, entry}
use Rattle.triple_arena_traits.specs.Walks.{keys_of, entries_from, keys}
use Rattle.triple_arena_traits.specs.laws.WalkLaws.{found}
use Rattle.triple_arena_traits.specs.Histories.{has, AreDistinct, is_live}

pub same_itself : (p : Pointer) → is_same p p ≡ true
same_itself p = rw (eq-eqb p.0 p.0 refl) (eq-eqb p.1 p.1 refl)

pub same_is : (p q : Pointer) → is_same p q ≡ true → p ≡ q
same_is p q e =
    let parts = and_parts (p.0 == q.0) (p.1 == q.1) e in
    let left : p.0 ≡ q.0 = eqb-true p.0 q.0 parts.0 in
    let right : p.1 ≡ q.1 = eqb-true p.1 q.1 parts.1 in
    ap (λ i. (i, p.1)) left ∙ ap (λ h. (q.0, h)) right

pub other_index : (p : Pointer) (i h : ℕ) → p.0 ≢ i → is_same p (i, h) ≡ false
other_index p i h other = rw (eq_false p.0 i other) refl

pub has-append : (xs ys : List Pointer) (p : Pointer) → has (xs ++ ys) p ≡ (has xs p || has ys p)
has-append xs ys p = list_any-append (is_same p) xs ys

pub has_head : (p : Pointer) (xs : List Pointer) → has (p ∷ xs) p ≡ true
has_head p xs = ap (λ b. b || has xs p) (same_itself p)

pub has_tail : (p q : Pointer) (xs : List Pointer) → has xs p ≡ true → has (q ∷ xs) p ≡ true
has_tail p q xs e = by (is_same p q)
  where
    by : (b : Bool) → (b || has xs p) ≡ true
    by true = refl
    by false = e

pub or_no : (a b : Bool) → b ≡ false → (a || b) ≡ a
or_no true b e = refl
or_no false b e = e

pub or_none : (a b : Bool) → a ≡ false → (a || b) ≡ b
or_none true b e = absurd (true≢false e)
or_none false b e = refl

pub or_false : (a b : Bool) → a ≡ false → b ≡ false → (a || b) ≡ false
or_false a b e h = or_none a b e ∙ h

-- a list of one pointer has that one
pub has_one : (p q : Pointer) → has (q ∷ []) p ≡ is_same p q
has_one p q = or_no (is_same p q) false refl

pub one_is : (p q : Pointer) → has (q ∷ []) p ≡ true → p ≡ q
one_is p q e = same_is p q (sym (has_one p q) ∙ e)

pub one_not : (p q : Pointer) → p.0 ≢ q.0 → has (q ∷ []) p ≡ false
one_not p q other = has_one p q ∙ other_index p q.0 q.1 other

pub false_unless : (b : Bool) → (b ≡ true → ⊥) → b ≡ false
false_unless true h = absurd (h refl)
false_unless false h = refl

-- two lists without a pointer twice, and with none in both
pub distinct-append : (xs ys : List Pointer) → AreDistinct xs → AreDistinct ys → ((p : Pointer) → has ys p ≡ true → has xs p ≡ false) → AreDistinct (xs ++ ys)
distinct-append [] ys d e apart = e
distinct-append (x ∷ xs) ys d e apart = (
  has-append xs ys x ∙ or_false (has xs x) (has ys x) d.0 (false_unless (has ys x) (λ so. true≢false (sym (has_head x xs) ∙ apart x so))),
  distinct-append xs ys d.1 e (λ p here. false_unless (has xs p) (λ there. true≢false (sym (has_tail p x xs there) ∙ apart p here))),
)

in_last : (ps : List Pointer) (p : Pointer) → has (ps ++ p ∷ []) p ≡ true
in_last [] p = has_head p []
in_last (q ∷ ps) p = has_tail p q (ps ++ p ∷ []) (in_last ps p)

-- where no pointer comes twice, the last one does not come before
pub distinct_last : (ps : List Pointer) (p : Pointer) → AreDistinct (ps ++ p ∷ []) → has ps p ≡ false
distinct_last [] p d = refl
distinct_last (q ∷ ps) p d =
    or_false (is_same p q) (has ps p)
    (false_unless (is_same p q) (λ same. true≢false (sym (in_last ps p) ∙ ap (has (ps ++ p ∷ [])) (same_is p q same) ∙ d.0)))
    (distinct_last ps p d.1)

module _ {T : Type 0} where
  -- whether a slot that holds this has the pointer's generation
  abbrev pub live_in : ℕ → Option (ℕ × T) → Bool
  live_in h o = is_some (option_and_then (value_of_generation h) o)

  pub live_in_one : (p : Pointer) (i h : ℕ) (v : T) → p.0 ≡ i → live_in p.1 (Some (h, v)) ≡ is_same p (i, h)
  live_in_one p i h v here =
      elim (cases_eq h p.1) [
        | inl same ↦ rw (eq_true h p.1 same, eq_true p.0 i here, eq_true p.1 h (sym same)) refl
        | inr other ↦ rw (eq_false h p.1 other, eq_true p.0 i here, eq_false p.1 h (λ e. other (sym e))) refl
      ]

  -- at the index of a live pointer no other is live
  pub live_same : (s : ArenaState T) (p q : Pointer) → IsTrue (is_live s q) → p.0 ≡ q.0 → is_live s p ≡ is_same p q
  live_same s p q live here =
      let at = found s.slots q live in
      ap (live_in p.1) (ap (entry s) here ∙ at.entry) ∙ live_in_one p q.0 q.1 at.value here

  -- the pointers of slots of which the first has the index `at`
  abbrev pub keys_from : ℕ → List (Option (ℕ × T)) → List Pointer
  keys_from at xs = keys_of (entries_from at xs)

  pub has-below : (at : ℕ) (xs : List (Option (ℕ × T))) (p : Pointer) → p.0 < at → has (keys_from at xs) p ≡ false
  has-below at [] p h = refl
  has-below at (None ∷ xs) p h = has-below (at + 1) xs p (omega arith)
  has-below at (Some e ∷ xs) p h = or_false _ _ (other_index p at e.0 (λ same. omega arith)) (has-below (at + 1) xs p (omega arith))

  has-at : (at : ℕ) (xs : List (Option (ℕ × T))) (k : ℕ) (p : Pointer) → p.0 ≡ at + k → has (keys_from at xs) p ≡ live_in p.1 (joined (slice_get xs k))
  has-at at [] k p h = refl
  has-at at (None ∷ xs) zero p h = has-below (at + 1) xs p (omega arith)
  has-at at (None ∷ xs) (suc k) p h = has-at (at + 1) xs k p (omega arith)
  has-at at (Some e ∷ xs) zero p h =
      or_no _ _ (has-below (at + 1) xs p (omega arith)) ∙ sym (live_in_one p at e.0 e.1 (omega arith))
  has-at at (Some e ∷ xs) (suc k) p h =
      or_none _ _ (other_index p at e.0 (λ same. omega arith)) ∙ has-at (at + 1) xs k p (omega arith)

  has_in : (xs : List (Option (ℕ × T))) (p : Pointer) (i : ℕ) → p.0 ≡ i → has (keys_from 1 xs) p ≡ live_in p.1 (joined (item xs i))
  has_in xs p zero h = has-below 1 xs p (omega arith)
  has_in xs p (suc k) h = has-at 1 xs k p (omega arith)

  -- the pointers of an arena are the live ones, each once
  pub has-keys : (s : ArenaState T) (p : Pointer) → has (keys s.slots) p ≡ is_live s p
  has-keys s p = has_in s.slots p p.0 refl

  distinct_from : (at : ℕ) (xs : List (Option (ℕ × T))) → AreDistinct (keys_from at xs)
  distinct_from at [] = tt
  distinct_from at (None ∷ xs) = distinct_from (at + 1) xs
  distinct_from at (Some e ∷ xs) = (has-below (at + 1) xs (at, e.0) (omega arith), distinct_from (at + 1) xs)

  pub distinct-keys : (s : ArenaState T) → AreDistinct (keys s.slots)
  distinct-keys s = distinct_from 1 s.slots

pub pointer_is : (a b x y : ℕ) → a ≡ x → b ≡ y → ◌≡◌ {A = ℕ × ℕ} (a, b) (x, y)
pointer_is a b x y p q = rw (p, q) refl
