-- Whether indexes are those of the free slots, each once.
use Rattle.std.proofs.Common.{◌≡◌, ◌≢◌, ℕ, zero, suc, ◌+◌, ◌-◌, ◌<◌, ◌≤◌, ◌==◌, ◌||◌, Bool, true, false, List, [], ◌∷◌, ◌++◌, map, length, drop, slice_get, slice_set, Option, Some, None, is_some, cond, refl, sym, ap, subst, ◌∙◌, inl, inr, arith, true≢false, not}
use Rattle.std.proofs.lemmas.Bool.{cases_eq, cases_lt, eq-eqb, eqb-true, and_parts}
use Rattle.std.proofs.lemmas.List.{length-append}
use Rattle.std.proofs.lemmas.List.Sums.{sum_by-append}
use Rattle.std.specs.List.{list_any}
use Rattle.std.specs.Option.{option_map}
use Rattle.triple_arena_traits.specs.Items.{item, with_item}
use Rattle.triple_arena_traits.specs.Entries.{entry_count}
use Rattle.triple_arena_traits.specs.ArenaState.{is_free}
use Rattle.triple_arena_traits.specs.FreeList.{gaps}
use Rattle.triple_arena_traits.specs.laws.EntryLaws.{count_head}
use Rattle.triple_arena_traits.specs.laws.FreeListLaws.{gaps_free, gaps_total}
use Rattle.triple_arena_traits.specs.laws.ItemLaws.{item_nil, item_at, item_within, item-with_same, item-with_other, item-map}
use Rattle.triple_arena_traits.specs.laws.WellFormedLaws.{count_tail}
use Rattle.triple_arena_slots.proofs.TwoWay.{split_at}
use Rattle.triple_arena_snapshot.specs.ArenaCodings.{times, all_alike, is_reordered, are_free, is_marked, mark_at, bit}

times-append : (j : ℕ) (xs ys : List ℕ) → times j (xs ++ ys) ≡ times j xs + times j ys
times-append j xs ys = sum_by-append (λ k. cond (k == j) 1 0) xs ys

times-cons : (j x : ℕ) (xs : List ℕ) → times j (x ∷ xs) ≡ times j (x ∷ []) + times j xs
times-cons j x xs = times-append j (x ∷ []) xs

all_alike-same : (is xs ys : List ℕ) → ((i : ℕ) → times i xs ≡ times i ys) → all_alike is xs ys ≡ true
all_alike-same [] xs ys same = refl
all_alike-same (i ∷ is) xs ys same = rw (eq-eqb (times i xs) (times i ys) (same i)) (all_alike-same is xs ys same)

all_alike-there : (is xs ys : List ℕ) (j : ℕ) → all_alike is xs ys ≡ true → 1 ≤ times j is → times j xs ≡ times j ys
all_alike-there [] xs ys j all there = absurd (omega (arith, there))
all_alike-there (i ∷ is) xs ys j all there =
    let both = and_parts (times i xs == times i ys) (all_alike is xs ys) all in
    elim (cases_eq i j) [
      | inl here ↦ subst (λ m. times m xs ≡ times m ys) here (eqb-true (times i xs) (times i ys) both.0)
      | inr other ↦ all_alike-there is xs ys j both.1 (omega (arith, there, count_tail i j is other))
    ]

-- lists in which each index stands as often are each other's reordering, and the other way round
pub is_reordered-same : (xs ys : List ℕ) → ((i : ℕ) → times i xs ≡ times i ys) → is_reordered xs ys ≡ true
is_reordered-same xs ys same = all_alike-same (xs ++ ys) xs ys same

pub same-is_reordered : (xs ys : List ℕ) → is_reordered xs ys ≡ true → (j : ℕ) → times j xs ≡ times j ys
same-is_reordered xs ys all j =
    elim (cases_lt 0 (times j (xs ++ ys))) [
      | inl there ↦ all_alike-there (xs ++ ys) xs ys j all there
      | inr none ↦ omega (arith, none, times-append j xs ys)
    ]

by_test : (b : Bool) → (b ≡ true → ⊥) → b ≡ false
by_test true h = absurd (h refl)
by_test false h = refl

pub not_reordered : (xs ys : List ℕ) (j : ℕ) → times j xs ≢ times j ys → is_reordered xs ys ≡ false
not_reordered xs ys j apart = by_test (is_reordered xs ys) (λ all. apart (same-is_reordered xs ys all j))

-- and they are as long
same_length : (xs ys : List ℕ) → ((j : ℕ) → times j xs ≡ times j ys) → length xs ≡ length ys
same_length [] [] same = refl
same_length [] (y ∷ ys) same = absurd (omega (arith, same y, count_head y ys))
same_length (x ∷ xs) ys same =
    let parts = split_at x ys (omega (arith, same x, count_head x xs)) in
    let rest = parts.0 ++ parts.1 in
    let inner : length xs ≡ length rest = same_length xs rest (λ j. omega (arith, same j, times-cons j x xs, ap (times j) parts.2, times-append j parts.0 (x ∷ parts.1), times-cons j x parts.1, times-append j parts.0 parts.1)) in
    omega (arith, inner, ap length parts.2, length-append parts.0 (x ∷ parts.1), length-append parts.0 parts.1)

-- other values leave the gaps
pub gaps-mapped : {A B : Type 0} (f : A → B) (at : ℕ) (xs : List (Option A)) → gaps at (map (option_map f) xs) ≡ gaps at xs
gaps-mapped f at [] = refl
gaps-mapped f at (None ∷ xs) = ap (λ (is : List ℕ). at ∷ is) (gaps-mapped f (at + 1) xs)
gaps-mapped f at (Some x ∷ xs) = gaps-mapped f (at + 1) xs

module _ {T : Type 0} (slots : List (Option (ℕ × T))) where
  -- the free indexes of a well formed arena are the gaps, in some order
  pub free-are : (free : List ℕ) → ((i : ℕ) → times i free ≡ cond (is_free (item slots i)) 1 0) → are_free slots free ≡ true
  free-are free once = is_reordered-same free (gaps 1 slots) (λ i. once i ∙ sym (gaps_free slots i))

  -- and each such list has each once, and as many
  pub are-once : (free : List ℕ) → are_free slots free ≡ true → (i : ℕ) → times i free ≡ cond (is_free (item slots i)) 1 0
  are-once free are i = same-is_reordered free (gaps 1 slots) are i ∙ gaps_free slots i

  pub are-total : (free : List ℕ) → are_free slots free ≡ true → entry_count slots + length free ≡ length slots
  are-total free are =
      omega (arith, same_length free (gaps 1 slots) (same-is_reordered free (gaps 1 slots) are), gaps_total 1 slots)

  -- marks of the free slots
  pub marks_free : (marks : List Bool) → marks ≡ map (λ slot. not (is_some slot)) slots → (i : ℕ) → mark_at marks i ≡ is_free (item slots i)
  marks_free marks is i = ap is_marked (ap (λ (ms : List Bool). item ms i) is ∙ item-map (λ slot. not (is_some slot)) slots i) ∙ by_slot (item slots i)
    where
      by_slot : (o : Option (Option (ℕ × T))) → is_marked (option_map (λ slot. not (is_some slot)) o) ≡ is_free o
      by_slot None = refl
      by_slot (Some None) = refl
      by_slot (Some (Some e)) = refl

  module _ (marks left : List Bool) (is : marks ≡ map (λ slot. not (is_some slot)) slots) (free : List ℕ) where
    -- each was taken once, and none is left
    pub all_taken : ((i : ℕ) → times i free + bit (mark_at left i) ≡ bit (mark_at marks i)) → ((i : ℕ) → mark_at left i ≡ false) → are_free slots free ≡ true
    all_taken taken none =
        free-are free (λ i. omega (arith, taken i, ap bit (none i)) ∙ ap bit (marks_free marks is i))

    -- one is left
    pub one_left : ((i : ℕ) → times i free + bit (mark_at left i) ≡ bit (mark_at marks i)) → (i : ℕ) → mark_at left i ≡ true → are_free slots free ≡ false
    one_left taken i there =
        not_reordered free (gaps 1 slots) i (λ same. omega (arith, same, gaps_free slots i, taken i, ap bit there, ap bit (marks_free marks is i)))

    -- one stands more often than it is free
    pub one_more : (i : ℕ) → bit (mark_at marks i) < times i free → are_free slots free ≡ false
    one_more i more =
        not_reordered free (gaps 1 slots) i (λ same. omega (arith, same, gaps_free slots i, more, ap bit (marks_free marks is i)))

marked_is : (o : Option Bool) → is_marked o ≡ true → o ≡ Some true
marked_is None e = absurd (true≢false (sym e))
marked_is (Some true) e = refl
marked_is (Some false) e = absurd (true≢false (sym e))

with_item_at : {A : Type 0} (xs : List A) (i : ℕ) (x : A) → 0 < i → slice_set xs (i - 1) x ≡ with_item xs i x
with_item_at xs zero x positive = absurd (omega (arith, positive))
with_item_at xs (suc k) x positive = let n : suc k - 1 ≡ k = omega arith in rw n refl

-- marks of which those of the indexes so far were taken; the next index is x
module _ (old left : List Bool) (indexes : List ℕ) (at x : ℕ) (positive : 0 < x) (here : drop at indexes ≡ x ∷ drop (at + 1) indexes)
    (taken : (i : ℕ) → times i indexes + bit (mark_at left i) ≡ bit (mark_at old i) + times i (drop at indexes)) where
  before : (i : ℕ) → times i indexes + bit (mark_at left i) ≡ bit (mark_at old i) + times i (x ∷ drop (at + 1) indexes)
  before i = taken i ∙ ap (λ (ys : List ℕ). bit (mark_at old i) + times i ys) here

  pub goes_on : (new : List Bool) → is_marked (slice_get left (x - 1)) ≡ true → new ≡ slice_set left (x - 1) false → (i : ℕ) → times i indexes + bit (mark_at new i) ≡ bit (mark_at old i) + times i (drop (at + 1) indexes)
  goes_on new there is i =
      let found : item left x ≡ Some true = marked_is (item left x) (ap is_marked (item_at left x positive) ∙ there) in
      let within = item_within left x true found in
      let same : new ≡ with_item left x false = is ∙ with_item_at left x false positive in
      elim (cases_eq i x) [
        | inl own ↦
            let gone : mark_at new i ≡ false = ap (mark_at new) own ∙ ap (λ (ms : List Bool). mark_at ms x) same ∙ ap is_marked (item-with_same left x false within.0 within.1) in
            let had : mark_at left i ≡ true = ap (mark_at left) own ∙ ap is_marked found in
            let counted : times i (x ∷ drop (at + 1) indexes) ≡ 1 + times i (drop (at + 1) indexes) = subst (λ m. times m (x ∷ drop (at + 1) indexes) ≡ 1 + times m (drop (at + 1) indexes)) (sym own) (count_head x (drop (at + 1) indexes)) in
            omega (arith, before i, ap bit gone, ap bit had, counted)
        | inr other ↦
            let kept : mark_at new i ≡ mark_at left i = ap (λ (ms : List Bool). mark_at ms i) same ∙ ap is_marked (item-with_other left x i false other) in
            omega (arith, before i, ap bit kept, count_tail x i (drop (at + 1) indexes) (λ e. other (sym e)))
      ]

  pub stops : is_marked (slice_get left (x - 1)) ≡ false → bit (mark_at old x) < times x indexes
  stops none =
      let gone : mark_at left x ≡ false = ap is_marked (item_at left x positive) ∙ none in
      omega (arith, before x, ap bit gone, count_head x (drop (at + 1) indexes))

or_false : (b c : Bool) → (b || c) ≡ false → c ≡ false
or_false true c e = absurd (true≢false e)
or_false false c e = e

-- whether a mark is left
pub none_any : (p : Bool → Bool) → p true ≡ true → (ms : List Bool) → list_any p ms ≡ false → (i : ℕ) → mark_at ms i ≡ false
none_any p t [] e i = ap is_marked (item_nil i)
none_any p t (m ∷ ms) e zero = refl
none_any p t (true ∷ ms) e (suc k) = absurd (true≢false (sym (ap (λ b. b || list_any p ms) t) ∙ e))
none_any p t (false ∷ ms) e (suc zero) = refl
none_any p t (false ∷ ms) e (suc (suc k)) = none_any p t ms (or_false (p false) (list_any p ms) e) (suc k)

pub some_any : (p : Bool → Bool) → p false ≡ false → (ms : List Bool) → list_any p ms ≡ true → (i : ℕ) × (mark_at ms i ≡ true)
some_any p f [] e = absurd (true≢false (sym e))
some_any p f (true ∷ ms) e = (1, refl)
some_any p f (false ∷ ms) e = shifted (some_any p f ms (sym (ap (λ b. b || list_any p ms) f) ∙ e))
  where
    shifted : (i : ℕ) × (mark_at ms i ≡ true) → (i : ℕ) × (mark_at (false ∷ ms) i ≡ true)
    shifted (zero, h) = absurd (true≢false (sym h))
    shifted (suc k, h) = (suc (suc k), h)

-- where each index was taken once, they are the free ones exactly if no mark is left
pub decided : {T : Type 0} (slots : List (Option (ℕ × T))) (marks left xs : List Bool) (free : List ℕ) (p : Bool → Bool) (b : Bool) → b ≡ list_any p xs → xs ≡ left → p true ≡ true → p false ≡ false → marks ≡ map (λ slot. not (is_some slot)) slots → ((i : ℕ) → times i free + bit (mark_at left i) ≡ bit (mark_at marks i)) → not b ≡ are_free slots free
decided slots marks left xs free p true told same t f is taken =
    let one = some_any p f left (sym (told ∙ ap (list_any p) same)) in
    sym (one_left slots marks left is free taken one.0 one.1)
decided slots marks left xs free p false told same t f is taken =
    sym (all_taken slots marks left is free taken (none_any p t left (sym (told ∙ ap (list_any p) same))))
