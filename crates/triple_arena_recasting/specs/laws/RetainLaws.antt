-- What is found after entries were kept or removed by a closure that answers and writes alike each time.
use Rattle.std.proofs.Common.{◌≡◌, ◌≢◌, ℕ, zero, suc, ◌+◌, ◌≤◌, Bool, true, false, cond, List, [], ◌∷◌, map, Option, Some, None, slice_get, refl, sym, ap, subst, ◌∙◌, inl, inr, arith}
use Rattle.std.proofs.lemmas.Bool.{cases_eq}
use Rattle.std.proofs.lemmas.Option.{slice_get-map, same_Some}
use Rattle.std.specs.Borrow.{MutBor}
use Rattle.std.specs.Option.{option_map, option_and_then}
use Rattle.triple_arena_ptr.specs.Pointers.{Pointer}
use Rattle.triple_arena_traits.specs.Entries.{entry_in, look_up, value_of_generation, with_value_in, ChangesAt}
use Rattle.triple_arena_traits.specs.FreeList.{IsRising}
use Rattle.triple_arena_traits.specs.Walks.{entries, keys_of, keys, values}
use Rattle.triple_arena_traits.specs.laws.EntryLaws.{written}
use Rattle.triple_arena_traits.specs.laws.ItemLaws.{eq_true, eq_false}
use Rattle.triple_arena_traits.specs.laws.LookUpLaws.{entry_at}
use Rattle.triple_arena_traits.specs.laws.MoveLaws.{nth_found, found_nth}
use Rattle.triple_arena_traits.specs.laws.WalkLaws.{some_or_none, keys_rising}
use Rattle.triple_arena_recasting.specs.Retaining.{StaysOrGoes, AsksAt, Retains}

-- what becomes of an entry of a value: it is kept with the value that is made of it, or gone
abbrev pub kept_if : {T : Type 0} → (test : Pointer → T → Bool) (made : Pointer → T → T) → Pointer → Option T → Option T
kept_if test made q None = None
kept_if test made q (Some v) = cond (test q v) (Some (made q v)) None

module _ {T : Type 0} where
  -- an entry of a walk, by its place
  pub entry_of_walk : (slots : List (Option (ℕ × T))) (k : ℕ) (p : Pointer) (v : T) → slice_get (keys slots) k ≡ Some p → slice_get (values slots) k ≡ Some v → slice_get (entries slots) k ≡ Some (p, v)
  entry_of_walk slots k p v key value =
      by_entry (slice_get (entries slots) k) refl (sym (slice_get-map (λ e. e.0) (entries slots) k) ∙ key) (sym (slice_get-map (λ e. e.1) (entries slots) k) ∙ value)
    where
      by_entry : (o : Option (Pointer × T)) → slice_get (entries slots) k ≡ o → option_map (λ e. e.0) o ≡ Some p → option_map (λ e. e.1) o ≡ Some v → slice_get (entries slots) k ≡ Some (p, v)
      by_entry None e is is_too = absurd (cc)
      by_entry (Some x) e is is_too =
          let here : x.0 ≡ p = cc in
          let this : x.1 ≡ v = cc in
          e ∙ ap (λ q. Some (q, x.1)) here ∙ ap (λ w. Some (p, w)) this

  pub at_entry : (slots : List (Option (ℕ × T))) (k : ℕ) (e : Pointer × T) → slice_get (entries slots) k ≡ Some e → look_up slots e.0 ≡ Some e.1
  at_entry slots k e is =
      found_nth slots k e.0 e.1
      (slice_get-map (λ x. x.0) (entries slots) k ∙ ap (option_map (λ x. x.0)) is)
      (slice_get-map (λ x. x.1) (entries slots) k ∙ ap (option_map (λ x. x.1)) is)

  -- indexes that rise from a number on are at or above it
  pub rising_at : (low : ℕ) (es : List (Pointer × T)) (k : ℕ) (e : Pointer × T) → IsRising low (map (λ e. e.0.0) es) → slice_get es k ≡ Some e → low ≤ e.0.0
  rising_at low [] k e rising at = absurd (cc)
  rising_at low (x ∷ es) zero e rising at = let same : x ≡ e = cc in subst (λ (y : Pointer × T). low ≤ y.0.0) same rising.0
  rising_at low (x ∷ es) (suc k) e rising at = let later = rising_at (x.0.0 + 1) es k e rising.1 at in omega (arith, later, rising.0)

  -- the indexes of a walk, by its entries
  pub rising_indexes : (low : ℕ) (es : List (Pointer × T)) → IsRising low (map (λ p. p.0) (keys_of es)) → IsRising low (map (λ e. e.0.0) es)
  rising_indexes low [] rising = tt
  rising_indexes low (e ∷ es) rising = (rising.0, rising_indexes (e.0.0 + 1) es rising.1)

module _ {T : Type 0} (test : Pointer → T → Bool) (made : Pointer → T → T) where
  looked_same : (g : ℕ) (w : T) (b : Bool) → option_and_then (value_of_generation g) (cond b (Some (g, w)) None) ≡ cond b (Some w) None
  looked_same g w true = ap (λ t. cond t (Some w) None) (eq_true g g refl)
  looked_same g w false = refl

  looked_other : (g h : ℕ) (w : T) (b : Bool) → g ≢ h → option_and_then (value_of_generation h) (cond b (Some (g, w)) None) ≡ None
  looked_other g h w true other = ap (λ t. cond t (Some w) None) (eq_false g h other)
  looked_other g h w false other = refl

  pub looked : (i g h : ℕ) (v : T) → option_and_then (value_of_generation h) (cond (test (i, g) v) (Some (g, made (i, g) v)) None) ≡ kept_if test made (i, h) (option_and_then (value_of_generation h) (Some (g, v)))
  looked i g h v =
      elim (cases_eq g h) [
        | inl alike ↦
            subst (λ n. option_and_then (value_of_generation n) (cond (test (i, g) v) (Some (g, made (i, g) v)) None) ≡ kept_if test made (i, n) (option_and_then (value_of_generation n) (Some (g, v)))) alike
            (looked_same g (made (i, g) v) (test (i, g) v) ∙ sym (ap (kept_if test made (i, g)) (ap (λ t. cond t (Some v) None) (eq_true g g refl))))
        | inr other ↦
            looked_other g h (made (i, g) v) (test (i, g) v) other
            ∙ sym (ap (kept_if test made (i, h)) (ap (λ t. cond t (Some v) None) (eq_false g h other)))
      ]

module _ {A P T F : Type 0} (numbers : P → Pointer) (step : F → P → MutBor T → Bool → MutBor T → F → Type 0)
    (with_value : A → ℕ → T → A) (removes : A → ℕ → A → Type 0) (wraps : A → Bool) (slots : A → List (Option (ℕ × T)))
    (sets : (a : A) (i : ℕ) (v : T) → slots (with_value a i v) ≡ with_value_in (slots a) i v)
    (takes : (old : A) (i : ℕ) (new : A) → removes old i new → ChangesAt (slots old) i None (slots new)) where
  -- a call changes the entry at its index alone
  stays_or_goes : (kept : Bool) (a left : A) (i g : ℕ) (x w : T) → StaysOrGoes removes kept (with_value a i w) i left
      → entry_in (slots a) i ≡ Some (g, x) → ChangesAt (slots a) i (cond kept (Some (g, w)) None) (slots left)
  stays_or_goes true a left i g x w is at =
      let change = written (slots a) i w in
      let same : slots left ≡ with_value_in (slots a) i w = ap slots is ∙ sets a i w in
      record {
        there = ap (λ xs. entry_in xs i) same ∙ change.there ∙ ap (option_map (λ e. (e.0, w))) at;
        others = λ j other. ap (λ xs. entry_in xs j) same ∙ change.others j other;
      }
  stays_or_goes false a left i g x w goes at =
      let change = takes (with_value a i w) i left goes in
      record {
        there = change.there;
        others = λ j other. change.others j other ∙ ap (λ xs. entry_in xs j) (sets a i w) ∙ (written (slots a) i w).others j other;
      }

  pub changed_somehow : (kept : Bool) (a left : A) (i : ℕ) (w : T) → StaysOrGoes removes kept (with_value a i w) i left
      → (o : Option (ℕ × T)) × ChangesAt (slots a) i o (slots left)
  changed_somehow true a left i w is =
      let same : slots left ≡ with_value_in (slots a) i w = ap slots is ∙ sets a i w in
      (_, subst (λ xs. ChangesAt (slots a) i (option_map (λ e. (e.0, w)) (entry_in (slots a) i)) xs) (sym same) (written (slots a) i w))
  changed_somehow false a left i w goes =
      let change = takes (with_value a i w) i left goes in (
        None,
        record {
          there = change.there;
          others = λ j other. change.others j other ∙ ap (λ xs. entry_in xs j) (sets a i w) ∙ (written (slots a) i w).others j other;
        },
      )

  module _ (test : Pointer → T → Bool) (made : Pointer → T → T) (f : F)
      (same : (p : P) (shown left : MutBor T) (kept : Bool) (after : F) → step f p shown kept left after → (kept ≡ test (numbers p) shown.now) × (left.now ≡ made (numbers p) shown.now) × (after ≡ f)) where
    abbrev Trace : F → A → List (Pointer × T) → Bool → F → A → Type 0
    Trace = Retains numbers step with_value removes wraps

    one : (a left : A) (q : Pointer) (x : T) (wrapped : Bool) (after : F) → AsksAt numbers step with_value removes wraps f a q x wrapped after left
        → (after ≡ f) × ((entry_in (slots a) q.0 ≡ Some (q.1, x)) → ChangesAt (slots a) q.0 (cond (test q x) (Some (q.1, made q x)) None) (slots left)) × ((j : ℕ) → j ≢ q.0 → entry_in (slots left) j ≡ entry_in (slots a) j)
    one a left q x wrapped after asks =
        let s = same asks.pointer asks.shown asks.written asks.kept after asks.called in
        let kept : asks.kept ≡ test q x = s.0 ∙ ap (λ p. test p asks.shown.now) asks.names ∙ ap (test q) asks.shows in
        let value : asks.written.now ≡ made q x = s.1 ∙ ap (λ p. made p asks.shown.now) asks.names ∙ ap (made q) asks.shows in (
          s.2,
          λ at. subst (λ b. ChangesAt (slots a) q.0 (cond b (Some (q.1, made q x)) None) (slots left)) kept
              (subst (λ w. ChangesAt (slots a) q.0 (cond asks.kept (Some (q.1, w)) None) (slots left)) value (stays_or_goes asks.kept a left q.0 q.1 x asks.written.now asks.done at)),
          (changed_somehow asks.kept a left q.0 asks.written.now asks.done).1.others,
        )

    -- where the calls come to no entry of an index, what is there stays
    elsewhere : (es : List (Pointer × T)) (a new : A) (wrapped : Bool) (last : F) → Trace f a es wrapped last new
        → (j : ℕ) → ((k : ℕ) (e : Pointer × T) → slice_get es k ≡ Some e → e.0.0 ≢ j) → entry_in (slots new) j ≡ entry_in (slots a) j
    elsewhere [] a new wrapped last t j none = ap (λ b. entry_in (slots b) j) t.2
    elsewhere (e ∷ es) a new wrapped last (first, after, left, later, asks, told, t) j none =
        let s = one a left e.0 e.1 first after asks in
        elsewhere es left new later last (subst (λ g. Trace g left es later last new) s.0 t) j (λ k x at. none (suc k) x at)
        ∙ s.2 j (λ here. none zero e refl (sym here))

    -- an entry to which they come
    there : (low : ℕ) (es : List (Pointer × T)) (a new : A) (wrapped : Bool) (last : F) → IsRising low (map (λ e. e.0.0) es) → Trace f a es wrapped last new
        → (k : ℕ) (e : Pointer × T) → slice_get es k ≡ Some e → entry_in (slots a) e.0.0 ≡ Some (e.0.1, e.1)
        → entry_in (slots new) e.0.0 ≡ cond (test e.0 e.1) (Some (e.0.1, made e.0 e.1)) None
    there low [] a new wrapped last rising t k e at entry = absurd (cc)
    there low (x ∷ es) a new wrapped last rising (first, after, left, later, asks, told, t) zero e at entry =
        let is : x ≡ e = cc in
        let s = one a left x.0 x.1 first after asks in
        subst (λ (y : Pointer × T). entry_in (slots a) y.0.0 ≡ Some (y.0.1, y.1) → entry_in (slots new) y.0.0 ≡ cond (test y.0 y.1) (Some (y.0.1, made y.0 y.1)) None) is
        (λ here. elsewhere es left new later last (subst (λ g. Trace g left es later last new) s.0 t) x.0.0 (λ k y at'. λ clash. absurd (omega (arith, clash, rising_at (x.0.0 + 1) es k y rising.1 at')))
        ∙ (s.1 here).there) entry
    there low (x ∷ es) a new wrapped last rising (first, after, left, later, asks, told, t) (suc k) e at entry =
        let s = one a left x.0 x.1 first after asks in
        let above = rising_at (x.0.0 + 1) es k e rising.1 at in
        there (x.0.0 + 1) es left new later last rising.1 (subst (λ g. Trace g left es later last new) s.0 t) k e at
        (s.2 e.0.0 (λ clash. absurd (omega (arith, clash, above))) ∙ entry)

    -- under each pointer is what the closure says of what it found
    pub retained_found : (old new : A) (wrapped : Bool) (last : F) → Trace f old (entries (slots old)) wrapped last new
        → (q : Pointer) → look_up (slots new) q ≡ kept_if test made q (look_up (slots old) q)
    retained_found old new wrapped last t q = by_entry (entry_in (slots old) q.0) refl
      where
        by_entry : (o : Option (ℕ × T)) → entry_in (slots old) q.0 ≡ o → look_up (slots new) q ≡ kept_if test made q (look_up (slots old) q)
        by_entry None none =
            let stays = elsewhere (entries (slots old)) old new wrapped last t q.0
            (λ k e at here. some_or_none _ (rw (entry_at (slots old) e.0 e.1 (at_entry (slots old) k e at)) refl) (ap (entry_in (slots old)) here ∙ none)) in
            ap (option_and_then (value_of_generation q.1)) (stays ∙ none) ∙ sym (ap (λ o. kept_if test made q (option_and_then (value_of_generation q.1) o)) none)
        by_entry (Some e) is =
            let p : Pointer = (q.0, e.0) in
            let found : look_up (slots old) p ≡ Some e.1 = ap (option_and_then (value_of_generation e.0)) is ∙ ap (λ b. cond b (Some e.1) None) (eq_true e.0 e.0 refl) in
            let nth = nth_found (slots old) p (rw found refl) in
            let value : nth.0 ≡ e.1 = same_Some _ _ (sym nth.2 ∙ found) in
            let at = entry_of_walk (slots old) nth.1 p e.1 nth.3 (nth.4 ∙ ap Some value) in
            let now = there 1 (entries (slots old)) old new wrapped last (rising_indexes 1 (entries (slots old)) (keys_rising (slots old))) t nth.1 (p, e.1) at is in
            ap (option_and_then (value_of_generation q.1)) now ∙ looked test made q.0 e.0 q.1 e.1 ∙ sym (ap (λ o. kept_if test made q (option_and_then (value_of_generation q.1) o)) is)
