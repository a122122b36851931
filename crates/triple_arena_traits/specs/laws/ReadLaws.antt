-- What is read of the values that a walk goes through, and what is read under pointers.
use Rattle.std.proofs.Common.{◌≡◌, ℕ, zero, suc, ◌||◌, Bool, true, false, List, [], ◌∷◌, map, Option, Some, None, slice_get, refl, sym, ap, subst, ◌∙◌}
use Rattle.std.proofs.lemmas.Option.{slice_get-map, same_Some}
use Rattle.std.specs.Borrow.{MutBor}
use Rattle.std.specs.List.{list_any}
use Rattle.std.specs.Option.{option_map}
use Rattle.triple_arena_ptr.specs.Pointers.{Pointer}
use Rattle.triple_arena_traits.specs.Entries.{look_up}
use Rattle.triple_arena_traits.specs.Visits.{Visits}
use Rattle.triple_arena_traits.specs.Walks.{entries, values}
use Rattle.triple_arena_traits.specs.laws.MoveLaws.{nth_found, found_nth}
use Rattle.triple_arena_traits.specs.laws.VisitLaws.{visits_read}

module _ {T : Type 0} where
  -- what is found under a pointer is an entry of the walk
  found_at : (slots : List (Option (ℕ × T))) (p : Pointer) (v : T) → look_up slots p ≡ Some v → (k : ℕ) × (slice_get (entries slots) k ≡ Some (p, v))
  found_at slots p v is =
      let nth = nth_found slots p (rw is refl) in
      let same : nth.0 ≡ v = cc in
      (nth.1, by_entry nth.1 (slice_get (entries slots) nth.1) refl (sym (slice_get-map (λ e. e.0) (entries slots) nth.1) ∙ nth.3) (sym (slice_get-map (λ e. e.1) (entries slots) nth.1) ∙ nth.4 ∙ ap Some same))
    where
      by_entry : (k : ℕ) (o : Option (Pointer × T)) → slice_get (entries slots) k ≡ o → option_map (λ e. e.0) o ≡ Some p → option_map (λ e. e.1) o ≡ Some v → slice_get (entries slots) k ≡ Some (p, v)
      by_entry k None e key value = absurd (cc)
      by_entry k (Some x) e key value =
          let here : x.0 ≡ p = cc in
          let this : x.1 ≡ v = cc in
          e ∙ ap (λ q. Some (q, x.1)) here ∙ ap (λ w. Some (p, w)) this

  -- and each entry of it is found
  at_found : (slots : List (Option (ℕ × T))) (k : ℕ) (e : Pointer × T) → slice_get (entries slots) k ≡ Some e → look_up slots e.0 ≡ Some e.1
  at_found slots k e is =
      found_nth slots k e.0 e.1
      (slice_get-map (λ x. x.0) (entries slots) k ∙ ap (option_map (λ x. x.0)) is)
      (slice_get-map (λ x. x.1) (entries slots) k ∙ ap (option_map (λ x. x.1)) is)

  -- so each value of the walk is found under some pointer
  pub value_found : (slots : List (Option (ℕ × T))) (k : ℕ) (v : T) → slice_get (values slots) k ≡ Some v → (p : Pointer) × (look_up slots p ≡ Some v)
  value_found slots k v is = by_entry (slice_get (entries slots) k) refl (sym (slice_get-map (λ e. e.1) (entries slots) k) ∙ is)
    where
      by_entry : (o : Option (Pointer × T)) → slice_get (entries slots) k ≡ o → option_map (λ e. e.1) o ≡ Some v → (p : Pointer) × (look_up slots p ≡ Some v)
      by_entry None at value = absurd (cc)
      by_entry (Some e) at value = (e.0, at_found slots k e at ∙ value)

module _ {T R : Type 0} (read : T → R) where
  module _ (test : R → Bool) where
    abbrev passes : T → Bool
    passes v = test (read v)

    any_at : (vs : List T) → list_any passes vs ≡ true → (k : ℕ) × (v : T) × (slice_get vs k ≡ Some v) × (passes v ≡ true)
    any_at [] some = absurd (cc)
    any_at (v ∷ vs) some = by_test (passes v) refl some (any_at vs)
      where
        by_test : (b : Bool) → passes v ≡ b → (b || list_any passes vs) ≡ true
            → (list_any passes vs ≡ true → (k : ℕ) × (w : T) × (slice_get vs k ≡ Some w) × (passes w ≡ true))
            → (k : ℕ) × (w : T) × (slice_get (v ∷ vs) k ≡ Some w) × (passes w ≡ true)
        by_test true is some rest = (zero, v, refl, is)
        by_test false is some rest = let later = rest some in (suc later.0, later.1, later.2, later.3)

    none_at : (vs : List T) → list_any passes vs ≡ false → (k : ℕ) (v : T) → slice_get vs k ≡ Some v → passes v ≡ false
    none_at [] none k v at = absurd (cc)
    none_at (w ∷ vs) none k v at = by_test (passes w) refl none k at (none_at vs)
      where
        by_test : (b : Bool) → passes w ≡ b → (b || list_any passes vs) ≡ false → (k : ℕ) → slice_get (w ∷ vs) k ≡ Some v
            → (list_any passes vs ≡ false → (k : ℕ) (v : T) → slice_get vs k ≡ Some v → passes v ≡ false) → passes v ≡ false
        by_test true is none k at rest = absurd (cc)
        by_test false is none zero at rest = let here : w ≡ v = cc in subst (λ x. passes x ≡ false) here is
        by_test false is none (suc k) at rest = rest none k v at

    -- where one of the values passes a test, one does so under some pointer
    pub any_found : (slots : List (Option (ℕ × T))) → list_any passes (values slots) ≡ true
        → (p : Pointer) × (r : R) × (option_map read (look_up slots p) ≡ Some r) × (test r ≡ true)
    any_found slots some =
        let at = any_at (values slots) some in
        let found = value_found slots at.0 at.1 at.2 in
        (found.0, read at.1, ap (option_map read) found.1, at.3)

    -- and where none does, none does under any
    pub none_found : (slots : List (Option (ℕ × T))) → list_any passes (values slots) ≡ false
        → (p : Pointer) (r : R) → option_map read (look_up slots p) ≡ Some r → test r ≡ false
    none_found slots none p r is = by_found (look_up slots p) refl is
      where
        by_found : (o : Option T) → look_up slots p ≡ o → option_map read o ≡ Some r → test r ≡ false
        by_found None e is = absurd (cc)
        by_found (Some v) e is =
            let nth = nth_found slots p (rw e refl) in
            let same : nth.0 ≡ v = cc in
            let this : read v ≡ r = cc in
            subst (λ x. test x ≡ false) this (none_at (values slots) none nth.1 v (nth.4 ∙ ap Some same))

  -- where what is read of each entry is made of its pointer and of what was read before, so it is under each pointer
  pub entries_read : (made : Pointer → R → R) (old new : List (Option (ℕ × T)))
      → map {B = Pointer × R} (λ e. (e.0, read e.1)) (entries new) ≡ map (λ e. (e.0, made e.0 (read e.1))) (entries old)
      → (q : Pointer) → option_map read (look_up new q) ≡ option_map (λ v. made q (read v)) (look_up old q)
  entries_read made old new is q = by_old (look_up old q) refl
    where
      after : Pointer × T → Pointer × R
      after e = (e.0, read e.1)

      before : Pointer × T → Pointer × R
      before e = (e.0, made e.0 (read e.1))

      at : (k : ℕ) → option_map after (slice_get (entries new) k) ≡ option_map before (slice_get (entries old) k)
      at k = sym (slice_get-map after (entries new) k) ∙ ap (λ l. slice_get l k) is ∙ slice_get-map before (entries old) k

      by_new : (k : ℕ) (v : T) (o : Option (Pointer × T)) → slice_get (entries new) k ≡ o → option_map after o ≡ Some (q, made q (read v)) → option_map read (look_up new q) ≡ Some (made q (read v))
      by_new k v None e same = absurd (cc)
      by_new k v (Some x) e same =
          let pair : after x ≡ (q, made q (read v)) = same_Some _ _ same in
          let here : x.0 ≡ q = ap (λ (y : Pointer × R). y.0) pair in
          let this : read x.1 ≡ made q (read v) = ap (λ (y : Pointer × R). y.1) pair in
          ap (option_map read) (subst (λ p. look_up new p ≡ Some x.1) here (at_found new k x e)) ∙ ap Some this

      still_none : look_up old q ≡ None → (k : ℕ) (w : T) (o : Option (Pointer × T)) → slice_get (entries old) k ≡ o → Some (q, read w) ≡ option_map before o → option_map read (look_up new q) ≡ None
      still_none none k w None e same = absurd (cc)
      still_none none k w (Some x) e same =
          let here : x.0 ≡ q = ap (λ (y : Pointer × R). y.0) (sym (same_Some _ _ same)) in
          let found : look_up old q ≡ Some x.1 = subst (λ p. look_up old p ≡ Some x.1) here (at_found old k x e) in
          absurd (cc)

      by_found : look_up old q ≡ None → (o : Option T) → look_up new q ≡ o → option_map read (look_up new q) ≡ None
      by_found none None e = ap (option_map read) e
      by_found none (Some w) e =
          let found = found_at new q w e in
          still_none none found.0 w (slice_get (entries old) found.0) refl (sym (ap (option_map after) found.1) ∙ at found.0)

      by_old : (o : Option T) → look_up old q ≡ o → option_map read (look_up new q) ≡ option_map (λ v. made q (read v)) o
      by_old None e = by_found e (look_up new q) refl
      by_old (Some v) e =
          let found = found_at old q v e in
          by_new found.0 v (slice_get (entries new) found.0) refl (at found.0 ∙ ap (option_map before) found.1)

  -- what is read under each pointer, where a closure is called at each entry, and stays as it was
  module _ {P F : Type 0} (numbers : P → Pointer) (step : F → P → MutBor T → Unit {0} → MutBor T → F → Type 0) (made : Pointer → R → R) (f : F)
      (each : (p : P) (shown left : MutBor T) (after : F) → step f p shown tt left after → (read left.now ≡ made (numbers p) (read shown.now)) × (after ≡ f)) where
    pub visits_found : (old new : List (Option (ℕ × T))) (last : F) → Visits numbers step f (entries old) (entries new) last
        → (q : Pointer) → option_map read (look_up new q) ≡ option_map (λ v. made q (read v)) (look_up old q)
    visits_found old new last visits = entries_read made old new (visits_read numbers step read made f each (entries old) (entries new) last visits)
