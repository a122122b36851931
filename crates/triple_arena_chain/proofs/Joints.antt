-- Chains as lists of pointers, where a value is put before another, and after chains are cut and joined.
use Rattle.std.specs.Prelude.{List, [], ◌∷◌, ◌++◌, Option, Some, None, IsSome, Contains}
use Rattle.std.proofs.Common.{◌≡◌, ◌≢◌, inl, inr, zero, suc, refl, sym, ap, ◌∙◌, subst, arith}
use Rattle.std.specs.Option.{option_map, option_and_then}
use Rattle.triple_arena_ptr.specs.Pointers.{Pointer}
use Rattle.triple_arena_chain.specs.Chains.{Node, value_at, after_at, before_at, IsLinked, IsInserted, IsTied, IsJoined, IsCut, first_of, IsRun, values_at}
use Rattle.triple_arena_chain.specs.laws.LinkLaws.{same_pointer}
use Rattle.triple_arena_chain.specs.laws.RunLaws.{in_head, in_tail, stays, not_free, next_in, inserted_elsewhere}
use Rattle.triple_arena_chain.specs.laws.NodeLaws.{valued}

not_same : (p : Pointer) (ys : List Pointer) → ((r : Pointer) → Contains ys r → p ≢ r) → (r : Pointer) → Contains ys r → Some p ≢ Some r
not_same p ys behind r within e = behind r within (same_pointer p r e)

module _ {T : Type 0} where
  -- in a run that has a pointer at its head alone, none leads to that
  none_leads : (nodes : Pointer → Option (Node T)) (p : Pointer) (ys : List Pointer) (rest : Option Pointer) → IsRun nodes (p ∷ ys) rest
      → ((r : Pointer) → Contains ys r → p ≢ r) → rest ≢ Some p → (r : Pointer) → Contains (p ∷ ys) r → after_at nodes r ≢ Some p
  none_leads nodes p ys rest run behind apart r (zero, within, is) leads = by_next ys behind (sym run.1 ∙ ap (after_at nodes) is ∙ leads)
    where
      by_next : (qs : List Pointer) → ((r : Pointer) → Contains qs r → p ≢ r) → first_of qs rest ≡ Some p → ⊥
      by_next [] behind e = apart e
      by_next (q ∷ qs) behind e = behind q (in_head q qs) (sym (same_pointer q p e))
  none_leads nodes p ys rest run behind apart r (suc k, within, is) leads =
      elim (next_in nodes ys rest r p run.2 (k, omega (arith, within), is) leads) [
        | inl there ↦ behind p there refl
        | inr e ↦ apart e
      ]

  -- a run whose head leads to what comes before the inserted one
  pub inserted_before : (old : Pointer → Option (Node T)) (p q : Pointer) (value : T) (new : Pointer → Option (Node T)) (xs ys : List Pointer) (rest : Option Pointer)
      → IsLinked old → IsInserted old (before_at old p) (Some p) q value new → IsRun old (xs ++ p ∷ ys) rest
      → ((r : Pointer) → Contains xs r → p ≢ r) → ((r : Pointer) → Contains ys r → p ≢ r) → rest ≢ Some p
      → IsRun new (xs ++ q ∷ p ∷ ys) rest × (values_at new (xs ++ q ∷ p ∷ ys) ≡ values_at old xs ++ Some value ∷ value_at old p ∷ values_at old ys)
  inserted_before old p q value new [] ys rest linked done run before behind apart =
      let later =
      inserted_elsewhere old (before_at old p) (Some p) q value new (p ∷ ys) rest done run
      (λ r within e. none_leads old p ys rest run behind apart r within ((linked r p).1 e)) in
      let there : IsSome (new q) = subst IsSome (sym done.found) refl in
      let next : after_at new q ≡ Some p = ap (option_and_then (λ (n : Node T). n.after)) done.found in (
        (there, next, later.0),
        ap (λ o. option_map (λ (n : Node T). n.value) o ∷ values_at new (p ∷ ys)) done.found ∙ ap (λ vs. Some value ∷ vs) later.1,
      )
  inserted_before old p q value new (x ∷ []) ys rest linked done run before behind apart =
      let later = inserted_before old p q value new [] ys rest linked done run.2 (λ r within. absurd (none_in r within)) behind apart in
      let other : x ≢ q = not_free old x q run.0 done.free in
      let on : after_at new x ≡ Some q = done.after_prev x ((linked x p).0 run.1) in (
        (valued (old x) (new x) run.0 (done.values x other), on, later.0),
        ap (λ v. v ∷ values_at new (q ∷ p ∷ ys)) (done.values x other) ∙ ap (λ vs. value_at old x ∷ vs) later.1,
      )
    where
      none_in : (r : Pointer) → Contains [] r → ⊥
      none_in r (k, within, is) = absurd (omega arith)
  inserted_before old p q value new (x ∷ y ∷ xs) ys rest linked done run before behind apart =
      let later = inserted_before old p q value new (y ∷ xs) ys rest linked done run.2 (λ r within. before r (in_tail x r (y ∷ xs) within)) behind apart in
      let other : x ≢ q = not_free old x q run.0 done.free in
      let far : before_at old p ≢ Some x = λ e. before y (in_tail x y (y ∷ xs) (in_head y xs)) (sym (same_pointer y p (sym run.1 ∙ (linked x p).1 e))) in (
        (valued (old x) (new x) run.0 (done.values x other), done.afters x other far ∙ run.1, later.0),
        ap (λ v. v ∷ values_at new (y ∷ xs ++ q ∷ p ∷ ys)) (done.values x other) ∙ ap (λ vs. value_at old x ∷ vs) later.1,
      )

  module _ (old : Pointer → Option (Node T)) (prev next after before : Option Pointer) (new : Pointer → Option (Node T)) (done : IsTied old prev next after before new) where
    -- a run of which none is the one that leads elsewhere then
    tied_elsewhere : (ps : List Pointer) (rest : Option Pointer) → IsRun old ps rest → ((p : Pointer) → Contains ps p → prev ≢ Some p)
        → IsRun new ps rest × (values_at new ps ≡ values_at old ps)
    tied_elsewhere ps rest run away = stays old new ps rest run (λ p within there. (done.values p, done.afters p (away p within)))

    -- a run up to that one
    tied_end : (p : Pointer) → prev ≡ Some p → (xs ys : List Pointer) (rest : Option Pointer) → IsRun old (xs ++ p ∷ ys) rest → ((r : Pointer) → Contains xs r → p ≢ r)
        → IsRun new (xs ++ p ∷ []) after × (values_at new (xs ++ p ∷ []) ≡ values_at old (xs ++ p ∷ []))
    tied_end p is [] ys rest run away = (
      (valued (old p) (new p) run.0 (done.values p), done.after_prev p is, tt),
      ap (λ v. v ∷ []) (done.values p),
    )
    tied_end p is (x ∷ xs) ys rest run away =
        let later = tied_end p is xs ys rest run.2 (λ r within. away r (in_tail x r xs within)) in
        let other : prev ≢ Some x = λ e. away x (in_head x xs) (same_pointer p x (sym is ∙ e)) in (
          (valued (old x) (new x) run.0 (done.values x), done.afters x other ∙ run.1 ∙ next_of xs, later.0),
          ap (λ v. v ∷ values_at new (xs ++ p ∷ [])) (done.values x) ∙ ap (λ vs. value_at old x ∷ vs) later.1,
        )
      where
        next_of : (zs : List Pointer) → first_of (zs ++ p ∷ ys) rest ≡ first_of (zs ++ p ∷ []) after
        next_of [] = refl
        next_of (z ∷ zs) = refl

  pub cut_after_run : (old : Pointer → Option (Node T)) (p : Pointer) (new : Pointer → Option (Node T)) (xs ys : List Pointer) (rest : Option Pointer)
      → IsCut old (Some p) (after_at old p) new → IsRun old (xs ++ p ∷ ys) rest
      → ((r : Pointer) → Contains xs r → p ≢ r) → ((r : Pointer) → Contains ys r → p ≢ r)
      → IsRun new (xs ++ p ∷ []) None × IsRun new ys rest × (values_at new (xs ++ p ∷ []) ≡ values_at old (xs ++ p ∷ [])) × (values_at new ys ≡ values_at old ys)
  cut_after_run old p new xs ys rest done run before behind =
      let front = tied_end old (Some p) (after_at old p) None None new done p refl xs ys rest run before in
      let back = tied_elsewhere old (Some p) (after_at old p) None None new done ys rest (tail_run xs run) (not_same p ys behind) in
      (front.0, back.0, front.1, back.1)
    where
      tail_run : (zs : List Pointer) → IsRun old (zs ++ p ∷ ys) rest → IsRun old ys rest
      tail_run [] run = run.2
      tail_run (z ∷ zs) run = tail_run zs run.2

  -- what stands before a cut is a run to its end
  front_cut : (old : Pointer → Option (Node T)) (p : Pointer) (new : Pointer → Option (Node T)) (xs ys : List Pointer) (rest : Option Pointer)
      → IsLinked old → IsCut old (before_at old p) (Some p) new → IsRun old (xs ++ p ∷ ys) rest → ((r : Pointer) → Contains xs r → p ≢ r)
      → IsRun new xs None × (values_at new xs ≡ values_at old xs)
  front_cut old p new [] ys rest linked done run before = (tt, refl)
  front_cut old p new (x ∷ []) ys rest linked done run before = (
    (valued (old x) (new x) run.0 (done.values x), done.after_prev x ((linked x p).0 run.1), tt),
    ap (λ v. v ∷ []) (done.values x),
  )
  front_cut old p new (x ∷ y ∷ xs) ys rest linked done run before =
      let later = front_cut old p new (y ∷ xs) ys rest linked done run.2 (λ r within. before r (in_tail x r (y ∷ xs) within)) in
      let far : before_at old p ≢ Some x = λ e. before y (in_tail x y (y ∷ xs) (in_head y xs)) (sym (same_pointer y p (sym run.1 ∙ (linked x p).1 e))) in (
        (valued (old x) (new x) run.0 (done.values x), done.afters x far ∙ run.1, later.0),
        ap (λ v. v ∷ values_at new (y ∷ xs)) (done.values x) ∙ ap (λ vs. value_at old x ∷ vs) later.1,
      )

  pub cut_before_run : (old : Pointer → Option (Node T)) (p : Pointer) (new : Pointer → Option (Node T)) (xs ys : List Pointer) (rest : Option Pointer)
      → IsLinked old → IsCut old (before_at old p) (Some p) new → IsRun old (xs ++ p ∷ ys) rest
      → ((r : Pointer) → Contains xs r → p ≢ r) → ((r : Pointer) → Contains ys r → p ≢ r) → rest ≢ Some p
      → IsRun new xs None × IsRun new (p ∷ ys) rest × (values_at new xs ≡ values_at old xs) × (values_at new (p ∷ ys) ≡ values_at old (p ∷ ys))
  cut_before_run old p new xs ys rest linked done run before behind apart =
      let front = front_cut old p new xs ys rest linked done run before in
      let later = later_run xs run in
      let back =
      tied_elsewhere old (before_at old p) (Some p) None None new done (p ∷ ys) rest later
      (λ r within e. none_leads old p ys rest later behind apart r within ((linked r p).1 e)) in
      (front.0, back.0, front.1, back.1)
    where
      later_run : (zs : List Pointer) → IsRun old (zs ++ p ∷ ys) rest → IsRun old (p ∷ ys) rest
      later_run [] run = run
      later_run (z ∷ zs) run = later_run zs run.2

  pub ring_run : (old : Pointer → Option (Node T)) (last first : Pointer) (new : Pointer → Option (Node T)) (xs : List Pointer)
      → IsJoined old last first new → IsRun old (xs ++ last ∷ []) None → ((r : Pointer) → Contains xs r → last ≢ r)
      → IsRun new (xs ++ last ∷ []) (Some first) × (values_at new (xs ++ last ∷ []) ≡ values_at old (xs ++ last ∷ []))
  ring_run old last first new xs done run before = tied_end old (Some last) (Some first) (Some first) (Some last) new done last refl xs [] None run before

  pub joined_run : (old : Pointer → Option (Node T)) (last first : Pointer) (new : Pointer → Option (Node T)) (xs ys : List Pointer) (rest : Option Pointer)
      → IsJoined old last first new → IsRun old (xs ++ last ∷ []) None → IsRun old (first ∷ ys) rest
      → ((r : Pointer) → Contains xs r → last ≢ r) → ((r : Pointer) → Contains (first ∷ ys) r → last ≢ r)
      → IsRun new (xs ++ last ∷ first ∷ ys) rest
      × (values_at new (xs ++ last ∷ first ∷ ys) ≡ values_at old xs ++ value_at old last ∷ value_at old first ∷ values_at old ys)
  joined_run old last first new xs ys rest done run more before behind =
      let front = ring_run old last first new xs done run before in
      let back = tied_elsewhere old (Some last) (Some first) (Some first) (Some last) new done (first ∷ ys) rest more (not_same last (first ∷ ys) behind) in
      joined xs front.0 front.1 back.0 back.1
    where
      joined : (zs : List Pointer) → IsRun new (zs ++ last ∷ []) (Some first) → values_at new (zs ++ last ∷ []) ≡ values_at old (zs ++ last ∷ [])
          → IsRun new (first ∷ ys) rest → values_at new (first ∷ ys) ≡ values_at old (first ∷ ys)
          → IsRun new (zs ++ last ∷ first ∷ ys) rest
          × (values_at new (zs ++ last ∷ first ∷ ys) ≡ values_at old zs ++ value_at old last ∷ value_at old first ∷ values_at old ys)
      joined [] front values back more =
          let here : value_at new last ≡ value_at old last = done.values last in (
            (front.0, front.1, back),
            ap (λ v. v ∷ values_at new (first ∷ ys)) here ∙ ap (λ vs. value_at old last ∷ vs) more,
          )
      joined (z ∷ zs) front values back more =
          let here : value_at new z ≡ value_at old z = done.values z in
          let tail : values_at new (zs ++ last ∷ []) ≡ values_at old (zs ++ last ∷ []) = all_values (zs ++ last ∷ []) in
          let later = joined zs front.2 tail back more in (
            (front.0, front.1 ∙ next_of zs, later.0),
            ap (λ v. v ∷ values_at new (zs ++ last ∷ first ∷ ys)) here ∙ ap (λ vs. value_at old z ∷ vs) later.1,
          )
        where
          all_values : (ps : List Pointer) → values_at new ps ≡ values_at old ps
          all_values [] = refl
          all_values (p ∷ ps) = ap (λ v. v ∷ values_at new ps) (done.values p) ∙ ap (λ vs. value_at old p ∷ vs) (all_values ps)

          next_of : (ws : List Pointer) → first_of (ws ++ last ∷ []) (Some first) ≡ first_of (ws ++ last ∷ first ∷ ys) rest
          next_of [] = refl
          next_of (w ∷ ws) = refl
