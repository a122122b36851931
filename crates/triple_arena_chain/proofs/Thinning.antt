-- A chain whose entries are taken out one by one.
use Rattle.std.specs.Prelude.{List, [], ◌∷◌, ◌++◌}
use Rattle.std.proofs.Common.{◌≡◌, ◌≢◌, ◌⊎◌, inl, inr, Option, Some, None, IsSome, refl, sym, ap, ◌∙◌, subst}
use Rattle.triple_arena_ptr.specs.Pointers.{Pointer}
use Rattle.triple_arena_chain.specs.Chains.{Node, after_at, before_at, IsLinked, IsRemoved, IsRun, LeadsTo, IsOfChain, IsChainRemoved, IsAlone, IsBeside}
use Rattle.triple_arena_chain.specs.laws.LinkLaws.{pointer_cases, leads_cases, same_pointer, leads_back_there, leads_on_there}
use Rattle.triple_arena_chain.specs.laws.NodeLaws.{not_there, valued, unvalued, same_node}
use Rattle.triple_arena_chain.specs.laws.RunLaws.{runs_on}

module _ {T : Type 0} where
  -- of a pointer's chain some entries are gone, and the others are of one chain still; every other pointer finds what it found
  pub record IsThinned (old : Pointer → Option (Node T)) (p : Pointer) (new : Pointer → Option (Node T)) : Type 0 where
    pub part : (q : Pointer) → IsOfChain new p q → IsOfChain old p q
    pub rest : (q : Pointer) → IsOfChain old p q → (new q ≡ None) ⊎ IsOfChain new p q
    pub others : (q : Pointer) → (IsOfChain old p q → ⊥) → new q ≡ old q

  pub thinned_none : (old : Pointer → Option (Node T)) (p : Pointer) → IsThinned old p old
  thinned_none old p = record { part = λ q of. of; rest = λ q of. inr of; others = λ q other. refl }

  leads_over : (nodes : Pointer → Option (Node T)) (x y z : Pointer) → LeadsTo nodes x y → LeadsTo nodes y z → LeadsTo nodes x z
  leads_over nodes x y z on more = (on.0 ++ y ∷ more.0, runs_on nodes (x ∷ on.0) y more.0 (Some z) on.1 more.1)

  module _ (old : Pointer → Option (Node T)) (q : Pointer) (new : Pointer → Option (Node T)) (linked : IsLinked old) (done : IsRemoved old q new) where
    pub still : (r : Pointer) → IsSome (old r) → r ≢ q → IsSome (new r)
    still r some other = valued (old r) (new r) some (done.values r other)

    live_other : (r : Pointer) → IsSome (new r) → r ≢ q
    live_other r some same = not_there (new r) (ap new same ∙ done.gone) some

    was : (r : Pointer) → IsSome (new r) → IsSome (old r)
    was r some = valued (new r) (old r) some (sym (done.values r (live_other r some)))

    none_still : (r : Pointer) → old r ≡ None → new r ≡ None
    none_still r none =
        elim (pointer_cases r q) [
          | inl same ↦ ap new same ∙ done.gone
          | inr other ↦ unvalued (old r) (new r) none (done.values r other)
        ]

    -- an entry that leads to another than the one that goes
    not_led : (x y : Pointer) → after_at old x ≡ Some y → y ≢ q → before_at old q ≢ Some x
    not_led x y leads other back = other (same_pointer y q (sym leads ∙ (linked x q).1 back))

    -- from one that stays to one that stays
    leads_still : (x r : Pointer) (ps : List Pointer) → IsRun old (x ∷ ps) (Some r) → x ≢ q → r ≢ q → LeadsTo new x r
    leads_still x r [] run stays far = ([], (still x run.0 stays, done.afters x stays (not_led x r run.1 far) ∙ run.1, tt))
    leads_still x r (y ∷ []) run stays far =
        elim (pointer_cases y q) [
          | inr other ↦
              let on = leads_still y r [] run.2 other far in
              (y ∷ on.0, (still x run.0 stays, done.afters x stays (not_led x y run.1 other) ∙ run.1, on.1))
          | inl here ↦
              let led : before_at old q ≡ Some x = (linked x q).0 (run.1 ∙ ap Some here) in
              let next : after_at old q ≡ Some r = ap (after_at old) (sym here) ∙ run.2.1 in
              ([], (still x run.0 stays, done.after_prev x stays led ∙ next, tt))
        ]
    leads_still x r (y ∷ z ∷ zs) run stays far =
        elim (pointer_cases y q) [
          | inr other ↦
              let on = leads_still y r (z ∷ zs) run.2 other far in
              (y ∷ on.0, (still x run.0 stays, done.afters x stays (not_led x y run.1 other) ∙ run.1, on.1))
          | inl here ↦
              let led : before_at old q ≡ Some x = (linked x q).0 (run.1 ∙ ap Some here) in
              let next : after_at old q ≡ Some z = ap (after_at old) (sym here) ∙ run.2.1 in
              let apart : z ≢ q = λ e. stays (same_pointer x q (sym led ∙ (linked q q).0 (next ∙ ap Some e))) in
              let on = leads_still z r zs run.2.2 apart far in
              (z ∷ on.0, (still x run.0 stays, done.after_prev x stays led ∙ next, on.1))
        ]

    step_was : (x y : Pointer) → IsSome (new x) → after_at new x ≡ Some y → LeadsTo old x y
    step_was x y some leads =
        elim (leads_cases (before_at old q) x) [
          | inl led ↦ (
            q ∷ [],
            (
              was x some,
              (linked x q).1 led,
              (leads_back_there old q x led, sym (done.after_prev x (live_other x some) led) ∙ leads, tt),
            ),
          )
          | inr far ↦ ([], (was x some, sym (done.afters x (live_other x some) far) ∙ leads, tt))
        ]

    leads_was : (x r : Pointer) (ps : List Pointer) → IsRun new (x ∷ ps) (Some r) → LeadsTo old x r
    leads_was x r [] run = step_was x r run.0 run.1
    leads_was x r (y ∷ ys) run = leads_over old x y r (step_was x y run.0 run.1) (leads_was y r ys run.2)

    chain_was : (p r : Pointer) → IsOfChain new p r → IsOfChain old p r
    chain_was p r (inl same) = inl same
    chain_was p r (inr (inl on)) = inr (inl (leads_was p r on.0 on.1))
    chain_was p r (inr (inr back)) = inr (inr (leads_was r p back.0 back.1))

    chain_still : (p r : Pointer) → p ≢ q → r ≢ q → IsOfChain old p r → IsOfChain new p r
    chain_still p r stays far (inl same) = inl same
    chain_still p r stays far (inr (inl on)) = inr (inl (leads_still p r on.0 on.1 stays far))
    chain_still p r stays far (inr (inr back)) = inr (inr (leads_still r p back.0 back.1 far stays))

    -- what leads neither to the one that goes, nor is led to by it, stays
    node_still : (r : Pointer) → r ≢ q → before_at old q ≢ Some r → after_at old q ≢ Some r → new r ≡ old r
    node_still r other before after = same_node (old r) (new r) (done.values r other) (done.afters r other before) (done.befores r other after)

  -- what stands beside one that is there is there
  pub beside_there : (nodes : Pointer → Option (Node T)) (p q : Pointer) → IsLinked nodes → IsBeside nodes p q → IsSome (nodes q)
  beside_there nodes p q linked beside = by_side beside.1
    where
      by_side : (after_at nodes p ≡ Some q) ⊎ (before_at nodes p ≡ Some q) → IsSome (nodes q)
      by_side (inl on) = leads_back_there nodes q p ((linked p q).0 on)
      by_side (inr back) = leads_on_there nodes q p ((linked q p).1 back)

  module _ (old cur : Pointer → Option (Node T)) (p : Pointer) (linked : IsLinked cur) (thin : IsThinned old p cur) where
    -- one beside it goes
    pub one_less : (q : Pointer) (new : Pointer → Option (Node T)) → IsBeside cur p q → IsRemoved cur q new → IsThinned old p new
    one_less q new beside done =
        record {
          part = λ r of. thin.part r (chain_was cur q new linked done p r of);
          rest = λ r of. elim (thin.rest r of) [
            | inl none ↦ inl (none_still cur q new linked done r none)
            | inr chain ↦ elim (pointer_cases r q) [
              | inl same ↦ inl (ap new same ∙ done.gone)
              | inr other ↦ inr (chain_still cur q new linked done p r (λ e. beside.0 (sym e)) other chain)
            ]
          ];
          others = λ r other.
              node_still cur q new linked done r (λ e. other (subst (IsOfChain old p) (sym e) (thin.part q of_chain)))
              (λ before. other (thin.part r (led_to r beside.1 before))) (λ after. other (thin.part r (led_on r beside.1 after)))
              ∙ thin.others r other;
        }
      where
        of_chain : IsOfChain cur p q
        of_chain = by_side beside.1
          where
            by_side : (after_at cur p ≡ Some q) ⊎ (before_at cur p ≡ Some q) → IsOfChain cur p q
            by_side (inl on) = inr (inl ([], (leads_on_there cur p q on, on, tt)))
            by_side (inr back) = inr (inr ([], (leads_on_there cur q p ((linked q p).1 back), (linked q p).1 back, tt)))

        led_to : (r : Pointer) → (after_at cur p ≡ Some q) ⊎ (before_at cur p ≡ Some q) → before_at cur q ≡ Some r → IsOfChain cur p r
        led_to r (inl on) before = inl (same_pointer p r (sym ((linked p q).0 on) ∙ before))
        led_to r (inr back) before =
            let first : after_at cur r ≡ Some q = (linked r q).1 before in
            let then : after_at cur q ≡ Some p = (linked q p).1 back in
            inr (inr (q ∷ [], (leads_on_there cur r q first, first, (leads_on_there cur q p then, then, tt))))

        led_on : (r : Pointer) → (after_at cur p ≡ Some q) ⊎ (before_at cur p ≡ Some q) → after_at cur q ≡ Some r → IsOfChain cur p r
        led_on r (inl on) after = inr (inl (q ∷ [], (leads_on_there cur p q on, on, (leads_on_there cur q r after, after, tt))))
        led_on r (inr back) after = inl (same_pointer p r (sym ((linked q p).1 back) ∙ after))

    module _ (alone : IsAlone cur p) where
      on_alone : (r : Pointer) (ps : List Pointer) → IsRun cur (p ∷ ps) (Some r) → r ≡ p
      on_alone r [] run = alone.last r run.1
      on_alone r (y ∷ ys) run = on_alone r ys (subst (λ x. IsRun cur (x ∷ ys) (Some r)) (alone.last y run.1) run.2)

      back_alone : (r : Pointer) (ps : List Pointer) → IsRun cur (r ∷ ps) (Some p) → r ≡ p
      back_alone r [] run = alone.first r ((linked r p).0 run.1)
      back_alone r (y ∷ ys) run = alone.first r ((linked r p).0 (run.1 ∙ ap Some (back_alone y ys run.2)))

      alone_chain : (r : Pointer) → IsOfChain cur p r → r ≡ p
      alone_chain r (inl same) = sym same
      alone_chain r (inr (inl on)) = on_alone r on.0 on.1
      alone_chain r (inr (inr back)) = back_alone r back.0 back.1

      -- the last one goes
      pub none_left : (new : Pointer → Option (Node T)) → IsRemoved cur p new → IsChainRemoved old p new
      none_left new done =
          record {
            gone = λ r of. elim (thin.rest r of) [
              | inl none ↦ none_still cur p new linked done r none
              | inr chain ↦ ap new (alone_chain r chain) ∙ done.gone
            ];
            others = λ r other.
                let far : r ≢ p = λ e. other (inl (sym e)) in
                node_still cur p new linked done r far (λ before. far (alone.first r before)) (λ after. far (alone.last r after))
                ∙ thin.others r other;
          }
