-- Two sets made one: the ring of both, and what holds then.
use Rattle.std.specs.Prelude.{List, ◌∷◌, ◌++◌, Contains}
use Rattle.std.proofs.Common.{◌≡◌, ◌≢◌, ◌+◌, ℕ, inl, inr, zero, suc, Option, Some, None, refl, sym, ap, ◌∙◌, subst, arith, length-append}
use Rattle.std.proofs.lemmas.List.Elements.{Contains-append_left, Contains-append_right, Contains-append_cases}
use Rattle.std.specs.Option.{option_map}
use Rattle.triple_arena_ptr.specs.Pointers.{Pointer}
use Rattle.triple_arena_chain.specs.Chains.{Node, value_at, after_at, IsLinked}
use Rattle.triple_arena_chain.specs.laws.LinkLaws.{pointer_cases, leads_cases}
use Rattle.triple_arena_chain.specs.laws.RunLaws.{in_tail, first_of_both, runs_on, run_stays}
use Rattle.triple_arena_surject.specs.declared.member.Member.{Member}
use Rattle.triple_arena_surject.specs.Rings.{label, with_set, IsRound, IsRing, IsSound, IsSpliced}
use Rattle.triple_arena_surject.proofs.Rounds.{labelled_there, one_label, label_stays, ring_from}
use Rattle.triple_arena_surject.proofs.Sound.{sound_by}

module _ {P K : Type 0} (numbers : P → Pointer) where
  -- the keys of a set are of another, and of the two that are named, each leads on to what the other led to
  pub record IsMerged (old : Pointer → Option (Node (Member P K))) (p q : Pointer) (set : P) (d : Pointer) (new : Pointer → Option (Node (Member P K))) : Type 0 where
    pub of_kept : label numbers old p ≡ Some (numbers set)
    pub of_gone : label numbers old q ≡ Some d
    pub apart : numbers set ≢ d
    pub moved : (r : Pointer) → label numbers old r ≡ Some d → value_at new r ≡ option_map (with_set set) (value_at old r)
    pub away : (r : Pointer) → label numbers old r ≢ Some d → value_at new r ≡ value_at old r
    pub first : after_at new p ≡ after_at old q
    pub second : after_at new q ≡ after_at old p
    pub others : (r : Pointer) → r ≢ p → r ≢ q → after_at new r ≡ after_at old r

  pub merged : (old mid new : Pointer → Option (Node (Member P K))) (p q : Pointer) (set : P) (d : Pointer) → label numbers old p ≡ Some (numbers set) → label numbers old q ≡ Some d → numbers set ≢ d
      → ((r : Pointer) → label numbers old r ≡ label numbers old q → value_at mid r ≡ option_map (with_set set) (value_at old r))
      → ((r : Pointer) → label numbers old r ≢ label numbers old q → value_at mid r ≡ value_at old r)
      → ((r : Pointer) → after_at mid r ≡ after_at old r) → IsSpliced mid p q new → IsMerged old p q set d new
  merged old mid new p q set d of_p of_q apart moved away afters spliced =
      record {
        of_kept = of_p;
        of_gone = of_q;
        apart = apart;
        moved = λ r of. spliced.values r ∙ moved r (of ∙ sym of_q);
        away = λ r other. spliced.values r ∙ away r (λ e. other (e ∙ of_q));
        first = spliced.first ∙ afters q;
        second = spliced.second ∙ afters p;
        others = λ r far apart_from. spliced.others r far apart_from ∙ afters r;
      }

module _ {P K : Type 0} (numbers : P → Pointer) (old new : Pointer → Option (Node (Member P K))) (p q : Pointer) (set : P) (d : Pointer) (is : IsMerged numbers old p q set d new) where
  abbrev c : Pointer
  c = numbers set

  -- the keys of the one set are of the other
  pub label_moved : (r : Pointer) → label numbers old r ≡ Some d → label numbers new r ≡ Some c
  label_moved r of = ap (option_map (λ (m : Member P K). numbers m.set)) (is.moved r of) ∙ by_value (value_at old r) of
    where
      by_value : (o : Option (Member P K)) → option_map (λ (m : Member P K). numbers m.set) o ≡ Some d → option_map (λ (m : Member P K). numbers m.set) (option_map (with_set set) o) ≡ Some c
      by_value None e = absurd (cc)
      by_value (Some m) e = refl

  pub label_kept : (r : Pointer) → label numbers old r ≢ Some d → label numbers new r ≡ label numbers old r
  label_kept r other = label_stays numbers old new r (is.away r other)

  pub key_kept : (r : Pointer) → option_map (λ (m : Member P K). m.key) (value_at new r) ≡ option_map (λ (m : Member P K). m.key) (value_at old r)
  key_kept r =
      elim (leads_cases (label numbers old r) d) [
        | inl gone ↦ ap (option_map (λ (m : Member P K). m.key)) (is.moved r gone) ∙ by_value (value_at old r)
        | inr other ↦ ap (option_map (λ (m : Member P K). m.key)) (is.away r other)
      ]
    where
      by_value : (o : Option (Member P K)) → option_map (λ (m : Member P K). m.key) (option_map (with_set set) o) ≡ option_map (λ (m : Member P K). m.key) o
      by_value None = refl
      by_value (Some m) = refl

  not_gone : (r e : Pointer) → e ≢ d → label numbers old r ≡ Some e → label numbers old r ≢ Some d
  not_gone r e other of also = other (one_label numbers old r e d of also)

  none_gone : (r : Pointer) → label numbers new r ≢ Some d
  none_gone r of =
      elim (leads_cases (label numbers old r) d) [
        | inl gone ↦ is.apart (one_label numbers new r c d (label_moved r gone) of)
        | inr kept ↦ kept (sym (label_kept r kept) ∙ of)
      ]

  other_set : (r s a b : Pointer) → a ≢ b → label numbers old r ≡ Some a → label numbers old s ≡ Some b → r ≢ s
  other_set r s a b other of_r of_s e = other (one_label numbers old s a b (ap (label numbers old) (sym e) ∙ of_r) of_s)

  module _ (linked : IsLinked old) (n m : ℕ) (zs : List Pointer) (kept : IsRound numbers old c n p zs) (ws : List Pointer) (gone : IsRound numbers old d m q ws) where
    of_zs : (r : Pointer) → Contains zs r → label numbers old r ≡ Some c
    of_zs r within = (kept.among r).1 (in_tail p r zs within)

    of_ws : (r : Pointer) → Contains ws r → label numbers old r ≡ Some d
    of_ws r within = (gone.among r).1 (in_tail q r ws within)

    now : (r : Pointer) → label numbers old r ≡ Some c → label numbers new r ≡ Some c
    now r of = label_kept r (not_gone r c is.apart of) ∙ of

    abbrev both : List Pointer
    both = ws ++ q ∷ zs

    round_both : IsRound numbers new c (n + m) p both
    round_both =
        record {
          run = (
            labelled_there numbers new p c (now p is.of_kept),
            is.first ∙ gone.run.1 ∙ sym (first_of_both ws q zs (Some p)),
            runs_on new ws q zs (Some p)
                (run_stays old new ws (Some q) gone.run.2
                (λ r within. (
                  labelled_there numbers new r c (label_moved r (of_ws r within)),
                  is.others r (λ e. other_set p r c d is.apart is.of_kept (of_ws r within) (sym e)) (λ e. gone.apart r within (sym e)),
                ))) (
                  labelled_there numbers new q c (label_moved q is.of_gone),
                  is.second ∙ kept.run.1,
                  run_stays old new zs (Some p) kept.run.2
                      (λ r within. (
                        labelled_there numbers new r c (now r (of_zs r within)),
                        is.others r (λ e. kept.apart r within (sym e)) (other_set r q c d is.apart (of_zs r within) is.of_gone),
                      )),
                ),
          );
          apart = λ r within. elim (Contains-append_cases ws (q ∷ zs) r within) [
            | inl there ↦ other_set p r c d is.apart is.of_kept (of_ws r there)
            | inr there ↦ apart_kept r there
          ];
          among = λ r. (
            λ of. elim (leads_cases (label numbers old r) d) [
              | inl was ↦ from_gone r ((gone.among r).0 was)
              | inr stays ↦ from_kept r ((kept.among r).0 (sym (label_kept r stays) ∙ of))
            ],
            λ within. within_both r within,
          );
          size = omega (arith, kept.size, gone.size, length-append ws (q ∷ zs));
        }
      where
        apart_kept : (r : Pointer) → Contains (q ∷ zs) r → p ≢ r
        apart_kept r (zero, within, at) = λ e. other_set p q c d is.apart is.of_kept is.of_gone (e ∙ sym at)
        apart_kept r (suc k, within, at) = kept.apart r (k, omega (arith, within), at)

        from_gone : (r : Pointer) → Contains (q ∷ ws) r → Contains (p ∷ both) r
        from_gone r (zero, within, at) = in_tail p r both (Contains-append_right ws (q ∷ zs) r (zero, omega arith, at))
        from_gone r (suc k, within, at) = in_tail p r both (Contains-append_left ws (q ∷ zs) r (k, omega (arith, within), at))

        from_kept : (r : Pointer) → Contains (p ∷ zs) r → Contains (p ∷ both) r
        from_kept r (zero, within, at) = (zero, omega arith, at)
        from_kept r (suc k, within, at) = in_tail p r both (Contains-append_right ws (q ∷ zs) r (in_tail q r zs (k, omega (arith, within), at)))

        behind : (r : Pointer) → Contains (q ∷ zs) r → label numbers new r ≡ Some c
        behind r (zero, within, at) = ap (label numbers new) (sym at) ∙ label_moved q is.of_gone
        behind r (suc k, within, at) = now r (of_zs r (k, omega (arith, within), at))

        within_both : (r : Pointer) → Contains (p ∷ both) r → label numbers new r ≡ Some c
        within_both r (zero, within, at) = ap (label numbers new) (sym at) ∙ now p is.of_kept
        within_both r (suc k, within, at) =
            elim (Contains-append_cases ws (q ∷ zs) r (k, omega (arith, within), at)) [
              | inl there ↦ label_moved r (of_ws r there)
              | inr there ↦ behind r there
            ]

  module _ (linked : IsLinked old) (count count' : Pointer → Option ℕ) (sound : IsSound numbers old count) (n m : ℕ) (has_p : count c ≡ Some n) (has_q : count d ≡ Some m) where
    pub ring_both : IsRing numbers new c (n + m)
    ring_both =
        let kept = ring_from numbers old linked c n (sound.rings c n has_p) p is.of_kept in
        let gone = ring_from numbers old linked d m (sound.rings d m has_q) q is.of_gone in
        (p, gone.0 ++ q ∷ kept.0, round_both linked n m kept.0 kept.1 gone.0 gone.1)

    pub sound_united : count' c ≡ Some (n + m) → count' d ≡ None → ((e : Pointer) → e ≢ c → e ≢ d → count' e ≡ count e) → IsSound numbers new count'
    sound_united all none same =
        sound_by numbers old new count count' sound
        (λ e. elim (pointer_cases e c) [
          | inl at ↦ inr (inl (n + m, ap count' at ∙ all, subst (λ x. IsRing numbers new x (n + m)) (sym at) ring_both))
          | inr other ↦ elim (pointer_cases e d) [
            | inl at ↦ inl (ap count' at ∙ none, λ r of. none_gone r (of ∙ ap Some at))
            | inr far ↦ inr (inr (record {
              counts = same e other far;
              still = λ r of. (
                label_kept r (not_gone r e far of) ∙ of,
                is.others r (other_set r p e c other of is.of_kept) (other_set r q e d far of is.of_gone),
              );
              was = λ r of. elim (leads_cases (label numbers old r) d) [
                | inl gone ↦ absurd (other (one_label numbers new r e c of (label_moved r gone)))
                | inr kept ↦ sym (label_kept r kept) ∙ of
              ];
            }))
          ]
        ])
