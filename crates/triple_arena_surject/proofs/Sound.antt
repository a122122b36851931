-- What always holds, where some sets change and the others stay.
use Rattle.std.specs.Prelude.{List, [], ◌∷◌, Contains}
use Rattle.std.proofs.Common.{◌≡◌, ◌≢◌, ◌⊎◌, ◌+◌, ℕ, inl, inr, zero, suc, Option, Some, None, IsSome, refl, sym, ap, ◌∙◌, subst, arith}
use Rattle.std.proofs.lemmas.Option.{none-some, same_Some}
use Rattle.std.specs.Option.{option_map}
use Rattle.triple_arena_ptr.specs.Pointers.{Pointer}
use Rattle.triple_arena_chain.specs.Chains.{Node, value_at, after_at, IsLinked, IsInserted}
use Rattle.triple_arena_chain.specs.laws.LinkLaws.{same_pointer, pointer_cases}
use Rattle.triple_arena_chain.specs.laws.RunLaws.{in_head, in_tail, inserted_after, none_in}
use Rattle.triple_arena_chain.specs.laws.RestLaws.{in_rest}
use Rattle.triple_arena_surject.specs.declared.member.Member.{Member}
use Rattle.triple_arena_surject.specs.Rings.{label, IsRound, IsRing, IsSound}
use Rattle.triple_arena_surject.proofs.Options.{some_there, none_there}
use Rattle.triple_arena_surject.proofs.Rounds.{labelled_there, one_label, no_label, label_stays, ring_from, ring_stays}

-- one more behind the head
behind_head : (p q : Pointer) (ps : List Pointer) (r : Pointer) → Contains (p ∷ ps) r → Contains (p ∷ q ∷ ps) r
behind_head p q ps r (zero, within, is) = (zero, omega arith, is)
behind_head p q ps r (suc k, within, is) = in_tail p r (q ∷ ps) (in_tail q r ps (k, omega (arith, within), is))

module _ {P K : Type 0} (numbers : P → Pointer) where
  -- the same counts
  pub sound_recounted : (nodes : Pointer → Option (Node (Member P K))) (count count' : Pointer → Option ℕ) → ((c : Pointer) → count' c ≡ count c) → IsSound numbers nodes count → IsSound numbers nodes count'
  sound_recounted nodes count count' same sound =
      record {
        counted = λ q c of. subst IsSome (sym (same c)) (sound.counted q c of);
        rings = λ c n is. sound.rings c n (sym (same c) ∙ is);
      }

  module _ (old new : Pointer → Option (Node (Member P K))) (count count' : Pointer → Option ℕ) where
    -- a set is gone with its keys
    abbrev IsOut : Pointer → Type 0
    IsOut c = (count' c ≡ None) × ((q : Pointer) → label numbers new q ≢ Some c)

    -- or has this ring
    abbrev IsRinged : Pointer → Type 0
    IsRinged c = (n : ℕ) × (count' c ≡ Some n) × IsRing numbers new c n

    -- or is as it was
    pub record IsKept (c : Pointer) : Type 0 where
      pub counts : count' c ≡ count c
      pub still : (q : Pointer) → label numbers old q ≡ Some c → (label numbers new q ≡ Some c) × (after_at new q ≡ after_at old q)
      pub was : (q : Pointer) → label numbers new q ≡ Some c → label numbers old q ≡ Some c

    module _ (sound : IsSound numbers old count) where
      pub sound_by : ((c : Pointer) → IsOut c ⊎ (IsRinged c ⊎ IsKept c)) → IsSound numbers new count'
      sound_by cases =
          record {
            counted = λ q c of. elim (cases c) [
              | inl out ↦ absurd (out.1 q of)
              | inr there ↦ elim there [
                | inl ringed ↦ some_there (count' c) ringed.0 ringed.1
                | inr kept ↦ subst IsSome (sym kept.counts) (sound.counted q c (kept.was q of))
              ]
            ];
            rings = λ c n is. elim (cases c) [
              | inl out ↦ absurd (none-some n (sym out.0 ∙ is))
              | inr there ↦ elim there [
                | inl ringed ↦ subst (IsRing numbers new c) (same_Some ringed.0 n (sym ringed.1 ∙ is)) ringed.2
                | inr kept ↦ ring_stays numbers old new c n kept.still kept.was (sound.rings c n (sym kept.counts ∙ is))
              ]
            ];
          }

      -- one set changes, or is gone
      pub sound_but : (c : Pointer) (n : ℕ) → count' c ≡ Some n → IsRing numbers new c n → ((d : Pointer) → d ≢ c → IsKept d) → IsSound numbers new count'
      sound_but c n is ring kept =
          sound_by (λ d. elim (pointer_cases d c) [
            | inl e ↦ inr (inl (n, ap count' e ∙ is, subst (λ x. IsRing numbers new x n) (sym e) ring))
            | inr other ↦ inr (inr (kept d other))
          ])

      pub sound_out : (c : Pointer) → count' c ≡ None → ((q : Pointer) → label numbers new q ≢ Some c) → ((d : Pointer) → d ≢ c → IsKept d) → IsSound numbers new count'
      sound_out c none out kept =
          sound_by (λ d. elim (pointer_cases d c) [
            | inl e ↦ inl (ap count' e ∙ none, λ q of. out q (of ∙ ap Some e))
            | inr other ↦ inr (inr (kept d other))
          ])

      -- a key comes
      module _ (q : Pointer) (member : Member P K) (free : old q ≡ None) (found : value_at new q ≡ Some member)
          (values : (r : Pointer) → r ≢ q → value_at new r ≡ value_at old r) (same : (d : Pointer) → d ≢ numbers member.set → count' d ≡ count d) where
        abbrev c : Pointer
        c = numbers member.set

        here : label numbers new q ≡ Some c
        here = ap (option_map (λ (m : Member P K). numbers m.set)) found

        away : (r : Pointer) → r ≢ q → label numbers new r ≡ label numbers old r
        away r other = label_stays numbers old new r (values r other)

        old_other : (r d : Pointer) → label numbers old r ≡ Some d → r ≢ q
        old_other r d of e = no_label numbers old q d free (ap (label numbers old) (sym e) ∙ of)

        kept : ((r d : Pointer) → d ≢ c → label numbers old r ≡ Some d → after_at new r ≡ after_at old r) → (d : Pointer) → d ≢ c → IsKept d
        kept afters d other =
            record {
              counts = same d other;
              still = λ r of. (away r (old_other r d of) ∙ of, afters r d other of);
              was = λ r of. sym (away r (λ e. other (one_label numbers new q d c (ap (label numbers new) (sym e) ∙ of) here))) ∙ of;
            }

        -- alone in its ring, with its set
        pub sound_alone : after_at new q ≡ Some q → ((r : Pointer) → r ≢ q → after_at new r ≡ after_at old r) → count c ≡ None → count' c ≡ Some 1 → IsSound numbers new count'
        sound_alone after afters none one =
            sound_but c 1 one (
              q,
              [],
              record {
                run = (labelled_there numbers new q c here, after, tt);
                apart = λ r within. absurd (none_in r within);
                among = λ r. (
                  λ of. elim (pointer_cases r q) [
                    | inl e ↦ subst (Contains (q ∷ [])) (sym e) (in_head q [])
                    | inr other ↦ absurd (none_there (count c) none (sound.counted r c (sym (away r other) ∙ of)))
                  ],
                  λ within. of_one r within,
                );
                size = refl;
              },
            )
            (kept (λ r d other of. afters r (old_other r d of)))
          where
            of_one : (r : Pointer) → Contains (q ∷ []) r → label numbers new r ≡ Some c
            of_one r (zero, within, is) = ap (label numbers new) (sym is) ∙ here
            of_one r (suc k, within, is) = absurd (omega (arith, within))

        -- or in a set, behind another
        pub sound_added : IsLinked old → (p : Pointer) (n : ℕ) → IsInserted old (Some p) (after_at old p) q member new → label numbers old p ≡ Some c → count c ≡ Some n → count' c ≡ Some (n + 1) → IsSound numbers new count'
        sound_added linked p n done of_p had more =
            sound_but c (n + 1) more (
              p,
              q ∷ rest,
              record {
                run = (inserted_after old p q member new [] rest (Some p) done is.run (λ r within. absurd (none_in r within)) is.apart).0;
                apart = apart;
                among = λ r. (
                  λ of. elim (pointer_cases r q) [
                    | inl e ↦ subst (Contains (p ∷ q ∷ rest)) (sym e) (in_tail p q (q ∷ rest) (in_head q rest))
                    | inr other ↦ behind_head p q rest r ((is.among r).0 (sym (away r other) ∙ of))
                  ],
                  λ within. elim (pointer_cases r q) [
                    | inl e ↦ ap (label numbers new) e ∙ here
                    | inr other ↦ away r other ∙ (is.among r).1 (in_rest (p ∷ []) q rest r within (λ e. other (sym e)))
                  ],
                );
                size = omega (arith, is.size);
              },
            )
            (kept (λ r d other of. done.afters r (old_other r d of) (λ e. other (one_label numbers old r d c of (ap (label numbers old) (sym (same_pointer p r e)) ∙ of_p)))))
          where
            from : (rest : List Pointer) × IsRound numbers old c n p rest
            from = ring_from numbers old linked c n (sound.rings c n had) p of_p

            rest : List Pointer
            rest = from.0

            is : IsRound numbers old c n p rest
            is = from.1

            apart : (r : Pointer) → Contains (q ∷ rest) r → p ≢ r
            apart r (zero, within, at) = λ e. old_other p c of_p (e ∙ sym at)
            apart r (suc k, within, at) = is.apart r (k, omega (arith, within), at)
