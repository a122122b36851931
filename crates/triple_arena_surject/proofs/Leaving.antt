-- A key that goes: the ring without it, and what holds then.
use Rattle.std.specs.Prelude.{List, [], ◌∷◌, Contains}
use Rattle.std.proofs.Common.{◌≡◌, ◌≢◌, ◌⊎◌, ◌+◌, ℕ, length, inl, inr, zero, suc, Option, Some, None, refl, sym, ap, ◌∙◌, subst, arith}
use Rattle.std.proofs.lemmas.List.{append-nil}
use Rattle.std.proofs.lemmas.Map.Made.{Contains-tail}
use Rattle.std.specs.Option.{option_map, option_and_then}
use Rattle.triple_arena_ptr.specs.Pointers.{Pointer}
use Rattle.triple_arena_chain.specs.Chains.{Node, after_at, IsLinked, IsRun, IsRemoved, IsOfChain, IsChainRemoved}
use Rattle.triple_arena_chain.specs.laws.LinkLaws.{same_pointer, leads_cases}
use Rattle.triple_arena_chain.specs.laws.RunLaws.{in_head, in_tail, next_in, removed_run, none_in, runs_on, run_front}
use Rattle.triple_arena_chain.specs.laws.RestLaws.{split_at}
use Rattle.triple_arena_surject.specs.declared.member.Member.{Member}
use Rattle.triple_arena_surject.specs.declared.member.Shared.{Shared}
use Rattle.triple_arena_surject.specs.Rings.{label, with_keys, CountsLess, IsRound, IsRing, IsSound}
use Rattle.triple_arena_surject.proofs.Options.{some_is}
use Rattle.triple_arena_surject.proofs.Rounds.{one_label, no_label, label_stays, round_once, ring_from}
use Rattle.triple_arena_surject.proofs.Sound.{IsKept, sound_but, sound_out}

pub counted_with : {V : Type 0} (k : ℕ) (o : Option (Shared V)) (n : ℕ) → option_map (λ (s : Shared V). s.keys) o ≡ Some n → option_map (λ (s : Shared V). s.keys) (option_map (with_keys k) o) ≡ Some k
counted_with k None n some = absurd (cc)
counted_with k (Some shared) n some = refl

module _ {P K : Type 0} (numbers : P → Pointer) (old : Pointer → Option (Node (Member P K))) (count : Pointer → Option ℕ) (linked : IsLinked old) (sound : IsSound numbers old count) where
  -- the ring of a key's set from it on
  ring_at : (p c : Pointer) → label numbers old p ≡ Some c → (n : ℕ) × (rest : List Pointer) × IsRound numbers old c n p rest × (count c ≡ Some n)
  ring_at p c of =
      let has = some_is (count c) (sound.counted p c of) in
      let ring = ring_from numbers old linked c has.0 (sound.rings c has.0 has.1) p of in
      (has.0, ring.0, ring.1, has.1)

  -- what a key leads on to is of its set
  pub next_of_set : (r p e : Pointer) → label numbers old r ≡ Some e → after_at old r ≡ Some p → label numbers old p ≡ Some e
  next_of_set r p e of leads =
      let ring = ring_at r e of in
      (ring.2.among p).1 (by_side ring.1 (next_in old (r ∷ ring.1) (Some r) r p ring.2.run (in_head r ring.1) leads))
    where
      by_side : (rest : List Pointer) → Contains (r ∷ rest) p ⊎ (Some r ≡ Some p) → Contains (r ∷ rest) p
      by_side rest (inl there) = there
      by_side rest (inr e) = (zero, omega arith, same_pointer r p e)

  module _ (p c : Pointer) (of_p : label numbers old p ≡ Some c) where
    pub counted_at : (n : ℕ) × (count c ≡ Some (n + 1))
    counted_at =
        let ring = ring_at p c of_p in
        let number : ring.0 ≡ length ring.1 + 1 = omega (arith, ring.2.size) in
        (length ring.1, ring.3 ∙ ap Some number)

    -- the last of the set
    pub alone_of_set : count c ≡ Some 1 → (r : Pointer) → label numbers old r ≡ Some c → r ≡ p
    alone_of_set had r of =
        let ring = ring_from numbers old linked c 1 (sound.rings c 1 had) p of_p in
        by_place ring.0 ring.1 ((ring.1.among r).0 of)
      where
        by_place : (rest : List Pointer) → IsRound numbers old c 1 p rest → Contains (p ∷ rest) r → r ≡ p
        by_place rest is (zero, within, at) = sym at
        by_place rest is (suc k, within, at) = absurd (omega (arith, within, is.size))

    -- or not the last: another is of it
    pub another : (n : ℕ) → count c ≡ Some (n + 2) → (r : Pointer) × (r ≢ p) × (label numbers old r ≡ Some c)
    another n had =
        let ring = ring_from numbers old linked c (n + 2) (sound.rings c (n + 2) had) p of_p in
        of_rest ring.0 ring.1
      where
        of_rest : (rest : List Pointer) → IsRound numbers old c (n + 2) p rest → (r : Pointer) × (r ≢ p) × (label numbers old r ≡ Some c)
        of_rest [] is = absurd (omega (arith, is.size))
        of_rest (y ∷ ys) is = (y, λ e. is.apart y (in_head y ys) (sym e), (is.among y).1 (in_tail p y (y ∷ ys) (in_head y ys)))

    module _ (new : Pointer → Option (Node (Member P K))) (done : IsRemoved old p new) (count' : Pointer → Option ℕ) (same : (d : Pointer) → d ≢ c → count' d ≡ count d) where
      away : (r : Pointer) → r ≢ p → label numbers new r ≡ label numbers old r
      away r other = label_stays numbers old new r (done.values r other)

      not_there : (r e : Pointer) → label numbers new r ≡ Some e → r ≢ p
      not_there r e of is = no_label numbers new p e done.gone (ap (label numbers new) (sym is) ∙ of)

      was : (r e : Pointer) → label numbers new r ≡ Some e → label numbers old r ≡ Some e
      was r e of = sym (away r (not_there r e of)) ∙ of

      kept : (d : Pointer) → d ≢ c → IsKept numbers old new count count' d
      kept d other =
          record {
            counts = same d other;
            still = λ r of.
                let far : r ≢ p = λ e. other (one_label numbers old r d c of (ap (label numbers old) e ∙ of_p)) in
                (away r far ∙ of, done.afters r far (λ before. other (one_label numbers old p d c (next_of_set r p d of ((linked r p).1 before)) of_p)));
            was = λ r of. was r d of;
          }

      -- the set has other keys
      round_left : (y : Pointer) (ys : List Pointer) (n : ℕ) → IsRound numbers old c (n + 2) p (y ∷ ys) → IsRound numbers new c (n + 1) y ys
      round_left y ys n is =
          let run = removed_run old p new (y ∷ ys) [] (Some y) linked done (runs_on old (y ∷ ys) p [] (Some y) is.run.2 (is.run.0, is.run.1, tt)) is.apart
          (λ r within. absurd (none_in r within)) (λ e. is.apart y (in_head y ys) (sym (same_pointer y p e))) in
          record {
            run = subst (λ ps. IsRun new ps (Some y)) (append-nil (y ∷ ys)) run.0;
            apart = (round_once numbers old linked c (n + 2) p (y ∷ ys) is).1.0;
            among = λ r. (
              λ of. Contains-tail p (y ∷ ys) r (λ e. not_there r c of (sym e)) ((is.among r).0 (was r c of)),
              λ within. away r (λ e. is.apart r within (sym e)) ∙ (is.among r).1 (in_tail p r (y ∷ ys) within),
            );
            size = omega (arith, is.size);
          }

      ring_left : (rest : List Pointer) (n : ℕ) → IsRound numbers old c (n + 2) p rest → IsRing numbers new c (n + 1)
      ring_left [] n is = absurd (omega (arith, is.size))
      ring_left (y ∷ ys) n is = (y, ys, round_left y ys n is)

      -- or is gone with it
      pub sound_less : {V : Type 0} (before after : Option (Shared V)) (out : Option V) → CountsLess before after out
          → count c ≡ option_map (λ (s : Shared V). s.keys) before → count' c ≡ option_map (λ (s : Shared V). s.keys) after → IsSound numbers new count'
      sound_less {V = V} before after None less had has =
          let n = less.0 in
          let ring = ring_from numbers old linked c (n + 2) (sound.rings c (n + 2) (had ∙ less.1)) p of_p in
          sound_but numbers old new count count' sound c (n + 1) (has ∙ ap (option_map (λ (s : Shared V). s.keys)) less.2 ∙ counted_with (n + 1) before (n + 2) less.1) (ring_left ring.0 n ring.1) kept
      sound_less {V = V} before after (Some value) less had has =
          sound_out numbers old new count count' sound c (has ∙ ap (option_map (λ (s : Shared V). s.keys)) less.1)
          (λ r of. not_there r c of (alone_of_set (had ∙ ap (option_map (λ (s : Shared V). s.keys)) less.0) r (was r c of))) kept

  -- what is of the chain of a key is of its set
  along : (x r c : Pointer) (between : List Pointer) → label numbers old x ≡ Some c → IsRun old (x ∷ between) (Some r) → label numbers old r ≡ Some c
  along x r c [] of run = next_of_set x r c of run.1
  along x r c (y ∷ ys) of run = along y r c ys (next_of_set x y c of run.1) run.2

  set_of_chain : (p r c : Pointer) → label numbers old p ≡ Some c → IsOfChain old p r → label numbers old r ≡ Some c
  set_of_chain p r c of (inl same) = ap (label numbers old) (sym same) ∙ of
  set_of_chain p r c of (inr (inl on)) = along p r c on.0 of on.1
  set_of_chain p r c of (inr (inr back)) =
      let node = some_is (old r) back.1.0 in
      let name : label numbers old r ≡ Some (numbers node.0.value.set) = ap (λ o. option_map (λ (m : Member P K). numbers m.set) (option_map (λ (n : Node (Member P K)). n.value) o)) node.1 in
      name ∙ ap Some (one_label numbers old p (numbers node.0.value.set) c (along r p (numbers node.0.value.set) back.0 name back.1) of)

  chain_of_set : (p r c : Pointer) → label numbers old p ≡ Some c → label numbers old r ≡ Some c → IsOfChain old p r
  chain_of_set p r c of also = let ring = ring_at p c of in by_place ring.1 ring.2.run ((ring.2.among r).0 also)
    where
      by_place : (rest : List Pointer) → IsRun old (p ∷ rest) (Some p) → Contains (p ∷ rest) r → IsOfChain old p r
      by_place rest run (zero, within, is) = inl is
      by_place rest run (suc k, within, is) =
          let split = split_at rest r (k, omega (arith, within), is) in
          inr (inl (split.0, run_front old (p ∷ split.0) r split.1 (Some p) (subst (λ ts. IsRun old (p ∷ ts) (Some p)) split.2 run)))

  -- the whole set goes
  module _ (p c : Pointer) (of_p : label numbers old p ≡ Some c) (new : Pointer → Option (Node (Member P K))) (done : IsChainRemoved old p new) where
    pub set_gone : (r : Pointer) → label numbers old r ≡ Some c → new r ≡ None
    set_gone r of = done.gone r (chain_of_set p r c of_p of)

    pub others_same : (r : Pointer) → label numbers old r ≢ Some c → new r ≡ old r
    others_same r other = done.others r (λ of. other (set_of_chain p r c of_p of))

    label_same : (r : Pointer) → label numbers old r ≢ Some c → label numbers new r ≡ label numbers old r
    label_same r other = ap (λ o. option_map (λ (m : Member P K). numbers m.set) (option_map (λ (n : Node (Member P K)). n.value) o)) (others_same r other)

    -- what is of a set now was of it, and not of the one that is gone
    left : (r d : Pointer) → label numbers new r ≡ Some d → (d ≢ c) × (label numbers old r ≡ Some d)
    left r d of =
        elim (leads_cases (label numbers old r) c) [
          | inl gone ↦ absurd (no_label numbers new r d (set_gone r gone) of)
          | inr other ↦ let is : label numbers old r ≡ Some d = sym (label_same r other) ∙ of in (λ e. other (is ∙ ap Some e), is)
        ]

    pub sound_without : (count' : Pointer → Option ℕ) → count' c ≡ None → ((d : Pointer) → d ≢ c → count' d ≡ count d) → IsSound numbers new count'
    sound_without count' none same =
        sound_out numbers old new count count' sound c none (λ r of. (left r c of).0 refl)
        (λ d other. record {
          counts = same d other;
          still = λ r of.
              let away : label numbers old r ≢ Some c = λ also. other (one_label numbers old r d c of also) in
              (label_same r away ∙ of, ap (option_and_then (λ (n : Node (Member P K)). n.after)) (others_same r away));
          was = λ r of. (left r d of).1;
        })
