-- The ring of a set: from another of its keys on, where all leads on as before, and how many it has at most.
use Rattle.std.specs.Prelude.{List, [], ◌∷◌, ◌++◌, Contains}
use Rattle.std.proofs.Common.{◌≡◌, ◌≢◌, ◌⊎◌, ◌≤◌, ℕ, inl, inr, zero, suc, length, Option, Some, None, IsSome, refl, sym, ap, ◌∙◌, subst, arith, length-append}
use Rattle.std.proofs.lemmas.List.Elements.{Contains-append_cases}
use Rattle.std.proofs.lemmas.Option.{none-some}
use Rattle.std.specs.Option.{option_map}
use Rattle.triple_arena_ptr.specs.Pointers.{Pointer}
use Rattle.triple_arena.specs.Entries.{look_up, entry_count}
use Rattle.triple_arena.specs.Walks.{keys}
use Rattle.triple_arena.specs.laws.WalkLaws.{live_key}
use Rattle.triple_arena_chain.specs.Chains.{Node, value_at, after_at, first_of, IsLinked, IsRun, AreOnce}
use Rattle.triple_arena_chain.specs.laws.LinkLaws.{same_pointer}
use Rattle.triple_arena_chain.specs.laws.RestLaws.{split_at, no_more, run_once}
use Rattle.triple_arena_chain.specs.laws.RunLaws.{runs_on, run_front, run_back, run_stays, run_there}
use Rattle.triple_arena_chain.specs.laws.OnceLaws.{in_turn, once_before, once_behind, many_keys}
use Rattle.triple_arena_surject.specs.declared.member.Member.{Member}
use Rattle.triple_arena_surject.specs.Rings.{label, IsRound, IsRing}
use Rattle.triple_arena_surject.proofs.Options.{some_there, some_of_map}

pub first_some : (ps : List Pointer) (p : Pointer) → IsSome (first_of ps (Some p))
first_some [] p = refl
first_some (q ∷ qs) p = refl

module _ {P K : Type 0} (numbers : P → Pointer) where
  -- what has a name is there, and has no other
  pub labelled_there : (nodes : Pointer → Option (Node (Member P K))) (p c : Pointer) → label numbers nodes p ≡ Some c → IsSome (nodes p)
  labelled_there nodes p c is =
      some_of_map (λ (n : Node (Member P K)). n.value) (nodes p) (some_of_map (λ (m : Member P K). numbers m.set) (value_at nodes p) (some_there (label numbers nodes p) c is))

  pub one_label : (nodes : Pointer → Option (Node (Member P K))) (p c d : Pointer) → label numbers nodes p ≡ Some c → label numbers nodes p ≡ Some d → c ≡ d
  one_label nodes p c d is also = same_pointer c d (sym is ∙ also)

  pub no_label : (nodes : Pointer → Option (Node (Member P K))) (p c : Pointer) → nodes p ≡ None → label numbers nodes p ≡ Some c → ⊥
  no_label nodes p c none is = none-some c (sym (ap (λ o. option_map (λ (m : Member P K). numbers m.set) (option_map (λ (n : Node (Member P K)). n.value) o)) none) ∙ is)

  -- the same value under a pointer is of the same set
  pub label_stays : (old new : Pointer → Option (Node (Member P K))) (q : Pointer) → value_at new q ≡ value_at old q → label numbers new q ≡ label numbers old q
  label_stays old new q same = ap (option_map (λ (m : Member P K). numbers m.set)) same

  module _ (nodes : Pointer → Option (Node (Member P K))) (linked : IsLinked nodes) (c : Pointer) (n : ℕ) where
    pub round_once : (p : Pointer) (rest : List Pointer) → IsRound numbers nodes c n p rest → AreOnce (p ∷ rest)
    round_once p rest is = run_once nodes linked p rest (Some p) is.run is.apart

    -- a ring goes round from each of its keys
    pub ring_from : IsRing numbers nodes c n → (p : Pointer) → label numbers nodes p ≡ Some c → (rest : List Pointer) × IsRound numbers nodes c n p rest
    ring_from (h, tail, is) p of = by_place ((is.among p).0 of)
      where
        apart : (front back : List Pointer) → Contains tail p → AreOnce (front ++ p ∷ back) → (q : Pointer) → Contains back q ⊎ Contains (h ∷ front) q → p ≢ q
        apart front back there once q (inl within) = once_behind front p back once q within
        apart front back there once q (inr (zero, within, at)) = λ e. is.apart p there (at ∙ sym e)
        apart front back there once q (inr (suc k, within, at)) = once_before front p back once q (k, omega (arith, within), at)

        by_place : Contains (h ∷ tail) p → (rest : List Pointer) × IsRound numbers nodes c n p rest
        by_place (zero, within, at) = subst (λ x. (rest : List Pointer) × IsRound numbers nodes c n x rest) at (tail, is)
        by_place (suc k, within, at) =
            let there : Contains tail p = (k, omega (arith, within), at) in
            let split = split_at tail p there in
            let whole : IsRun nodes (h ∷ split.0 ++ p ∷ split.1) (Some h) = subst (λ ts. IsRun nodes (h ∷ ts) (Some h)) split.2 is.run in
            let once : AreOnce (split.0 ++ p ∷ split.1) = subst AreOnce split.2 (round_once h tail is).1 in (
              split.1 ++ h ∷ split.0,
              record {
                run = runs_on nodes (p ∷ split.1) h split.0 (Some p) (run_back nodes (h ∷ split.0) p split.1 (Some h) whole) (run_front nodes (h ∷ split.0) p split.1 (Some h) whole);
                apart = λ q within. apart split.0 split.1 there once q (Contains-append_cases split.1 (h ∷ split.0) q within);
                among = λ q. (
                  λ e. in_turn (h ∷ split.0) (p ∷ split.1) q (subst (λ ts. Contains (h ∷ ts) q) split.2 ((is.among q).0 e)),
                  λ within. (is.among q).1 (subst (λ ts. Contains (h ∷ ts) q) (sym split.2) (in_turn (p ∷ split.1) (h ∷ split.0) q within)),
                );
                size =
                    let all : length tail ≡ length (split.0 ++ p ∷ split.1) = ap length split.2 in
                    omega (arith, all, is.size, length-append split.0 (p ∷ split.1), length-append split.1 (h ∷ split.0));
              },
            )

    -- each of its keys leads on
    pub leads_in_ring : IsRing numbers nodes c n → (p : Pointer) → label numbers nodes p ≡ Some c → IsSome (after_at nodes p)
    leads_in_ring ring p of = let from = ring_from ring p of in subst IsSome (sym from.1.run.1) (first_some from.0 p)

    -- there are no more keys of a set than there are keys
    pub no_more_keys : (slots : List (Option (ℕ × Node (Member P K)))) → ((q : Pointer) → nodes q ≡ look_up slots q) → IsRing numbers nodes c n → n ≤ entry_count slots
    no_more_keys slots read ring =
        let few : length (ring.0 ∷ ring.1) ≤ length (keys slots) =
        no_more (ring.0 ∷ ring.1) (keys slots) (round_once ring.0 ring.1 ring.2)
        (λ q within. live_key slots q (subst IsSome (read q) (run_there nodes (ring.0 ∷ ring.1) (Some ring.0) ring.2.run q within))) in
        omega (arith, many_keys slots, few, ring.2.size)

  -- a ring whose keys lead on as before, and are the same, is that ring
  pub ring_stays : (old new : Pointer → Option (Node (Member P K))) (c : Pointer) (n : ℕ)
      → ((q : Pointer) → label numbers old q ≡ Some c → (label numbers new q ≡ Some c) × (after_at new q ≡ after_at old q))
      → ((q : Pointer) → label numbers new q ≡ Some c → label numbers old q ≡ Some c) → IsRing numbers old c n → IsRing numbers new c n
  ring_stays old new c n still was ring = (
    ring.0,
    ring.1,
    record {
      run = run_stays old new (ring.0 ∷ ring.1) (Some ring.0) ring.2.run (λ q within. let here = still q ((ring.2.among q).1 within) in (labelled_there new q c here.0, here.1));
      apart = ring.2.apart;
      among = λ q. (λ e. (ring.2.among q).0 (was q e), λ within. (still q ((ring.2.among q).1 within)).0);
      size = ring.2.size;
    },
  )
