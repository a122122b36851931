-- A ring that is gone along from one of its keys on, and whose keys come to be of another set, one by one.
use Rattle.std.specs.Prelude.{List, [], ◌∷◌, ◌++◌, Contains}
use Rattle.std.proofs.Common.{◌≡◌, ◌≢◌, ◌+◌, ◌<◌, ◌≤◌, ℕ, inl, inr, length, Option, Some, IsSome, refl, sym, ap, ◌∙◌, subst, arith, append_assoc, length-append}
use Rattle.std.proofs.lemmas.List.{append-nil, nil_from_length}
use Rattle.std.proofs.lemmas.List.Elements.{Contains-append_left, Contains-push, Contains-push_cases}
use Rattle.std.specs.Option.{option_map}
use Rattle.triple_arena_ptr.specs.Pointers.{Pointer}
use Rattle.triple_arena_chain.specs.Chains.{Node, value_at, after_at, first_of, IsLinked, IsRun, AreOnce}
use Rattle.triple_arena_chain.specs.laws.LinkLaws.{same_pointer}
use Rattle.triple_arena_chain.specs.laws.RunLaws.{in_head, run_back}
use Rattle.triple_arena_chain.specs.laws.OnceLaws.{once_before}
use Rattle.triple_arena_surject.specs.declared.member.Member.{Member}
use Rattle.triple_arena_surject.specs.Rings.{label, with_set, IsRound}
use Rattle.triple_arena_surject.proofs.Rounds.{first_some, round_once}

module _ {P K : Type 0} (numbers : P → Pointer) where
  -- these keys of a ring, from this one on, are passed, and next is this one
  pub record IsAlong (nodes : Pointer → Option (Node (Member P K))) (n : ℕ) (from at : Pointer) (done : List Pointer) : Type 0 where
    pub name : Pointer
    pub rest : List Pointer
    pub round : IsRound numbers nodes name n from rest
    pub once : AreOnce (from ∷ rest)
    pub todo : List Pointer
    pub parts : from ∷ rest ≡ done ++ todo
    pub next : first_of todo (Some from) ≡ Some at

  pub along_none : (nodes : Pointer → Option (Node (Member P K))) → IsLinked nodes → (c : Pointer) (n : ℕ) (from : Pointer) (rest : List Pointer)
      → IsRound numbers nodes c n from rest → IsAlong nodes n from from []
  along_none nodes linked c n from rest is =
      record { name = c; rest = rest; round = is; once = round_once numbers nodes linked c n from rest is; todo = from ∷ rest; parts = refl; next = refl }

  module _ (nodes : Pointer → Option (Node (Member P K))) (n : ℕ) (from at : Pointer) (done : List Pointer) (is : IsAlong nodes n from at done) where
    all : n ≡ length done + length is.todo
    all = let whole : length (from ∷ is.rest) ≡ length (done ++ is.todo) = ap length is.parts in omega (arith, whole, is.round.size, length-append done is.todo)

    next_of : (todo : List Pointer) → first_of todo (Some from) ≡ Some at → length todo ≢ 0 → (more : List Pointer) × (todo ≡ at ∷ more)
    next_of [] e some = absurd (some refl)
    next_of (t ∷ ts) e some = (ts, ap (λ x. x ∷ ts) (same_pointer t at e))

    module _ (less : length done < n) where
      abbrev left : (more : List Pointer) × (is.todo ≡ at ∷ more)
      left = next_of is.todo is.next (λ none. omega (arith, all, none, less))

      whole : from ∷ is.rest ≡ done ++ at ∷ left.0
      whole = is.parts ∙ ap (λ ts. done ++ ts) left.1

      leads : after_at nodes at ≡ first_of left.0 (Some from)
      leads = (run_back nodes done at left.0 (Some from) (subst (λ ps. IsRun nodes ps (Some from)) whole is.round.run)).1

      -- it leads on to another
      pub leads_along : IsSome (after_at nodes at)
      leads_along = subst IsSome (sym leads) (first_some left.0 from)

      pub not_done : Contains done at → ⊥
      not_done within = once_before done at left.0 (subst AreOnce whole is.once) at within refl

      pub along_more : (then : Pointer) → after_at nodes at ≡ Some then → IsAlong nodes n from then (done ++ at ∷ [])
      along_more then on =
          record {
            name = is.name;
            rest = is.rest;
            round = is.round;
            once = is.once;
            todo = left.0;
            parts = whole ∙ sym (append_assoc done (at ∷ []) left.0);
            next = sym leads ∙ on;
          }

    pub along_all : n ≤ length done → done ≡ from ∷ is.rest
    along_all many = sym (append-nil done) ∙ ap (λ ts. done ++ ts) (sym (nil_from_length is.todo (omega (arith, all, many)))) ∙ sym is.parts

  -- so many of them are of another set
  pub record IsPart (old cur : Pointer → Option (Node (Member P K))) (n : ℕ) (from at : Pointer) (set : P) (i : ℕ) : Type 0 where
    pub done : List Pointer
    pub count : length done ≡ i
    pub along : IsAlong old n from at done
    pub moved : (q : Pointer) → Contains done q → value_at cur q ≡ option_map (with_set set) (value_at old q)
    pub others : (q : Pointer) → (Contains done q → ⊥) → value_at cur q ≡ value_at old q
    pub afters : (q : Pointer) → after_at cur q ≡ after_at old q

  module _ (old cur : Pointer → Option (Node (Member P K))) (n : ℕ) (from at : Pointer) (set : P) (i : ℕ) (part : IsPart old cur n from at set i) where
    module _ (less : i < n) where
      fewer : length part.done < n
      fewer = omega (arith, part.count, less)

      pub leads_on : IsSome (after_at cur at)
      leads_on = subst IsSome (sym (part.afters at)) (leads_along old n from at part.done part.along fewer)

      pub one_more : (then : Pointer) (new : Pointer → Option (Node (Member P K))) → after_at new at ≡ Some then
          → value_at new at ≡ option_map (with_set set) (value_at cur at) → ((q : Pointer) → q ≢ at → value_at new q ≡ value_at cur q)
          → ((q : Pointer) → after_at new q ≡ after_at cur q) → IsPart old new n from then set (i + 1)
      one_more then new on there away same =
          record {
            done = part.done ++ at ∷ [];
            count = omega (arith, part.count, length-append part.done (at ∷ []));
            along = along_more old n from at part.done part.along fewer then (sym (part.afters at) ∙ sym (same at) ∙ on);
            moved = λ q within. elim (Contains-push_cases part.done at q within) [
              | inl before ↦ away q (λ e. not_done old n from at part.done part.along fewer (subst (Contains part.done) e before)) ∙ part.moved q before
              | inr is ↦
                  subst (λ r. value_at new r ≡ option_map (with_set set) (value_at old r)) is
                  (there ∙ ap (option_map (with_set set)) (part.others at (not_done old n from at part.done part.along fewer)))
            ];
            others = λ q other.
                away q (λ e. other (subst (Contains (part.done ++ at ∷ [])) (sym e) (Contains-push part.done at)))
                ∙ part.others q (λ before. other (Contains-append_left part.done (at ∷ []) q before));
            afters = λ q. same q ∙ part.afters q;
          }

    module _ (many : n ≤ i) where
      done_is : part.done ≡ from ∷ part.along.rest
      done_is = along_all old n from at part.done part.along (omega (arith, many, part.count))

      from_is : label numbers old from ≡ Some part.along.name
      from_is = (part.along.round.among from).1 (in_head from part.along.rest)

      -- all keys of the set are moved, and no other is
      pub moved_all : (q : Pointer) → label numbers old q ≡ label numbers old from → value_at cur q ≡ option_map (with_set set) (value_at old q)
      moved_all q of = part.moved q (subst (λ ps. Contains ps q) (sym done_is) ((part.along.round.among q).0 (of ∙ from_is)))

      pub others_stay : (q : Pointer) → label numbers old q ≢ label numbers old from → value_at cur q ≡ value_at old q
      others_stay q other = part.others q (λ within. other ((part.along.round.among q).1 (subst (λ ps. Contains ps q) done_is within) ∙ sym from_is))
