-- Two rings made one: each of two pointers leads on to what the other led to.
use Rattle.std.proofs.Common.{◌≡◌, ◌≢◌, Option, Some, None, IsSome, refl, sym, ap, ◌∙◌}
use Rattle.triple_arena_ptr.specs.Pointers.{Pointer}
use Rattle.triple_arena_chain.specs.Chains.{Node, after_at, before_at, IsLinked, IsCut, IsJoined}
use Rattle.triple_arena_chain.specs.laws.LinkLaws.{same_pointer, leads_on_there, leads_back_there}
use Rattle.triple_arena_chain.specs.laws.NodeLaws.{valued}
use Rattle.triple_arena_surject.specs.Rings.{IsSpliced}

module _ {T : Type 0} (old : Pointer → Option (Node T)) (linked : IsLinked old) (p q next then : Pointer) (apart : p ≢ q)
    (on_p : after_at old p ≡ Some next) (on_q : after_at old q ≡ Some then) where
  other_some : (a b : Pointer) → a ≢ b → Some a ≢ Some b
  other_some a b other e = other (same_pointer a b e)

  back : q ≢ p
  back e = apart (sym e)

  ends : then ≢ next
  ends e = apart (same_pointer p q (sym ((linked p next).0 on_p) ∙ sym (ap (before_at old) e) ∙ (linked q then).0 on_q))

  module _ (first : Pointer → Option (Node T)) (cut : IsCut old (Some p) (after_at old p) first) where
    still_on : after_at first q ≡ Some then
    still_on = cut.afters q (other_some p q apart) ∙ on_q

    module _ (second : Pointer → Option (Node T)) (cuts : IsCut first (Some q) (after_at first q) second) where
      stays : (r : Pointer) → IsSome (old r) → IsSome (second r)
      stays r some = valued (first r) (second r) (valued (old r) (first r) some (cut.values r)) (cuts.values r)

      pub then_there : IsSome (second then)
      then_there = stays then (leads_back_there old then q ((linked q then).0 on_q))

      pub then_open : before_at second then ≡ None
      then_open = cuts.before_next then still_on

      module _ (third : Pointer → Option (Node T)) (joined : IsJoined second p then third) where
        pub q_stays : IsSome (third q)
        q_stays = valued (second q) (third q) (stays q (leads_on_there old q then on_q)) (joined.values q)

        pub next_there : IsSome (third next)
        next_there = valued (second next) (third next) (stays next (leads_back_there old next p ((linked p next).0 on_p))) (joined.values next)

        pub q_open : after_at third q ≡ None
        q_open = joined.afters q (other_some p q apart) ∙ cuts.after_prev q refl

        pub next_open : before_at third next ≡ None
        next_open =
            joined.befores next (other_some then next ends)
            ∙ cuts.befores next (λ e. ends (same_pointer then next (sym still_on ∙ e)))
            ∙ cut.before_next next on_p

        pub spliced : (new : Pointer → Option (Node T)) → IsJoined third q next new → IsSpliced old p q new
        spliced new joins =
            record {
              values = λ r. joins.values r ∙ joined.values r ∙ cuts.values r ∙ cut.values r;
              first = joins.afters p (other_some q p back) ∙ joined.after_prev p refl ∙ sym on_q;
              second = joins.after_prev q refl ∙ sym on_p;
              others = λ r far away.
                  let not_p : Some p ≢ Some r = λ e. far (sym (same_pointer p r e)) in
                  let not_q : Some q ≢ Some r = λ e. away (sym (same_pointer q r e)) in
                  joins.afters r not_q ∙ joined.afters r not_p ∙ cuts.afters r not_q ∙ cut.afters r not_p;
            }
