-- Chains that are cut, and joined.
use Rattle.std.proofs.Common.{◌≡◌, false, Option, Some, None, is_some, IsSome, refl, sym, ap, ◌∙◌, subst, true≢false}
use Rattle.std.specs.Option.{option_and_then}
use Rattle.triple_arena_ptr.specs.Pointers.{Pointer}
use Rattle.triple_arena_chain.specs.Chains.{Node, after_at, before_at, changed, with_after, with_before, IsLinked, IsCut, IsJoined}
use Rattle.triple_arena_chain.specs.laws.LinkLaws.{linked_cut, linked_joined, itself_there, after_there, before_there, between_after, between_before}
use Rattle.triple_arena_chain.proofs.Tying.{is_tied}

module _ {T : Type 0} (old new : Pointer → Option (Node T)) (linked : IsLinked old) where
  there_is : (p : Pointer) (node : Node T) → old p ≡ Some node → IsSome (old p)
  there_is p node is = subst IsSome (sym is) refl

  pub cut_after_is : (p : Pointer) (node : Node T) → old p ≡ Some node
      → ((q : Pointer) → new q ≡ changed node.after (with_before None) q (changed (Some p) (with_after None) q (old q)))
      → IsCut old (Some p) (after_at old p) new × IsLinked new × IsSome (old p)
  cut_after_is p node is tied =
      let there = there_is p node is in
      let next : after_at old p ≡ node.after = ap (option_and_then (λ (n : Node T). n.after)) is in
      let cut : IsCut old (Some p) (after_at old p) new =
      is_tied old new (Some p) (after_at old p) None None
      (λ q. tied q ∙ ap (λ n. changed n (with_before None) q (changed (Some p) (with_after None) q (old q))) (sym next))
      (itself_there old linked p there) (after_there old linked p there) in
      (cut, linked_cut old (Some p) (after_at old p) new linked (between_after old linked p there) cut, there)

  pub cut_before_is : (p : Pointer) (node : Node T) → old p ≡ Some node
      → ((q : Pointer) → new q ≡ changed (Some p) (with_before None) q (changed node.before (with_after None) q (old q)))
      → IsCut old (before_at old p) (Some p) new × IsLinked new × IsSome (old p)
  cut_before_is p node is tied =
      let there = there_is p node is in
      let prev : before_at old p ≡ node.before = ap (option_and_then (λ (n : Node T). n.before)) is in
      let cut : IsCut old (before_at old p) (Some p) new =
      is_tied old new (before_at old p) (Some p) None None
      (λ q. tied q ∙ ap (λ n. changed (Some p) (with_before None) q (changed n (with_after None) q (old q))) (sym prev))
      (before_there old linked p there) (itself_there old linked p there) in
      (cut, linked_cut old (before_at old p) (Some p) new linked (between_before old linked p there) cut, there)

  pub joined_is : (last first : Pointer) (end start : Node T) → old last ≡ Some end → old first ≡ Some start → end.after ≡ None → start.before ≡ None
      → ((q : Pointer) → new q ≡ changed (Some first) (with_before (Some last)) q (changed (Some last) (with_after (Some first)) q (old q)))
      → IsJoined old last first new × IsLinked new × (after_at old last ≡ None) × (before_at old first ≡ None)
  joined_is last first end start last_is first_is no_after no_before tied =
      let open_after : after_at old last ≡ None = ap (option_and_then (λ (n : Node T). n.after)) last_is ∙ no_after in
      let open_before : before_at old first ≡ None = ap (option_and_then (λ (n : Node T). n.before)) first_is ∙ no_before in
      let joined : IsJoined old last first new =
      is_tied old new (Some last) (Some first) (Some first) (Some last) tied
      (itself_there old linked last (there_is last end last_is)) (itself_there old linked first (there_is first start first_is)) in
      (joined, linked_joined old last first new linked open_after open_before joined, open_after, open_before)

-- a test found nothing
pub none_of : {A : Type 0} (o : Option A) → false ≡ is_some o → o ≡ None
none_of None e = refl
none_of (Some x) e = absurd (true≢false (sym e))
