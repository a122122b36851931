-- Neighbours lead to each other after each call, as they did before.
use Rattle.std.proofs.Common.{◌≡◌, ◌≢◌, ◌⊎◌, Option, Some, None, IsSome, sym, ap, ◌∙◌, subst, inl, inr, rules}
use Rattle.std.specs.Option.{option_and_then}
use Rattle.std.proofs.lemmas.Bool.{cases_eq}
use Rattle.triple_arena_ptr.specs.Pointers.{Pointer}
use Rattle.triple_arena.specs.laws.PointerListLaws.{pointer_is}
use Rattle.triple_arena_chain.specs.Chains.{Node, after_at, before_at, IsLinked, IsInserted, IsRemoved, IsBetween, IsJoined, IsCut, IsThere, place_at, place_before, place_after}
use Rattle.triple_arena_chain.specs.declared.place.Place.{Place}
use Rattle.triple_arena_chain.specs.declared.place.Place.TheVariants.{After, Before}

pub same_pointer : (p q : Pointer) → Some p ≡ Some q → p ≡ q
same_pointer p q e = cc

pub pointer_cases : (p q : Pointer) → (p ≡ q) ⊎ (p ≢ q)
pointer_cases p q =
    elim (cases_eq p.0 q.0) [
      | inl i ↦ elim (cases_eq p.1 q.1) [
        | inl h ↦ inl (pointer_is p.0 p.1 q.0 q.1 i h)
        | inr h ↦ inr (λ e. h (ap (λ (r : Pointer). r.1) e))
      ]
      | inr i ↦ inr (λ e. i (ap (λ (r : Pointer). r.0) e))
    ]

pub leads_cases : (o : Option Pointer) (p : Pointer) → (o ≡ Some p) ⊎ (o ≢ Some p)
leads_cases None p = inr (λ e. absurd (cc))
leads_cases (Some q) p =
    elim (pointer_cases q p) [
      | inl same ↦ inl (ap Some same)
      | inr other ↦ inr (λ e. other (same_pointer q p e))
    ]

-- one direction: what leads on is led back to
module _ (f g f' g' : Pointer → Option Pointer) (linked : (a b : Pointer) → f a ≡ Some b → g b ≡ Some a) where
  inserted_back : (back : (a b : Pointer) → g b ≡ Some a → f a ≡ Some b) (prev next : Option Pointer) (q : Pointer)
      → f q ≡ None → g q ≡ None → f' q ≡ next → g' q ≡ prev
      → ((p : Pointer) → prev ≡ Some p → f' p ≡ Some q) → ((r : Pointer) → r ≢ q → prev ≢ Some r → f' r ≡ f r)
      → ((n : Pointer) → next ≡ Some n → g' n ≡ Some q) → ((r : Pointer) → r ≢ q → next ≢ Some r → g' r ≡ g r)
      → ((n : Pointer) → next ≡ Some n → g n ≡ prev)
      → (a b : Pointer) → f' a ≡ Some b → g' b ≡ Some a
  inserted_back back prev next q f_none g_none f_q g_q f_prev f_others g_next g_others between a b leads =
      elim (pointer_cases a q) [
        | inl here ↦ g_next b (sym f_q ∙ ap f' (sym here) ∙ leads) ∙ ap Some (sym here)
        | inr other ↦ elim (leads_cases prev a) [
          | inl before ↦
              let at : b ≡ q = same_pointer b q (sym leads ∙ f_prev a before) in
              ap g' at ∙ g_q ∙ before
          | inr far ↦
              let led : g b ≡ Some a = linked a b (sym (f_others a other far) ∙ leads) in
              let away : b ≢ q = λ e. some_not_none (sym led ∙ ap g e ∙ g_none) in
              let apart : next ≢ Some b = λ e. far (sym (between b e) ∙ led) in
              g_others b away apart ∙ led
        ]
      ]
    where
      some_not_none : {x : Pointer} → Some x ≡ None → ⊥
      some_not_none e = absurd (cc)

  removed_back : (back : (a b : Pointer) → g b ≡ Some a → f a ≡ Some b) (p : Pointer)
      → f' p ≡ None → g' p ≡ None
      → ((a : Pointer) → a ≢ p → g p ≡ Some a → f' a ≡ f p) → ((r : Pointer) → r ≢ p → g p ≢ Some r → f' r ≡ f r)
      → ((b : Pointer) → b ≢ p → f p ≡ Some b → g' b ≡ g p) → ((r : Pointer) → r ≢ p → f p ≢ Some r → g' r ≡ g r)
      → (a b : Pointer) → f' a ≡ Some b → g' b ≡ Some a
  removed_back back p f_none g_none f_prev f_others g_next g_others a b leads =
      let apart : a ≢ p = λ e. some_not_none (sym leads ∙ ap f' e ∙ f_none) in
      elim (leads_cases (g p) a) [
        | inl before ↦
            let led : f p ≡ Some b = sym (f_prev a apart before) ∙ leads in
            let away : b ≢ p = λ e. apart (same_pointer a p (sym before ∙ linked p p (led ∙ ap Some e))) in
            g_next b away led ∙ before
        | inr far ↦
            let led : g b ≡ Some a = linked a b (sym (f_others a apart far) ∙ leads) in
            let away : b ≢ p = λ e. far (ap g (sym e) ∙ led) in
            let other : f p ≢ Some b = λ e. apart (same_pointer a p (sym led ∙ linked p b e)) in
            g_others b away other ∙ led
      ]
    where
      some_not_none : {x : Pointer} → Some x ≡ None → ⊥
      some_not_none e = absurd (cc)

  joined_back : (last first : Pointer) → g first ≡ None
      → ((p : Pointer) → Some last ≡ Some p → f' p ≡ Some first) → ((r : Pointer) → Some last ≢ Some r → f' r ≡ f r)
      → ((n : Pointer) → Some first ≡ Some n → g' n ≡ Some last) → ((r : Pointer) → Some first ≢ Some r → g' r ≡ g r)
      → (a b : Pointer) → f' a ≡ Some b → g' b ≡ Some a
  joined_back last first g_none f_last f_others g_first g_others a b leads =
      elim (pointer_cases last a) [
        | inl here ↦
            let at : first ≡ b = same_pointer first b (sym (f_last a (ap Some here)) ∙ leads) in
            g_first b (ap Some at) ∙ ap Some here
        | inr other ↦
            let led : g b ≡ Some a = linked a b (sym (f_others a (λ e. other (same_pointer last a e))) ∙ leads) in
            let away : Some first ≢ Some b = λ e. some_not_none (sym led ∙ ap g (sym (same_pointer first b e)) ∙ g_none) in
            g_others b away ∙ led
      ]
    where
      some_not_none : {x : Pointer} → Some x ≡ None → ⊥
      some_not_none e = absurd (cc)

  cut_back : (prev next : Option Pointer)
      → ((p : Pointer) → prev ≡ Some p → f' p ≡ None) → ((r : Pointer) → prev ≢ Some r → f' r ≡ f r)
      → ((r : Pointer) → next ≢ Some r → g' r ≡ g r)
      → ((n : Pointer) → next ≡ Some n → g n ≡ prev)
      → (a b : Pointer) → f' a ≡ Some b → g' b ≡ Some a
  cut_back prev next f_prev f_others g_others between a b leads =
      let apart : prev ≢ Some a = λ e. some_not_none (sym leads ∙ f_prev a e) in
      let led : g b ≡ Some a = linked a b (sym (f_others a apart) ∙ leads) in
      let away : next ≢ Some b = λ e. apart (sym (between b e) ∙ led) in
      g_others b away ∙ led
    where
      some_not_none : {x : Pointer} → Some x ≡ None → ⊥
      some_not_none e = absurd (cc)

module _ {T : Type 0} where
  pub linked_inserted : (old : Pointer → Option (Node T)) (prev next : Option Pointer) (q : Pointer) (value : T) (new : Pointer → Option (Node T)) → IsLinked old → IsBetween old prev next → IsInserted old prev next q value new → IsLinked new
  linked_inserted old prev next q value new linked between done p r =
      let f_none : after_at old q ≡ None = ap (option_and_then (λ (node : Node T). node.after)) done.free in
      let g_none : before_at old q ≡ None = ap (option_and_then (λ (node : Node T). node.before)) done.free in
      let f_q : after_at new q ≡ next = ap (option_and_then (λ (node : Node T). node.after)) done.found in
      let g_q : before_at new q ≡ prev = ap (option_and_then (λ (node : Node T). node.before)) done.found in (
        inserted_back (after_at old) (before_at old) (after_at new) (before_at new) (λ a b. (linked a b).0) (λ a b. (linked a b).1) prev next q f_none g_none f_q g_q done.after_prev done.afters done.before_next done.befores between.before_next p r,
        inserted_back (before_at old) (after_at old) (before_at new) (after_at new) (λ a b. (linked b a).1) (λ a b. (linked b a).0) next prev q g_none f_none g_q f_q done.before_next done.befores done.after_prev done.afters between.after_prev r p,
      )

  pub linked_removed : (old : Pointer → Option (Node T)) (p : Pointer) (new : Pointer → Option (Node T)) → IsLinked old → IsRemoved old p new → IsLinked new
  linked_removed old p new linked done a b =
      let f_none : after_at new p ≡ None = ap (option_and_then (λ (node : Node T). node.after)) done.gone in
      let g_none : before_at new p ≡ None = ap (option_and_then (λ (node : Node T). node.before)) done.gone in (
        removed_back (after_at old) (before_at old) (after_at new) (before_at new) (λ a b. (linked a b).0) (λ a b. (linked a b).1) p f_none g_none done.after_prev done.afters done.before_next done.befores a b,
        removed_back (before_at old) (after_at old) (before_at new) (after_at new) (λ a b. (linked b a).1) (λ a b. (linked b a).0) p g_none f_none done.before_next done.befores done.after_prev done.afters b a,
      )

  pub linked_joined : (old : Pointer → Option (Node T)) (last first : Pointer) (new : Pointer → Option (Node T)) → IsLinked old → after_at old last ≡ None → before_at old first ≡ None → IsJoined old last first new → IsLinked new
  linked_joined old last first new linked f_none g_none done a b = (
    joined_back (after_at old) (before_at old) (after_at new) (before_at new) (λ a b. (linked a b).0) last first g_none done.after_prev done.afters done.before_next done.befores a b,
    joined_back (before_at old) (after_at old) (before_at new) (after_at new) (λ a b. (linked b a).1) first last f_none done.before_next done.befores done.after_prev done.afters b a,
  )

  pub linked_cut : (old : Pointer → Option (Node T)) (prev next : Option Pointer) (new : Pointer → Option (Node T)) → IsLinked old → IsBetween old prev next → IsCut old prev next new → IsLinked new
  linked_cut old prev next new linked between done a b = (
    cut_back (after_at old) (before_at old) (after_at new) (before_at new) (λ a b. (linked a b).0) prev next done.after_prev done.afters done.befores between.before_next a b,
    cut_back (before_at old) (after_at old) (before_at new) (after_at new) (λ a b. (linked b a).1) next prev done.before_next done.befores done.afters between.after_prev b a,
  )

  -- what leads on, and what leads back, is there
  pub leads_on_there : (nodes : Pointer → Option (Node T)) (p q : Pointer) → after_at nodes p ≡ Some q → IsSome (nodes p)
  leads_on_there nodes p q leads = by_node (nodes p) leads
    where
      by_node : (o : Option (Node T)) → option_and_then (λ node. node.after) o ≡ Some q → IsSome o
      by_node None e = absurd (cc)
      by_node (Some node) e = search rules

  pub leads_back_there : (nodes : Pointer → Option (Node T)) (p q : Pointer) → before_at nodes p ≡ Some q → IsSome (nodes p)
  leads_back_there nodes p q leads = by_node (nodes p) leads
    where
      by_node : (o : Option (Node T)) → option_and_then (λ node. node.before) o ≡ Some q → IsSome o
      by_node None e = absurd (cc)
      by_node (Some node) e = search rules

  -- the neighbours at a pointer that is found are there, and an entry fits between
  module _ (nodes : Pointer → Option (Node T)) (linked : IsLinked nodes) (p : Pointer) (there : IsSome (nodes p)) where
    pub itself_there : IsThere nodes (Some p)
    itself_there q e = subst (λ r. IsSome (nodes r)) (same_pointer p q e) there

    pub after_there : IsThere nodes (after_at nodes p)
    after_there q e = leads_back_there nodes q p ((linked p q).0 e)

    pub before_there : IsThere nodes (before_at nodes p)
    before_there q e = leads_on_there nodes q p ((linked q p).1 e)

    pub between_after : IsBetween nodes (Some p) (after_at nodes p)
    between_after = record {
      after_prev = λ q e. ap (after_at nodes) (sym (same_pointer p q e));
      before_next = λ n e. (linked p n).0 e;
    }

    pub between_before : IsBetween nodes (before_at nodes p) (Some p)
    between_before = record {
      after_prev = λ q e. (linked q p).1 e;
      before_next = λ n e. ap (before_at nodes) (sym (same_pointer p n e));
    }

  pub between_none : (nodes : Pointer → Option (Node T)) → IsBetween nodes None None
  between_none nodes = record { after_prev = λ p e. absurd (cc); before_next = λ n e. absurd (cc) }

  pub none_there : (nodes : Pointer → Option (Node T)) → IsThere nodes None
  none_there nodes p e = absurd (cc)

-- the neighbours at a place whose pointer is found are there, and an entry fits between
module _ {P T : Type 0} (numbers : P → Pointer) (nodes : Pointer → Option (Node T)) (linked : IsLinked nodes) where
  pub place_before_there : (place : Place P) → IsSome (nodes (place_at numbers place)) → IsThere nodes (place_before numbers nodes place)
  place_before_there (After p) there = itself_there nodes linked (numbers p) there
  place_before_there (Before p) there = before_there nodes linked (numbers p) there

  pub place_after_there : (place : Place P) → IsSome (nodes (place_at numbers place)) → IsThere nodes (place_after numbers nodes place)
  place_after_there (After p) there = after_there nodes linked (numbers p) there
  place_after_there (Before p) there = itself_there nodes linked (numbers p) there

  pub place_between : (place : Place P) → IsSome (nodes (place_at numbers place)) → IsBetween nodes (place_before numbers nodes place) (place_after numbers nodes place)
  place_between (After p) there = between_after nodes linked (numbers p) there
  place_between (Before p) there = between_before nodes linked (numbers p) there
