-- What a call on chains tells of a wrap is what the arena told.
use Rattle.std.proofs.Common.{◌≡◌, ◌||◌, not, ℕ, Bool, true, false, List, [], ◌∷◌, ◌++◌, map, Option, Some, None, IsSome, refl, sym, ap, subst, ◌∙◌}
use Rattle.triple_arena_base.specs.Invalidation.{is_invalid, is_success_option, allowed_option, overflowing_option, as_option}
use Rattle.triple_arena_base.specs.declared.invalidation.InvalidationOption.{InvalidationOption}
use Rattle.triple_arena_base.specs.declared.invalidation.InvalidationOption.TheVariants.{Success, GenerationOverflow}
use Rattle.triple_arena_ptr.specs.Numbers.{Generations}
use Rattle.triple_arena_ptr.specs.Pointers.{Pointer}
use Rattle.triple_arena.specs.Ending.{told, told_of}
use Rattle.triple_arena.specs.Histories.{History, removal, and_then, followed_by}
use Rattle.triple_arena_chain.specs.Endings.{with_values, EndsAt, EndInTurn, EndsEntry, EndsEntries}

module _ {X : Type 0} where
  pub not_invalid : (wrapped : Bool) (o : Option X) → IsSome o → is_invalid (told_of wrapped o) ≡ false
  not_invalid wrapped None some = absurd (cc)
  not_invalid true (Some x) some = refl
  not_invalid false (Some x) some = refl

  -- what was told of what a pointer finds, where it finds something
  pub told_there : (wrapped : Bool) (o : Option X) (answer : InvalidationOption X) → Some answer ≡ as_option (told_of wrapped o) → (o ≡ Some (allowed_option answer)) × (answer ≡ told wrapped (allowed_option answer))
  told_there wrapped None answer is = absurd (cc)
  told_there true (Some x) answer is =
      let same : GenerationOverflow x ≡ answer = cc in
      (ap (λ a. Some (allowed_option a)) same, sym same ∙ ap (λ a. told true (allowed_option a)) same)
  told_there false (Some x) answer is =
      let same : Success x ≡ answer = cc in
      (ap (λ a. Some (allowed_option a)) same, sym same ∙ ap (λ a. told false (allowed_option a)) same)

  -- the parts of what was told
  pub told_parts : (wrapped : Bool) (answer : InvalidationOption X) (parts : X × Bool) → answer ≡ told wrapped (allowed_option answer) → parts ≡ overflowing_option answer → (parts.0 ≡ allowed_option answer) × (parts.1 ≡ wrapped)
  told_parts wrapped answer parts is over =
      let both : parts ≡ (allowed_option answer, wrapped) = over ∙ ap overflowing_option is ∙ by_test wrapped (allowed_option answer) in
      (ap (λ (z : X × Bool). z.0) both, ap (λ (z : X × Bool). z.1) both)
    where
      by_test : (b : Bool) (x : X) → overflowing_option (told b x) ≡ (x, b)
      by_test true x = refl
      by_test false x = refl

  pub allowed_told : (wrapped : Bool) (x : X) → allowed_option (told wrapped x) ≡ x
  allowed_told true x = refl
  allowed_told false x = refl

  pub wrap_told : (wrapped : Bool) (x : X) → not (is_success_option (told wrapped x)) ≡ wrapped
  wrap_told true x = refl
  wrap_told false x = refl

-- the wrap among the parts of what was told
pub wrap_is : {X : Type 0} (told : InvalidationOption X) (parts : X × Bool) → parts ≡ overflowing_option told → parts.1 ≡ not (is_success_option told)
wrap_is {X = X} told parts is = ap (λ (z : X × Bool). z.1) is ∙ by_case told
  where
    by_case : (told : InvalidationOption X) → (overflowing_option told).1 ≡ not (is_success_option told)
    by_case (Success x) = refl
    by_case (GenerationOverflow x) = refl

pub neither : (a b : Bool) → (a || b) ≡ false → (a ≡ false) × (b ≡ false)
neither true b e = absurd (cc)
neither false b e = (refl, e)

-- one more removal, after some
pub one_more : (h : History) (gone : List Pointer) (p : Pointer) → followed_by h (map removal (gone ++ p ∷ [])) ≡ and_then (followed_by h (map removal gone)) (removal p)
one_more h [] p = refl
one_more h (q ∷ gone) p = one_more (and_then h (removal q)) gone p

module _ {A X : Type 0} (with_value : A → ℕ → X → A) where
  -- values that are written after others
  pub written_after : (arena : A) (ws vs : List (ℕ × X)) → with_values with_value arena (ws ++ vs) ≡ with_values with_value (with_values with_value arena ws) vs
  written_after arena [] vs = refl
  written_after arena (w ∷ ws) vs = written_after (with_value arena w.0 w.1) ws vs

  -- one more ending, after some
  module _ (removes : A → ℕ → A → Type 0) (wraps : A → Bool) where
    pub ends_then : (old : A) (gone : List Pointer) (wrapped : Bool) (cur : A) (p : Pointer) (new : A) → EndInTurn removes with_value wraps old gone wrapped cur
        → EndsAt removes with_value cur p.0 new → EndInTurn removes with_value wraps old (gone ++ p ∷ []) (wrapped || wraps cur) new
    ends_then old [] wrapped cur p new is ends = (
      new,
      false,
      subst (λ a. EndsAt removes with_value a p.0 new) is.1 ends,
      (refl, refl),
      ap (λ b. b || wraps cur) is.0 ∙ ap wraps is.1 ∙ or_false (wraps old),
    )
      where
        or_false : (b : Bool) → b ≡ (b || false)
        or_false true = refl
        or_false false = refl
    ends_then old (q ∷ gone) wrapped cur p new (next, later, first, rest, is) ends = (
      next,
      later || wraps cur,
      first,
      ends_then next gone later cur p new rest ends,
      ap (λ b. b || wraps cur) is ∙ or_assoc (wraps old) later (wraps cur),
    )
      where
        or_assoc : (a b c : Bool) → ((a || b) || c) ≡ (a || (b || c))
        or_assoc true b c = refl
        or_assoc false b c = refl

    -- and as one record with its history
    module _ (fits : History → A → Type 0) (generations : Generations) where
      pub none_ends : (old : A) → EndsEntries removes with_value fits generations wraps old false old
      none_ends old = record { gone = []; wrap = (refl, refl); history = λ up h fits. fits }

      pub entry_ends_then : (old : A) (wrapped : Bool) (cur : A) (p : Pointer) (wraps_now : Bool) (new : A) → wraps_now ≡ wraps cur
          → EndsEntries removes with_value fits generations wraps old wrapped cur → EndsEntry removes with_value fits generations (wraps cur) cur p new
          → EndsEntries removes with_value fits generations wraps old (wrapped || wraps_now) new
      entry_ends_then old wrapped cur p wraps_now new now before one = record {
        gone = before.gone ++ p ∷ [];
        wrap = subst (λ w. EndInTurn removes with_value wraps old (before.gone ++ p ∷ []) (wrapped || w) new) (sym now) (ends_then old before.gone wrapped cur p new before.wrap one.ended);
        history = λ up h fit.
            let parts = neither wrapped wraps_now up.1 in
            subst (λ k. fits k new) (sym (one_more h before.gone p)) (one.history (up.0, sym now ∙ parts.1) _ (before.history (up.0, parts.0) h fit));
      }
