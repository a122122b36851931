-- Walks over an arena that gives each entry a new pointer meanwhile.
use Rattle.std.proofs.Common.{◌≡◌, ◌≢◌, ℕ, ◌+◌, ◌≤◌, zero, suc, List, [], ◌∷◌, ◌++◌, map, All, Bool, true, false, Option, Some, None, IsSome, refl, sym, ap, subst, ◌∙◌, inl, inr, ◌⊎◌, true≢false, arith}
use Rattle.std.proofs.lemmas.Bool.{cases_eq}
use Rattle.std.proofs.lemmas.List.{map_push}
use Rattle.std.proofs.lemmas.List.Elements.{All-nil, All-cons, All-push}
use Rattle.std.specs.Option.{option_map}
use Rattle.triple_arena_base.specs.declared.invalidation.InvalidationOption.{InvalidationOption}
use Rattle.triple_arena_base.specs.declared.invalidation.InvalidationResult.{InvalidationResult}
use Rattle.triple_arena_base.specs.declared.invalidation.InvalidationResult.TheVariants.{Success, GenerationOverflow, InvalidPtr}
use Rattle.triple_arena_base.specs.Invalidation.{as_option, allowed_option}
use Rattle.triple_arena_ptr.specs.Pointers.{Pointer}
use Rattle.triple_arena.specs.Entries.{entry_in, look_up, ChangesAt}
use Rattle.triple_arena.specs.Ending.{told_of, map_told}
use Rattle.triple_arena.specs.FreeList.{IsRising}
use Rattle.triple_arena.specs.Walks.{Stand, Steps, Walk, IsAtFirst}
use Rattle.triple_arena.specs.laws.WalkLaws.{walk_more, rises_from}

some_same : {A : Type 0} {x y : A} → Some x ≡ Some y → x ≡ y
some_same e = cc

rises_below : (low : ℕ) (is : List ℕ) (i : ℕ) → IsRising low (is ++ i ∷ []) → low ≤ i
rises_below low [] i rising = rising.0
rises_below low (j ∷ is) i rising = omega (arith, rising.0, rises_below (j + 1) is i rising.1)

module _ {T : Type 0} where
  -- a walk from the first entry on has answered these indexes, and no entry has gone meanwhile
  pub record HasAnswered (greatest : ℕ) (old slots : List (Option (ℕ × T))) (s : Stand) (told : List ℕ) : Type 0 where
    pub from : Stand
    pub first : IsAtFirst old from
    pub turns : List (List (Option (ℕ × T)) × Pointer)
    pub walk : Walk greatest from turns s
    pub answers : map (λ turn. turn.1.0) turns ≡ told
    pub lived : (i : ℕ) → IsSome (entry_in old i) → All (λ turn. IsSome (entry_in turn.0 i)) turns
    pub live : (i : ℕ) → IsSome (entry_in old i) → IsSome (entry_in slots i)

  pub none_answered : (greatest : ℕ) (slots : List (Option (ℕ × T))) (s : Stand) → IsAtFirst slots s → HasAnswered greatest slots slots s []
  none_answered greatest slots s first =
      record { from = s; first = first; turns = []; walk = refl; answers = refl; lived = λ i live. All-nil (λ turn. IsSome (entry_in turn.0 i)); live = λ i live. live }

  pub one_answered : (greatest : ℕ) (old slots left : List (Option (ℕ × T))) (b : Stand) (p : Pointer) (a : Stand) (told : List ℕ) → HasAnswered greatest old slots b told → Steps greatest slots b (Some p) a → ((i : ℕ) → IsSome (entry_in slots i) → IsSome (entry_in left i)) → HasAnswered greatest old left a (told ++ p.0 ∷ [])
  one_answered greatest old slots left b p a told so_far s stay =
      record {
        from = so_far.from;
        first = so_far.first;
        turns = so_far.turns ++ (slots, p) ∷ [];
        walk = walk_more greatest so_far.from so_far.turns b slots p a so_far.walk s;
        answers = map_push (λ turn. turn.1.0) so_far.turns (slots, p) ∙ ap (λ is. is ++ p.0 ∷ []) so_far.answers;
        lived = λ i live. All-push (λ turn. IsSome (entry_in turn.0 i)) so_far.turns (slots, p) (so_far.lived i live) (so_far.live i live);
        live = λ i live. stay i (so_far.live i live);
      }

  pub answers_rise : (greatest : ℕ) (old slots : List (Option (ℕ × T))) (s : Stand) (told : List ℕ) → HasAnswered greatest old slots s told → IsRising 1 told
  answers_rise greatest old slots s told so_far =
      subst (IsRising 1) so_far.answers (rises_from greatest 1 so_far.from so_far.turns s so_far.first.forward (somewhere so_far.from.place) so_far.walk)
    where
      somewhere : (place : ℕ) → (place ≡ 0) ⊎ (1 ≤ place)
      somewhere zero = inl refl
      somewhere (suc place) = inr (omega arith)

  -- pointers of lower indexes than one that was renewed stay valid
  pub still_valid : {P : Type 0} (numbers : P → Pointer) (slots left : List (Option (ℕ × T))) (low : ℕ) (all : List P) (new : P) → IsRising low (map (λ p. (numbers p).0) all ++ (numbers new).0 ∷ []) → All (λ p. IsSome (look_up slots (numbers p))) all → ((q : Pointer) → q.0 ≢ (numbers new).0 → look_up left q ≡ look_up slots q) → IsSome (look_up left (numbers new)) → All (λ p. IsSome (look_up left (numbers p))) (all ++ new ∷ [])
  still_valid numbers slots left low [] new rising valid others now = All-cons (λ p. IsSome (look_up left (numbers p))) new [] now (All-nil (λ p. IsSome (look_up left (numbers p))))
  still_valid numbers slots left low (p ∷ all) new rising valid others now =
      let below = rises_below ((numbers p).0 + 1) (map (λ q. (numbers q).0) all) (numbers new).0 rising.1 in
      let other : (numbers p).0 ≢ (numbers new).0 = λ e. absurd (omega (arith, below, e)) in
      All-cons (λ q. IsSome (look_up left (numbers q))) p (all ++ new ∷ []) (subst IsSome (sym (others (numbers p) other)) (valid zero p (omega arith)))
      (still_valid numbers slots left ((numbers p).0 + 1) all new rising.1 (λ k d within. valid (suc k) d (omega (arith, within))) others now)

  -- an entry that gets another generation stays
  pub stays : (slots left : List (Option (ℕ × T))) (i generation : ℕ) → ChangesAt slots i (option_map (λ e. (generation, e.1)) (entry_in slots i)) left → (j : ℕ) → IsSome (entry_in slots j) → IsSome (entry_in left j)
  stays slots left i generation change j live =
      elim (cases_eq j i) [
        | inl same ↦ subst IsSome (sym (ap (entry_in left) same ∙ change.there)) (renewed (entry_in slots i) (subst IsSome (ap (entry_in slots) same) live))
        | inr other ↦ subst IsSome (sym (change.others j other)) live
      ]
    where
      renewed : (o : Option (ℕ × T)) → IsSome o → IsSome {T = ℕ × T} (option_map (λ e. (generation, e.1)) o)
      renewed None live = live
      renewed (Some e) live = refl

-- the pointer that an invalidation gives
pub renewed_is : {P T : Type 0} (numbers : P → Pointer) (answer : InvalidationResult P) (unwrapped : InvalidationOption P) (q : P) (wraps : Bool) (new : Pointer) (value : Option T) → map_told numbers answer ≡ told_of wraps (option_map (λ _. new) value) → IsSome value → Some unwrapped ≡ as_option answer → q ≡ allowed_option unwrapped → numbers q ≡ new
renewed_is numbers answer unwrapped q wraps new None told live is at = absurd (true≢false (sym live))
renewed_is numbers (Success p) unwrapped q true new (Some v) told live is at = absurd (cc)
renewed_is numbers (Success p) unwrapped q false new (Some v) told live is at = ap numbers (at ∙ ap allowed_option (some_same is)) ∙ cc
renewed_is numbers (GenerationOverflow p) unwrapped q true new (Some v) told live is at = ap numbers (at ∙ ap allowed_option (some_same is)) ∙ cc
renewed_is numbers (GenerationOverflow p) unwrapped q false new (Some v) told live is at = absurd (cc)
renewed_is numbers InvalidPtr unwrapped q wraps new (Some v) told live is at = absurd (cc)
