-- Pointers that values hold, as recasting by a map of live pointers finds and replaces them.
use Rattle.std.proofs.Common.{◌≡◌, ℕ, not, cond, List, [], ◌∷◌, Option, Some, None, is_some, Result, Ok, Err, refl, sym, ap, ◌∙◌}
use Rattle.std.specs.Option.{option_map}
use Rattle.std.specs.Result.{IfErr, result_err}
use Rattle.triple_arena_base.specs.Held.{HoldsRefill, KeepsHeld, recast_from, recast_items, answer_from, recast_answer, held_all, refill_all}
use Rattle.triple_arena_base.specs.declared.errors.CompactError.{CompactError}
use Rattle.triple_arena_base.specs.declared.errors.CompactError.TheVariants.{Unresolved, Reallocation}
use Rattle.triple_arena_ptr.specs.Pointers.{Pointer}
use Rattle.triple_arena_traits.specs.Entries.{look_up}
use Rattle.triple_arena_recasting.specs.Renaming.{MapsPointers, first_unresolved, AreRenamed, Refuses}
use Rattle.triple_arena_recasting.specs.laws.RenamingLaws.{items_renamed, all_renamed}

module _ {P T : Type 0} (numbers : P → Pointer) (slots : List (Option (ℕ × T))) where
  abbrev live : P → Option T
  live p = look_up slots (numbers p)

  -- by the map of the live pointers to themselves, nothing is replaced
  pub items_stay : (image : P → Option P) → ((p : P) → image p ≡ option_map (λ _. p) (live p)) → (ps : List P) → recast_items image ps ≡ ps
  items_stay image own [] = refl
  items_stay image own (p ∷ ps) =
      ap (λ o. recast_from o p ps (recast_items image ps)) (own p)
      ∙ ap (recast_from (option_map (λ _. p) (live p)) p ps) (items_stay image own ps)
      ∙ by_live (live p)
    where
      by_live : (o : Option T) → recast_from (option_map (λ _. p) o) p ps ps ≡ p ∷ ps
      by_live None = refl
      by_live (Some v) = refl

  -- the answer of recasting, from the first pointer that is not live
  abbrev answer_of : Option P → Result (Unit {0}) P
  answer_of None = Ok tt
  answer_of (Some p) = Err p

  -- and the refusal is with the first that is not live
  pub answer_first : (image : P → Option P) → ((p : P) → image p ≡ option_map (λ _. p) (live p)) → (ps : List P) → recast_answer image ps ≡ answer_of (first_unresolved numbers slots ps)
  answer_first image own [] = refl
  answer_first image own (p ∷ ps) =
      ap (λ o. answer_from o p (recast_answer image ps)) (own p)
      ∙ ap (answer_from (option_map (λ _. p) (live p)) p) (answer_first image own ps)
      ∙ by_live (live p)
    where
      by_live : (o : Option T) → answer_from (option_map (λ _. p) o) p (answer_of (first_unresolved numbers slots ps)) ≡ answer_of (cond (not (is_some o)) (Some p) (first_unresolved numbers slots ps))
      by_live None = refl
      by_live (Some v) = refl

  resolved_all : (o : Option P) → answer_of o ≡ Ok tt → o ≡ None
  resolved_all None e = refl
  resolved_all (Some p) e = absurd (cc)

  unresolved_one : (o : Option P) (p : P) → answer_of o ≡ Err p → o ≡ Some p
  unresolved_one None p e = absurd (cc)
  unresolved_one (Some q) p e = let same : q ≡ p = cc in ap Some same

  pub all_resolved : (image : P → Option P) → ((p : P) → image p ≡ option_map (λ _. p) (live p)) → (ps : List P) → recast_answer image ps ≡ Ok tt → first_unresolved numbers slots ps ≡ None
  all_resolved image own ps e = resolved_all (first_unresolved numbers slots ps) (sym (answer_first image own ps) ∙ e)

  pub one_unresolved : (image : P → Option P) → ((p : P) → image p ≡ option_map (λ _. p) (live p)) → (ps : List P) (p : P) → recast_answer image ps ≡ Err p → first_unresolved numbers slots ps ≡ Some p
  one_unresolved image own ps p e = unresolved_one (first_unresolved numbers slots ps) p (sym (answer_first image own ps) ∙ e)

  -- what recasting by the map answers, as a look for the first
  pub answer_error : (image : P → Option P) → ((p : P) → image p ≡ option_map (λ _. p) (live p)) → (ps : List P) → result_err (recast_answer image ps) ≡ first_unresolved numbers slots ps
  answer_error image own ps = ap result_err (answer_first image own ps) ∙ error_of (first_unresolved numbers slots ps)
    where
      error_of : (o : Option P) → result_err (answer_of o) ≡ o
      error_of None = refl
      error_of (Some p) = refl

  -- so a holder stays as it was
  pub holder_stays : {H : Type 0} (held : H → List P) (refill : H → List P → H) → KeepsHeld held refill → (image : P → Option P) → ((p : P) → image p ≡ option_map (λ _. p) (live p)) → (old new : H) → new ≡ refill old (recast_items image (held old)) → new ≡ old
  holder_stays held refill law image own old new is = is ∙ ap (refill old) (items_stay image own (held old)) ∙ law old

  -- where each held pointer is live, recasting by the map of a compaction renames each of them once
  module _ (rename : Pointer → Pointer) (images : List (Option (ℕ × P))) (maps : MapsPointers numbers rename slots images)
      {V : Type 0} (held : V → List P) (refill : V → List P → V) (holds : HoldsRefill held refill) where
    pub values_renamed : (vs : List V) → first_unresolved numbers slots (held_all held vs) ≡ None
        → AreRenamed numbers rename held refill vs (refill_all held refill vs (recast_items (λ p. look_up images (numbers p)) (held_all held vs)))
    values_renamed vs none = all_renamed numbers rename held refill holds vs _ (items_renamed numbers slots rename images maps (held_all held vs) none).1

-- a refusal for the first of some pointers is one for the first of these and more
pub refuses_more : {P R : Type 0} (count : ℕ) (own both : Option P) → ((p : P) → own ≡ Some p → both ≡ Some p) → (r : Result R (CompactError P)) → IfErr r (Refuses count own) → IfErr r (Refuses count both)
refuses_more count own both more (Ok x) is = tt
refuses_more count own both more (Err (Unresolved p)) is = more p is
refuses_more count own both more (Err (Reallocation refusal)) is = is
