-- A map of pointers, from its pointers and its values.
use Rattle.std.proofs.Common.{◌≡◌, ℕ, List, map, Option, Some, None, IsSome, slice_get, refl, sym, ap, subst, ◌∙◌, true≢false}
use Rattle.std.proofs.lemmas.Option.{slice_get-map}
use Rattle.std.specs.Prelude.{Contains}
use Rattle.std.specs.Option.{option_map}
use Rattle.triple_arena_ptr.specs.Pointers.{Pointer}
use Rattle.triple_arena_traits.specs.Entries.{look_up}
use Rattle.triple_arena_traits.specs.Walks.{keys, values}
use Rattle.triple_arena_traits.specs.laws.WalkLaws.{live_key, key_live}
use Rattle.triple_arena_traits.specs.laws.MoveLaws.{nth_found, found_nth}

there_is : {P : Type 0} (numbers : P → Pointer) (o : Option P) (q : Pointer) → option_map numbers o ≡ Some q → (x : P) × (o ≡ Some x) × (numbers x ≡ q)
there_is numbers None q e = absurd (cc)
there_is numbers (Some x) q e = (x, refl, cc)

module _ {P T : Type 0} (numbers : P → Pointer) where
  -- a map of the old pointers whose values are the new ones, in the same order, maps each live pointer by `rank`, and no other
  pub renames : (rank : Pointer → Pointer) (old : List (Option (ℕ × T))) (m : List (Option (ℕ × P))) → keys m ≡ keys old → map numbers (values m) ≡ map rank (keys old) → (q : Pointer) → option_map numbers (look_up m q) ≡ option_map (λ _. rank q) (look_up old q)
  renames rank old m ks vs q = by_found (look_up old q) refl
    where
      by_map : look_up old q ≡ None → (o : Option P) → look_up m q ≡ o → option_map numbers (look_up m q) ≡ None
      by_map none None e = ap (option_map numbers) e
      by_map none (Some x) e =
          let live : IsSome (look_up old q) = key_live old q (subst (λ ps. Contains ps q) ks (live_key m q (rw e refl))) in
          absurd (true≢false (sym (rw none at live)))

      by_found : (o : Option T) → look_up old q ≡ o → option_map numbers (look_up m q) ≡ option_map (λ _. rank q) o
      by_found None e = by_map e (look_up m q) refl
      by_found (Some v) e =
          let nth = nth_found old q (rw e refl) in
          let there = there_is numbers (slice_get (values m) nth.1) (rank q)
          (sym (slice_get-map numbers (values m) nth.1) ∙ ap (λ xs. slice_get xs nth.1) vs ∙ slice_get-map rank (keys old) nth.1 ∙ ap (option_map rank) nth.3) in
          ap (option_map numbers) (found_nth m nth.1 q there.0 (ap (λ xs. slice_get xs nth.1) ks ∙ nth.3) there.1) ∙ ap Some there.2
