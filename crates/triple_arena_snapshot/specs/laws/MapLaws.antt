-- A map that was written is read again.
use Rattle.std.proofs.Common.{◌≡◌, ℕ, suc, ◌^◌, ◌<◌, Bool, true, ◌&&◌, List, [], ◌∷◌, ◌++◌, length, Ok, refl, sym, ap, ◌∙◌, subst, append_assoc}
use Rattle.std.specs.Int.{w64, to_le_bytes}
use Rattle.std.specs.List.{flat_map, list_all, AllByRecursion}
use Rattle.std.specs.List.Sorted.{IsStrictlySortedBy}
use Rattle.std.specs.declared.cmp.Ordering.{Ordering}
use Rattle.std.specs.declared.cmp.Ordering.TheVariants.{Less}
use Rattle.std.specs.Ordering.{is_lt}
use Rattle.std.specs.Map.{keys_of}
use Rattle.std.proofs.lemmas.List.{append-nil}
use Rattle.std.proofs.lemmas.List.Concat.{flat_map-cons}
use Rattle.std.proofs.lemmas.Map.Keys.{sorted_head, sorted_tail}
use Rattle.triple_arena_snapshot.specs.Coding.{Decoded}
use Rattle.triple_arena_snapshot.specs.Codings.{pair_bytes, list_bytes}
use Rattle.triple_arena_snapshot.specs.MapCodings.{is_above, entries_behind, entries_at_front}
use Rattle.triple_arena_snapshot.specs.laws.CodingLaws.{IsReadAgain, number_again, wide64}

both_true : (a b : Bool) → a ≡ true → b ≡ true → (a && b) ≡ true
both_true a b x y = rw (x, y) refl

module _ {K L : Type 0} (order : K → K → Ordering) where
  holds_of : (P : K → Type 0) (before : List (K × L)) (e : K × L) (es : List (K × L)) → AllByRecursion P (keys_of (before ++ e ∷ es)) → P e.0
  holds_of P [] e es h = h.0
  holds_of P (b ∷ before) e es h = holds_of P before e es h.1

  pub above_sorted : (before : List (K × L)) (e : K × L) (es : List (K × L)) → IsStrictlySortedBy order (keys_of (before ++ e ∷ es)) → is_above order (keys_of before) e.0 ≡ true
  above_sorted [] e es h = refl
  above_sorted (b ∷ before) e es h =
      let less : order b.0 e.0 ≡ Less = holds_of (λ k. order b.0 k ≡ Less) before e es (sorted_head order b.0 (keys_of (before ++ e ∷ es)) h) in
      both_true _ _ (ap is_lt less) (above_sorted before e es (sorted_tail order b.0 (keys_of (before ++ e ∷ es)) h))

  module _ (fits : K → Type 0) (encoding : K → List ℕ) (decoding : List ℕ → Decoded K) (again : IsReadAgain fits encoding decoding)
      (fits_too : L → Type 0) (second : L → List ℕ) (decoding_too : List ℕ → Decoded L) (again_too : IsReadAgain fits_too second decoding_too) where
    behind_again : (before es : List (K × L)) (rest : List ℕ) → AllByRecursion (λ e. fits e.0 × fits_too e.1) es → IsStrictlySortedBy order (keys_of (before ++ es))
        → entries_behind order decoding decoding_too before (length es) (flat_map (pair_bytes encoding second) es ++ rest) ≡ Ok (before ++ es, rest)
    behind_again before [] rest h sorted = ap (λ (xs : List (K × L)). Ok (xs, rest)) (sym (append-nil before))
    behind_again before (e ∷ es) rest h sorted =
        let more = flat_map (pair_bytes encoding second) es ++ rest in
        let joined : before ++ e ∷ es ≡ (before ++ e ∷ []) ++ es = sym (append_assoc before (e ∷ []) es) in
        let bytes : flat_map (pair_bytes encoding second) (e ∷ es) ++ rest ≡ encoding e.0 ++ (second e.1 ++ more) =
        ap (λ (xs : List ℕ). xs ++ rest) (flat_map-cons (pair_bytes encoding second) e es)
        ∙ append_assoc (encoding e.0 ++ second e.1) (flat_map (pair_bytes encoding second) es) rest
        ∙ append_assoc (encoding e.0) (second e.1) more in
        ap (entries_behind order decoding decoding_too before (suc (length es))) bytes
        ∙ rw (again e.0 (second e.1 ++ more) h.0.0, above_sorted before e es sorted, again_too e.1 more h.0.1)
        (behind_again (before ++ e ∷ []) es rest h.1 (subst (λ (xs : List (K × L)). IsStrictlySortedBy order (keys_of xs)) joined sorted)
        ∙ ap (λ (xs : List (K × L)). Ok (xs, rest)) (sym joined))

    pub entries_again : IsReadAgain (λ es. (length es < 2 ^ 64) × AllByRecursion (λ e. fits e.0 × fits_too e.1) es × IsStrictlySortedBy order (keys_of es))
        (list_bytes (pair_bytes encoding second)) (entries_at_front order decoding decoding_too)
    entries_again es rest h =
        ap (entries_at_front order decoding decoding_too) (append_assoc (to_le_bytes w64 (length es)) (flat_map (pair_bytes encoding second) es) rest)
        ∙ rw (number_again w64 (2 ^ 64) wide64 (length es) (flat_map (pair_bytes encoding second) es ++ rest) h.0) (behind_again [] es rest h.1 h.2)
