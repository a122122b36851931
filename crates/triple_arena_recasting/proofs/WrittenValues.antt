-- What stands after a compression whose values are written again.
use Rattle.std.proofs.Common.{◌≡◌, ℕ, ◌+◌, List, [], ◌∷◌, ◌++◌, length, map, sym, ap, subst, ◌∙◌, arith, append_assoc}
use Rattle.std.proofs.lemmas.List.{length_push}
use Rattle.std.specs.List.{range_with_len}
use Rattle.triple_arena_ptr.specs.Pointers.{Pointer}
use Rattle.triple_arena_traits.specs.Items.{with_item}
use Rattle.triple_arena_traits.specs.Recasting.{written}
use Rattle.triple_arena_traits.proofs.Compressing.{set-after}

module _ {T : Type 0} where
  module _ {A : Type 0} (with_value : A → ℕ → T → A) (Compressed : List T → A → Type 0)
      (law : (ws : List T) (new : A) (i : ℕ) (w : T) → Compressed ws new → Compressed (with_item ws i w) (with_value new i w)) where
    written_from : (done rest ws : List T) (ks : List Pointer) (a : A) → map (λ k. k.0) ks ≡ range_with_len (length done + 1) (length ks) → length rest ≡ length ks → length ws ≡ length ks
        → Compressed (done ++ rest) a → Compressed (done ++ ws) (written with_value ks ws a)
    written_from done [] [] [] a count many many' is = is
    written_from done [] (w ∷ ws) [] a count many many' is = absurd (omega (arith, many'))
    written_from done (r ∷ rest) ws [] a count many many' is = absurd (omega (arith, many))
    written_from done [] ws (k ∷ ks) a count many many' is = absurd (omega (arith, many))
    written_from done (r ∷ rest) [] (k ∷ ks) a count many many' is = absurd (omega (arith, many'))
    written_from done (r ∷ rest) (w ∷ ws) (k ∷ ks) a count many many' is =
        let here : k.0 ≡ length done + 1 = cc in
        let others : map (λ (k : Pointer). k.0) ks ≡ range_with_len (length done + 1 + 1) (length ks) = cc in
        let one : Compressed (done ++ w ∷ rest) (with_value a k.0 w) = subst (λ vs. Compressed vs (with_value a k.0 w)) (set-after done r w rest k.0 here) (law (done ++ r ∷ rest) a k.0 w is) in
        let put : Compressed ((done ++ w ∷ []) ++ rest) (with_value a k.0 w) = subst (λ vs. Compressed vs (with_value a k.0 w)) (sym (append_assoc done (w ∷ []) rest)) one in
        let next : map (λ (k : Pointer). k.0) ks ≡ range_with_len (length (done ++ w ∷ []) + 1) (length ks) = others ∙ ap (λ n. range_with_len (n + 1) (length ks)) (sym (length_push done w)) in
        subst (λ vs. Compressed vs (written with_value ks ws (with_value a k.0 w))) (append_assoc done (w ∷ []) ws)
        (written_from (done ++ w ∷ []) rest ws ks (with_value a k.0 w) next (omega (arith, many)) (omega (arith, many')) put)

    -- the values that were written might have been given back in the compression
    pub compressed_written : (vs ws : List T) (ks : List Pointer) (a : A) → map (λ k. k.0) ks ≡ range_with_len 1 (length ks) → length vs ≡ length ks → length ws ≡ length ks → Compressed vs a → Compressed ws (written with_value ks ws a)
    compressed_written vs ws ks a count many many' is = written_from [] vs ws ks a count many many' is
