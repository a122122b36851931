-- The laws of holding, of a pair whose parts both hold items: what the first part holds comes first.
use Rattle.std.specs.Prelude.{◌≡◌, Option, Ok, Err, List, ◌++◌, length, take, drop}
use Rattle.std.proofs.Common.{◌≤◌, sym, ap, ◌∙◌, arith, length-append, length-drop, length-take-le, take-append-drop}
use Rattle.triple_arena_base.specs.Held.{HoldsRefill, KeepsHeld, LastRefills, recast_items, recast_answer}
use Rattle.triple_arena_base.specs.HeldLists.{take_length, drop_length, length_recast, recast_ok, recast_err}

module _ {I A B : Type 0} (held : A → List I) (refill : A → List I → A) (held_second : B → List I) (refill_second : B → List I → B) where
  -- a pair holds what its first part holds, and then what its second part holds
  abbrev pub held_both : A × B → List I
  held_both p = held p.0 ++ held_second p.1

  abbrev pub refill_both : A × B → List I → A × B
  refill_both p l = (refill p.0 (take (length (held p.0)) l), refill_second p.1 (drop (length (held p.0)) l))

  pub both_held_refill : HoldsRefill held refill → HoldsRefill held_second refill_second → HoldsRefill held_both refill_both
  both_held_refill first second p l h =
      let k = length (held p.0) in
      let sum = length-append (held p.0) (held_second p.1) in
      let le : k ≤ length l = omega (arith, sum, h) in
      ap (λ xs. xs ++ held_second (refill_second p.1 (drop k l))) (first p.0 (take k l) (length-take-le k l le))
      ∙ ap (λ xs. take k l ++ xs) (second p.1 (drop k l) (omega (arith, length-drop k l, sum, h)))
      ∙ take-append-drop k l

  module _ (first : KeepsHeld held refill) (second : KeepsHeld held_second refill_second) where
    pub both_refill_held : KeepsHeld held_both refill_both
    both_refill_held p =
        ap (λ l. (refill p.0 l, refill_second p.1 (drop (length (held p.0)) (held_both p)))) (take_length (held p.0) (held_second p.1))
        ∙ ap (λ x. (x, refill_second p.1 (drop (length (held p.0)) (held_both p)))) (first p.0)
        ∙ ap (λ l. (p.0, refill_second p.1 l)) (drop_length (held p.0) (held_second p.1))
        ∙ ap (λ y. (p.0, y)) (second p.1)

  pub both_refill_refill : HoldsRefill held refill → LastRefills held refill → LastRefills held_second refill_second → LastRefills held_both refill_both
  both_refill_refill law first second p l m h j =
      let k = length (held p.0) in
      let sum = length-append (held p.0) (held_second p.1) in
      let le : k ≤ length l = omega (arith, sum, h) in
      let le_m : k ≤ length m = omega (arith, sum, j) in
      let own : length (take k l) ≡ k = length-take-le k l le in
      let own_m : length (take k m) ≡ k = length-take-le k m le_m in
      let others : length (drop k l) ≡ length (held_second p.1) = omega (arith, length-drop k l, sum, h) in
      let others_m : length (drop k m) ≡ length (held_second p.1) = omega (arith, length-drop k m, sum, j) in
      let same : length (held (refill p.0 (take k l))) ≡ k = ap length (law p.0 (take k l) own) ∙ own in
      ap (λ n. (refill (refill p.0 (take k l)) (take n m), refill_second (refill_second p.1 (drop k l)) (drop n m))) same
      ∙ ap (λ x. (x, refill_second (refill_second p.1 (drop k l)) (drop k m))) (first p.0 (take k l) (take k m) own own_m)
      ∙ ap (λ y. (refill p.0 (take k m), y)) (second p.1 (drop k l) (drop k m) others others_m)

  -- what a recast leaves where all that the first part holds has an image
  pub both_ok : (image : I → Option I) (p : A × B) → recast_answer image (held p.0) ≡ Ok tt
      → (refill_both p (recast_items image (held_both p)) ≡ (refill p.0 (recast_items image (held p.0)), refill_second p.1 (recast_items image (held_second p.1))))
      × (recast_answer image (held_both p) ≡ recast_answer image (held_second p.1))
  both_ok image p e =
      let done = recast_items image (held p.0) in
      let more = recast_items image (held_second p.1) in
      let ok = recast_ok image (held p.0) (held_second p.1) e in
      let n : length (held p.0) ≡ length done = sym (length_recast image (held p.0)) in (
        ap (λ l. (refill p.0 (take (length (held p.0)) l), refill_second p.1 (drop (length (held p.0)) l))) ok.0
            ∙ ap (λ k. (refill p.0 (take k (done ++ more)), refill_second p.1 (drop k (done ++ more)))) n
            ∙ ap (λ l. (refill p.0 l, refill_second p.1 (drop (length done) (done ++ more)))) (take_length done more)
            ∙ ap (λ l. (refill p.0 done, refill_second p.1 l)) (drop_length done more),
        ok.1,
      )

  -- and where something that it holds has none
  pub both_err : KeepsHeld held_second refill_second → (image : I → Option I) (p : A × B) (w : I) → recast_answer image (held p.0) ≡ Err w
      → (refill_both p (recast_items image (held_both p)) ≡ (refill p.0 (recast_items image (held p.0)), p.1))
      × (recast_answer image (held_both p) ≡ Err w)
  both_err second image p w e =
      let done = recast_items image (held p.0) in
      let more = held_second p.1 in
      let err = recast_err image (held p.0) more w e in
      let n : length (held p.0) ≡ length done = sym (length_recast image (held p.0)) in (
        ap (λ l. (refill p.0 (take (length (held p.0)) l), refill_second p.1 (drop (length (held p.0)) l))) err.0
            ∙ ap (λ k. (refill p.0 (take k (done ++ more)), refill_second p.1 (drop k (done ++ more)))) n
            ∙ ap (λ l. (refill p.0 l, refill_second p.1 (drop (length done) (done ++ more)))) (take_length done more)
            ∙ ap (λ l. (refill p.0 done, refill_second p.1 l)) (drop_length done more)
            ∙ ap (λ y. (refill p.0 done, y)) (second p.1),
        err.1,
      )
