-- The laws of holding, of the elements of a list, and how recasting them splits.
use Rattle.std.proofs.Common.{◌≡◌, suc, ◌≤◌, Option, Some, None, Result, Ok, Err, List, [], ◌∷◌, ◌++◌, length, take, drop, refl, sym, ap, ◌∙◌, arith, length-append, length-drop, length-take-le, take-append-drop}
use Rattle.triple_arena_base.specs.Held.{HoldsRefill, KeepsHeld, LastRefills, recast_from, recast_items, answer_from, recast_answer, held_nothing, held_all, refill_all}

module _ {A : Type 0} where
  pub take_length : (a b : List A) → take (length a) (a ++ b) ≡ a
  take_length [] [] = refl
  take_length [] (y ∷ b) = refl
  take_length (x ∷ a) b = ap (λ l. x ∷ l) (take_length a b)

  pub drop_length : (a b : List A) → drop (length a) (a ++ b) ≡ b
  drop_length [] b = refl
  drop_length (x ∷ a) b = drop_length a b

module _ {I : Type 0} (image : I → Option I) where
  length_from : (o : Option I) (x : I) (xs ys : List I) → length ys ≡ length xs → length (recast_from o x xs ys) ≡ suc (length xs)
  length_from (Some y) x xs ys e = omega (arith, e)
  length_from None x xs ys e = refl

  pub length_recast : (xs : List I) → length (recast_items image xs) ≡ length xs
  length_recast [] = refl
  length_recast (x ∷ xs) = length_from (image x) x xs (recast_items image xs) (length_recast xs)

  ok_from : (o : Option I) (x : I) (a b ys zs : List I) (r s : Result (Unit {0}) I)
      → (r ≡ Ok tt → (zs ≡ ys ++ recast_items image b) × (s ≡ recast_answer image b))
      → answer_from o x r ≡ Ok tt
      → (recast_from o x (a ++ b) zs ≡ recast_from o x a ys ++ recast_items image b) × (answer_from o x s ≡ recast_answer image b)
  ok_from (Some y) x a b ys zs r s h e = (ap (λ l. y ∷ l) (h e).0, (h e).1)
  ok_from None x a b ys zs r s h e = absurd (cc e)

  -- where the first items have images, the others follow
  pub recast_ok : (a b : List I) → recast_answer image a ≡ Ok tt
      → (recast_items image (a ++ b) ≡ recast_items image a ++ recast_items image b) × (recast_answer image (a ++ b) ≡ recast_answer image b)
  recast_ok [] b e = (refl, refl)
  recast_ok (x ∷ a) b e = ok_from (image x) x a b (recast_items image a) (recast_items image (a ++ b)) (recast_answer image a) (recast_answer image (a ++ b)) (recast_ok a b) e

  err_from : (o : Option I) (x w : I) (a b ys zs : List I) (r s : Result (Unit {0}) I)
      → (r ≡ Err w → (zs ≡ ys ++ b) × (s ≡ Err w))
      → answer_from o x r ≡ Err w
      → (recast_from o x (a ++ b) zs ≡ recast_from o x a ys ++ b) × (answer_from o x s ≡ Err w)
  err_from (Some y) x w a b ys zs r s h e = (ap (λ l. y ∷ l) (h e).0, (h e).1)
  err_from None x w a b ys zs r s h e = (refl, e)

  -- where one of the first items has no image, the others stay
  pub recast_err : (a b : List I) (w : I) → recast_answer image a ≡ Err w
      → (recast_items image (a ++ b) ≡ recast_items image a ++ b) × (recast_answer image (a ++ b) ≡ Err w)
  recast_err [] b w e = absurd (cc e)
  recast_err (x ∷ a) b w e = err_from (image x) x w a b (recast_items image a) (recast_items image (a ++ b)) (recast_answer image a) (recast_answer image (a ++ b)) (recast_err a b w) e

module _ {I T : Type 0} (held : T → List I) (refill : T → List I → T) where
  pub length_refill_all : (xs : List T) (l : List I) → length (refill_all held refill xs l) ≡ length xs
  length_refill_all [] l = refl
  length_refill_all (x ∷ xs) l = let e = length_refill_all xs (drop (length (held x)) l) in omega (arith, e)

  module _ (law : KeepsHeld held refill) where
    pub refill_all_held : KeepsHeld (held_all held) (refill_all held refill)
    refill_all_held [] = refl
    refill_all_held (x ∷ xs) =
        ap (λ l. refill x l ∷ refill_all held refill xs (drop (length (held x)) (held x ++ held_all held xs))) (take_length (held x) (held_all held xs))
        ∙ ap (λ y. y ∷ refill_all held refill xs (drop (length (held x)) (held x ++ held_all held xs))) (law x)
        ∙ ap (λ l. x ∷ refill_all held refill xs l) (drop_length (held x) (held_all held xs))
        ∙ ap (λ ys. x ∷ ys) (refill_all_held xs)

    -- an element whose items all have images
    pub refill_ok : (image : I → Option I) (x : T) (xs : List T) → recast_answer image (held x) ≡ Ok tt
        → (refill_all held refill (x ∷ xs) (recast_items image (held_all held (x ∷ xs))) ≡ refill x (recast_items image (held x)) ∷ refill_all held refill xs (recast_items image (held_all held xs)))
        × (recast_answer image (held_all held (x ∷ xs)) ≡ recast_answer image (held_all held xs))
    refill_ok image x xs e =
        let done = recast_items image (held x) in
        let more = recast_items image (held_all held xs) in
        let ok = recast_ok image (held x) (held_all held xs) e in
        let n : length (held x) ≡ length done = sym (length_recast image (held x)) in (
          ap (λ l. refill x (take (length (held x)) l) ∷ refill_all held refill xs (drop (length (held x)) l)) ok.0
              ∙ ap (λ k. refill x (take k (done ++ more)) ∷ refill_all held refill xs (drop k (done ++ more))) n
              ∙ ap (λ l. refill x l ∷ refill_all held refill xs (drop (length done) (done ++ more))) (take_length done more)
              ∙ ap (λ l. refill x done ∷ refill_all held refill xs l) (drop_length done more),
          ok.1,
        )

    -- an element one of whose items has no image
    pub refill_err : (image : I → Option I) (x : T) (xs : List T) (w : I) → recast_answer image (held x) ≡ Err w
        → (refill_all held refill (x ∷ xs) (recast_items image (held_all held (x ∷ xs))) ≡ refill x (recast_items image (held x)) ∷ xs)
        × (recast_answer image (held_all held (x ∷ xs)) ≡ Err w)
    refill_err image x xs w e =
        let done = recast_items image (held x) in
        let more = held_all held xs in
        let err = recast_err image (held x) more w e in
        let n : length (held x) ≡ length done = sym (length_recast image (held x)) in (
          ap (λ l. refill x (take (length (held x)) l) ∷ refill_all held refill xs (drop (length (held x)) l)) err.0
              ∙ ap (λ k. refill x (take k (done ++ more)) ∷ refill_all held refill xs (drop k (done ++ more))) n
              ∙ ap (λ l. refill x l ∷ refill_all held refill xs (drop (length done) (done ++ more))) (take_length done more)
              ∙ ap (λ l. refill x done ∷ refill_all held refill xs l) (drop_length done more)
              ∙ ap (λ ys. refill x done ∷ ys) (refill_all_held xs),
          err.1,
        )

  module _ (law : HoldsRefill held refill) where
    pub held_refill_all : HoldsRefill (held_all held) (refill_all held refill)
    held_refill_all [] [] h = refl
    held_refill_all [] (y ∷ l) h = absurd (omega arith)
    held_refill_all (x ∷ xs) l h =
        let k = length (held x) in
        let sum = length-append (held x) (held_all held xs) in
        let le : k ≤ length l = omega (arith, sum, h) in
        let first : length (take k l) ≡ k = length-take-le k l le in
        let others : length (drop k l) ≡ length (held_all held xs) = omega (arith, length-drop k l, sum, h) in
        ap (λ a. a ++ held_all held (refill_all held refill xs (drop k l))) (law x (take k l) first)
        ∙ ap (λ b. take k l ++ b) (held_refill_all xs (drop k l) others)
        ∙ take-append-drop k l

    module _ (last : LastRefills held refill) where
      pub refill_refill_all : LastRefills (held_all held) (refill_all held refill)
      refill_refill_all [] l m h j = refl
      refill_refill_all (x ∷ xs) l m h j =
          let k = length (held x) in
          let sum = length-append (held x) (held_all held xs) in
          let le : k ≤ length l = omega (arith, sum, h) in
          let le_m : k ≤ length m = omega (arith, sum, j) in
          let first : length (take k l) ≡ k = length-take-le k l le in
          let first_m : length (take k m) ≡ k = length-take-le k m le_m in
          let others : length (drop k l) ≡ length (held_all held xs) = omega (arith, length-drop k l, sum, h) in
          let others_m : length (drop k m) ≡ length (held_all held xs) = omega (arith, length-drop k m, sum, j) in
          let same : length (held (refill x (take k l))) ≡ k = ap length (law x (take k l) first) ∙ first in
          ap (λ n. refill (refill x (take k l)) (take n m) ∷ refill_all held refill (refill_all held refill xs (drop k l)) (drop n m)) same
          ∙ ap (λ y. y ∷ refill_all held refill (refill_all held refill xs (drop k l)) (drop k m)) (last x (take k l) (take k m) first first_m)
          ∙ ap (λ ys. refill x (take k m) ∷ ys) (refill_refill_all xs (drop k l) (drop k m) others others_m)

-- values that hold nothing hold nothing together
pub nothing_in_all : {I T : Type 0} (vs : List T) → held_all (held_nothing {I = I}) vs ≡ []
nothing_in_all [] = refl
nothing_in_all (v ∷ vs) = nothing_in_all vs
