-- One step of recasting the elements of a slice, and what `?` makes of a refusal.
use Rattle.std.specs.Prelude.{IsErrAnd}
use Rattle.std.proofs.Common.{◌≡◌, ℕ, suc, ◌+◌, ◌<◌, Option, Result, Ok, Err, List, [], ◌∷◌, ◌++◌, length, take, drop, set, get_or, sym, ap, ◌∙◌, arith, add-one, append_assoc, take-append-drop, drop-cons, drop-set-lt}
use Rattle.std.proofs.Math.Seq.{take-suc-set}
use Rattle.triple_arena_base.specs.Held.{KeepsHeld, recast_items, recast_answer, held_all, refill_all}
use Rattle.triple_arena_base.specs.HeldLists.{refill_ok, refill_err}

-- an error of its own type, which `?` hands on
pub err_is : {A E : Type 0} (r : Result A E) (w : E) → IsErrAnd r (λ v. v ≡ w) → r ≡ Err w
err_is (Ok x) w h = absurd h
err_is (Err v) w h = ap Err h

module _ {I T : Type 0} (held : T → List I) (refill : T → List I → T) (law : KeepsHeld held refill) (image : I → Option I) where
  -- the elements recast, and the answer
  abbrev pub recast_all : List T → List T
  recast_all xs = refill_all held refill xs (recast_items image (held_all held xs))

  abbrev pub answer_all : List T → Result (Unit {0}) I
  answer_all xs = recast_answer image (held_all held xs)

  module _ (xs all : List T) (i : ℕ) (x y : T) (r : Result (Unit {0}) I) (inside : i < length xs) (is : x ≡ get_or xs i x)
      (done : take i xs ++ recast_all (drop i xs) ≡ all) (answer : answer_all (drop i xs) ≡ r) (new : y ≡ refill x (recast_items image (held x))) where
    split : drop i xs ≡ x ∷ drop (suc i) xs
    split = drop-cons xs i x inside ∙ ap (λ z. z ∷ drop (suc i) xs) (sym is)

    after : drop (suc i) (set xs i y) ≡ drop (suc i) xs
    after = drop-set-lt (suc i) xs i y (omega arith)

    joined : (rest : List T) → (take i xs ++ y ∷ []) ++ rest ≡ take i xs ++ y ∷ rest
    joined rest = append_assoc (take i xs) (y ∷ []) rest

    pub step_ok : recast_answer image (held x) ≡ Ok tt
        → (take (i + 1) (set xs i y) ++ recast_all (drop (i + 1) (set xs i y)) ≡ all) × (answer_all (drop (i + 1) (set xs i y)) ≡ r)
    step_ok e =
        let ok = refill_ok held refill law image x (drop (suc i) xs) e in
        let past : take i xs ++ recast_all (x ∷ drop (suc i) xs) ≡ all = ap (λ l. take i xs ++ recast_all l) (sym split) ∙ done in
        let same : answer_all (x ∷ drop (suc i) xs) ≡ r = ap answer_all (sym split) ∙ answer in
        rw add-one (
          ap (λ l. l ++ recast_all (drop (suc i) (set xs i y))) (take-suc-set xs i y inside)
              ∙ ap (λ l. (take i xs ++ y ∷ []) ++ recast_all l) after
              ∙ joined (recast_all (drop (suc i) xs))
              ∙ ap (λ z. take i xs ++ z ∷ recast_all (drop (suc i) xs)) new
              ∙ ap (λ l. take i xs ++ l) (sym ok.0)
              ∙ past,
          ap answer_all after ∙ sym ok.1 ∙ same,
        )

    pub step_err : (w : I) → recast_answer image (held x) ≡ Err w → (set xs i y ≡ all) × (Err w ≡ r)
    step_err w e =
        let err = refill_err held refill law image x (drop (suc i) xs) w e in
        let past : take i xs ++ recast_all (x ∷ drop (suc i) xs) ≡ all = ap (λ l. take i xs ++ recast_all l) (sym split) ∙ done in
        let same : answer_all (x ∷ drop (suc i) xs) ≡ r = ap answer_all (sym split) ∙ answer in (
          sym (take-append-drop (suc i) (set xs i y))
              ∙ ap (λ l. l ++ drop (suc i) (set xs i y)) (take-suc-set xs i y inside)
              ∙ ap (λ l. (take i xs ++ y ∷ []) ++ l) after
              ∙ joined (drop (suc i) xs)
              ∙ ap (λ z. take i xs ++ z ∷ drop (suc i) xs) new
              ∙ ap (λ l. take i xs ++ l) (sym err.0)
              ∙ past,
          sym err.1 ∙ same,
        )
