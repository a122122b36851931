-- The parts of a text, by the first place of the separator.
use Rattle.std.proofs.Common.{◌≡◌, ℕ, ◌+◌, ◌<◌, Bool, true, false, List, [], ◌∷◌, Option, None, Some, length, take, drop, ◌∙◌, ap, refl, arith, cond, le_refl}
use Rattle.std.specs.List.{slice_split, position, position_or_len, onto_first}
use Rattle.std.proofs.lemmas.List.Splits.{slice_split_first}
use Rattle.std.proofs.lemmas.List.Sums.{position_or_len_is}
use Rattle.std.proofs.lemmas.Grind.{common_steps}
use Rattle.std.proofs.lemmas.Bool.{false_from_ne_true}
use Rattle.std.proofs.lemmas.Bool.Decides.{nat_tests}
use Rattle.memchr.specs.Find.{IsFirstByte}

position_is : (p : ℕ → Bool) (xs : List ℕ) (i : ℕ) → position p xs ≡ Some i → (position_or_len p xs < length xs) × (position_or_len p xs ≡ i)
position_is p xs i found = grind (arith, nat_tests, common_steps, found)

pub parts-found : (p : ℕ → Bool) (xs : List ℕ) (i : ℕ) → position p xs ≡ Some i → slice_split p xs ≡ take i xs ∷ slice_split p (drop (i + 1) xs)
parts-found p xs i found =
    let is = position_is p xs i found in
    slice_split_first p xs 0 is.0 ∙ ap (λ n. take n xs ∷ slice_split p (drop (n + 1) xs)) is.1

pub parts-none : (p : ℕ → Bool) (xs : List ℕ) → position p xs ≡ None → slice_split p xs ≡ xs ∷ []
parts-none p [] none = refl
parts-none p (x ∷ xs) none =
    let rest : position p xs ≡ None → slice_split p xs ≡ xs ∷ [] = parts-none p xs in
    grind (arith, nat_tests, common_steps, none, rest)

-- The place that a search gives is the first position.
pub first-is_position : (p : ℕ → Bool) (xs : List ℕ) (r : Option ℕ) → IsFirstByte p xs r → r ≡ position p xs
first-is_position p xs None none =
    let at = position_or_len_is p xs (length xs) 0 (le_refl (length xs)) (λ k lt. false_from_ne_true _ (none k (omega arith) lt)) (λ lt. absurd (omega (arith, lt))) in
    grind (arith, nat_tests, common_steps, at)
first-is_position p xs (Some k) first =
    let at = position_or_len_is p xs k 0 (omega (arith, first.0.high)) (λ j lt. false_from_ne_true _ (first.0.before j (omega arith) lt)) (λ _. first.1) in
    grind (arith, nat_tests, common_steps, at, first.0.high)

-- There is always a first part.
pub parts-some : (p : ℕ → Bool) (xs : List ℕ) → (part : List ℕ) × (parts : List (List ℕ)) × (slice_split p xs ≡ part ∷ parts)
parts-some p [] = ([], [], refl)
parts-some p (x ∷ xs) =
    let rest = parts-some p xs in
    elim (p x) as (λ b. (part : List ℕ) × (parts : List (List ℕ)) × (cond b ([] ∷ slice_split p xs) (onto_first x (slice_split p xs)) ≡ part ∷ parts)) [
      | true ↦ ([], slice_split p xs, refl)
      | false ↦ (x ∷ rest.0, rest.1, ap (onto_first x) rest.2)
    ]
