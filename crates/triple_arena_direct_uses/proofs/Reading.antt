-- Items that pass a test of their numbers.
use Rattle.std.proofs.Common.{◌≡◌, cond, ◌||◌, Bool, true, false, List, [], ◌∷◌, map, refl, ap}
use Rattle.std.specs.List.{filter, list_any}

module _ {I N : Type 0} (numbers : I → N) (passes : N → Bool) where
  pub filter_numbers : (xs : List I) → map numbers (filter (λ x. passes (numbers x)) xs) ≡ filter passes (map numbers xs)
  filter_numbers [] = refl
  filter_numbers (x ∷ xs) = by_test (passes (numbers x)) (filter_numbers xs)
    where
      by_test : (b : Bool) → map numbers (filter (λ x. passes (numbers x)) xs) ≡ filter passes (map numbers xs)
          → map numbers (cond b (x ∷ filter (λ x. passes (numbers x)) xs) (filter (λ x. passes (numbers x)) xs)) ≡ cond b (numbers x ∷ filter passes (map numbers xs)) (filter passes (map numbers xs))
      by_test true rest = ap (λ l. numbers x ∷ l) rest
      by_test false rest = rest

  pub any_numbers : (xs : List I) → list_any (λ x. passes (numbers x)) xs ≡ list_any passes (map numbers xs)
  any_numbers [] = refl
  any_numbers (x ∷ xs) = ap (λ b. passes (numbers x) || b) (any_numbers xs)
