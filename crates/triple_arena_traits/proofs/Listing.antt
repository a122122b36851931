-- How many entries and items there are.
use Rattle.std.proofs.Common.{◌≡◌, ℕ, ◌≤◌, ◌<◌, List, [], ◌∷◌, map, length, cond, Option, Some, None, is_some, refl, arith}
use Rattle.std.proofs.lemmas.List.{length-map}
use Rattle.std.proofs.lemmas.List.Sums.{sum_by-cons}
use Rattle.triple_arena_traits.specs.Entries.{entry_count}
use Rattle.triple_arena_traits.specs.Walks.{entries_from}
use Rattle.triple_arena_traits.specs.laws.WalkLaws.{length-entries_from}

module _ {T : Type 0} where
  -- there are no more entries than slots
  pub count_within : (slots : List (Option (ℕ × T))) → entry_count slots ≤ length slots
  count_within [] = omega arith
  count_within (None ∷ slots) = omega (arith, count_within slots, sum_by-cons (λ o. cond (is_some o) 1 0) None slots)
  count_within (Some e ∷ slots) = omega (arith, count_within slots, sum_by-cons (λ o. cond (is_some o) 1 0) (Some e) slots)

module _ {A : Type 0} where
  -- a list that isn't empty has a first item
  pub first_of : (xs : List A) → 0 < length xs → (x : A) × (rest : List A) × (xs ≡ x ∷ rest)
  first_of [] some = absurd (omega arith)
  first_of (x ∷ rest) some = (x, rest, refl)

module _ {X T : Type 0} (entry : X → Option (ℕ × T)) where
  -- there are no more items than slots
  pub entries_within : (i : ℕ) (xs : List X) → length (entries_from i (map entry xs)) ≤ length xs
  entries_within i xs = omega (arith, length-entries_from i (map entry xs), count_within (map entry xs), length-map xs entry)
