-- The indexes of a list up to a number.
use Rattle.std.proofs.Common.{◌≡◌, ℕ, zero, suc, ◌+◌, ◌<◌, ◌≤◌, ◌==◌, nat_le, Bool, true, false, List, [], ◌∷◌, length, count_by, cond, refl, sym, ap, ◌∙◌, inl, inr, arith}
use Rattle.std.proofs.lemmas.Bool.{cases_lt, leb-true, leb-false}
use Rattle.std.proofs.lemmas.List.Sums.{sum_by-cons}
use Rattle.triple_arena_traits.specs.FreeList.{up_to}
use Rattle.triple_arena_traits.specs.laws.ItemLaws.{eq_true}
use Rattle.triple_arena_traits.specs.laws.EntryLaws.{count_head}
use Rattle.triple_arena_traits.specs.laws.WellFormedLaws.{count_tail}

pub up_to-cons : (n i : ℕ) (xs : List ℕ) → i ≤ n → up_to n (i ∷ xs) ≡ i ∷ up_to n xs
up_to-cons n i xs h = by_test (nat_le i n) refl
  where
    by_test : (b : Bool) → nat_le i n ≡ b → cond b (i ∷ up_to n xs) (up_to n xs) ≡ i ∷ up_to n xs
    by_test true e = refl
    by_test false e = absurd (omega (arith, leb-false i n e))

pub up_to-past : (n i : ℕ) (xs : List ℕ) → n < i → up_to n (i ∷ xs) ≡ up_to n xs
up_to-past n i xs h = by_test (nat_le i n) refl
  where
    by_test : (b : Bool) → nat_le i n ≡ b → cond b (i ∷ up_to n xs) (up_to n xs) ≡ up_to n xs
    by_test true e = absurd (omega (arith, leb-true i n e))
    by_test false e = refl

-- an index that is left counts as before, and no other does
pub count-up_to : (n i : ℕ) (xs : List ℕ) → i ≤ n → count_by (λ k. k == i) (up_to n xs) ≡ count_by (λ k. k == i) xs
count-up_to n i [] h = refl
count-up_to n i (x ∷ xs) h =
    elim (cases_lt n x) [
      | inl past ↦ rw (up_to-past n x xs past) (count-up_to n i xs h ∙ sym (count_tail x i xs (λ e. omega arith)))
      | inr within ↦ rw (up_to-cons n x xs within) (omega (arith, sum_by-cons (λ k. cond (k == i) 1 0) x (up_to n xs), sum_by-cons (λ k. cond (k == i) 1 0) x xs, count-up_to n i xs h))
    ]

pub count-past : (n i : ℕ) (xs : List ℕ) → n < i → count_by (λ k. k == i) (up_to n xs) ≡ 0
count-past n i [] h = refl
count-past n i (x ∷ xs) h =
    elim (cases_lt n x) [
      | inl past ↦ rw (up_to-past n x xs past) (count-past n i xs h)
      | inr within ↦ rw (up_to-cons n x xs within) (count_tail x i (up_to n xs) (λ e. omega arith) ∙ count-past n i xs h)
    ]

-- how many more are left up to the next number
length_next : (n : ℕ) (xs : List ℕ) → length (up_to (suc n) xs) ≡ length (up_to n xs) + count_by (λ k. k == suc n) xs
length_next n [] = refl
length_next n (x ∷ xs) =
    elim (cases_lt n x) [
      | inl past ↦ rw (up_to-past n x xs past) (elim (cases_lt (suc n) x) [
        | inl far ↦ rw (up_to-past (suc n) x xs far, count_tail x (suc n) xs (λ e. omega arith)) (length_next n xs)
        | inr at ↦
            let here : x ≡ suc n = omega (arith, past, at) in
            rw (up_to-cons (suc n) x xs at) (omega (arith, length_next n xs, sum_by-cons (λ k. cond (k == suc n) 1 0) x xs, ap {B = ℕ} (λ b. cond b 1 0) (eq_true x (suc n) here)))
      ])
      | inr within ↦ rw (up_to-cons n x xs within, up_to-cons (suc n) x xs (omega arith), count_tail x (suc n) xs (λ e. omega arith)) (omega (arith, length_next n xs))
    ]

-- where each of the next numbers is there once
pub length_more : (n k : ℕ) (xs : List ℕ) → ((i : ℕ) → n < i → i ≤ n + k → count_by (λ j. j == i) xs ≡ 1) → length (up_to (n + k) xs) ≡ length (up_to n xs) + k
length_more n zero xs once = let same : n + 0 ≡ n = omega arith in rw same (omega arith)
length_more n (suc k) xs once =
    let next : n + suc k ≡ suc (n + k) = omega arith in
    rw next (omega (arith, length_next (n + k) xs, once (suc (n + k)) (omega arith) (omega arith), length_more n k xs (λ i h l. once i h (omega arith))))

-- no index is past the last number that is there
pub up_to_all : (n : ℕ) (xs : List ℕ) → ((i : ℕ) → n < i → count_by (λ j. j == i) xs ≡ 0) → up_to n xs ≡ xs
up_to_all n [] none = refl
up_to_all n (x ∷ xs) none =
    elim (cases_lt n x) [
      | inl past ↦ absurd (omega (arith, none x past, count_head x xs))
      | inr within ↦ up_to-cons n x xs within ∙ ap (λ l. x ∷ l) (up_to_all n xs (λ i h. omega (arith, none i h, sum_by-cons (λ k. cond (k == i) 1 0) x xs)))
    ]
