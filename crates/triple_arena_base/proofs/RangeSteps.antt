-- A range of numbers without its first or its last.
use Rattle.std.specs.Prelude.{MatchOption}
use Rattle.std.proofs.Common.{◌≡◌, ℕ, zero, suc, ◌+◌, ◌-◌, ◌≤◌, ◌<◌, List, [], ◌∷◌, ◌++◌, Option, Some, None, refl, sym, ap, ◌∙◌, arith}
use Rattle.std.specs.List.{range_with_len}
use Rattle.std.specs.declared.num.NonZeroUsize.{NonZeroUsize}
use Rattle.std.specs.Int.NonZero.{non_zero_usize_get}
use Rattle.triple_arena_base.specs.NonZeroRange.{numbers_through}

range_first : (a b : ℕ) → a ≤ b → range_with_len a (b + 1 - a) ≡ a ∷ range_with_len (a + 1) (b + 1 - (a + 1))
range_first a b h = let e : b + 1 - a ≡ suc (b + 1 - (a + 1)) = omega arith in rw e refl

range_last : (a n : ℕ) → range_with_len a (suc n) ≡ range_with_len a n ++ (a + n) ∷ []
range_last a zero = let e : a ≡ a + 0 = omega arith in ap (λ k. k ∷ []) e
range_last a (suc n) =
    let e : (a + 1) + n ≡ a + suc n = omega arith in
    ap (λ l. a ∷ l) (range_last (a + 1) n ∙ ap (λ k. range_with_len (a + 1) n ++ k ∷ []) e)

-- all numbers are the first and those from the next on
pub without_first : (a next end : NonZeroUsize) (o : Option NonZeroUsize) (all : List ℕ) → numbers_through a o ≡ all → o ≡ Some end
    → non_zero_usize_get a < non_zero_usize_get end → non_zero_usize_get next ≡ non_zero_usize_get a + 1
    → all ≡ non_zero_usize_get a ∷ numbers_through next o
without_first a next end o all view some below is =
    sym view ∙ rw some (range_first (non_zero_usize_get a) (non_zero_usize_get end) (omega arith)
    ∙ ap (λ k. non_zero_usize_get a ∷ range_with_len k (non_zero_usize_get end + 1 - k)) (sym is))

-- all numbers are those before the last, and the last
pub without_last : (a end : NonZeroUsize) (o : Option NonZeroUsize) (p : Option NonZeroUsize) (all : List ℕ) → numbers_through a o ≡ all → o ≡ Some end
    → non_zero_usize_get a < non_zero_usize_get end → MatchOption p (non_zero_usize_get end - 1 ≡ 0) (λ last. non_zero_usize_get last ≡ non_zero_usize_get end - 1)
    → all ≡ numbers_through a p ++ non_zero_usize_get end ∷ []
without_last a end o None all view some below is = let h = a.ok in absurd (omega arith)
without_last a end o (Some last) all view some below is =
    let n = non_zero_usize_get last + 1 - non_zero_usize_get a in
    let e : non_zero_usize_get end + 1 - non_zero_usize_get a ≡ suc n = omega arith in
    let k : non_zero_usize_get a + n ≡ non_zero_usize_get end = omega arith in
    sym view ∙ rw (some, e) (range_last (non_zero_usize_get a) n ∙ ap (λ m. range_with_len (non_zero_usize_get a) n ++ m ∷ []) k)
