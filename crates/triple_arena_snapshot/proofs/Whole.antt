-- Bytes that are read, and whether any are left behind what was read.
use Rattle.std.proofs.Common.{◌≡◌, ℕ, ◌==◌, true, false, true≢false, List, [], ◌∷◌, length, Ok, Err, sym, ap, ◌∙◌, arith}
use Rattle.triple_arena_traits.specs.laws.ItemLaws.{eq_false}
use Rattle.triple_arena_snapshot.specs.declared.fault.Fault.TheVariants.{Trailing}
use Rattle.triple_arena_snapshot.specs.Coding.{◌>>=◌, Decoded, alone}

module _ {K : Type 0} (decoded : Decoded K) (k : K) where
  pub read_whole : (rest : List ℕ) → decoded ≡ Ok (k, rest) → (length rest == 0) ≡ true → (decoded >>= alone) ≡ Ok k
  read_whole [] is none = ap (λ r. r >>= alone) is
  read_whole (b ∷ rest) is none = absurd (true≢false (sym none ∙ eq_false (length (b ∷ rest)) 0 (λ same. omega (arith, same))))

  pub left_behind : (rest : List ℕ) → decoded ≡ Ok (k, rest) → (length rest == 0) ≡ false → (decoded >>= alone) ≡ Err (Trailing, length rest)
  left_behind [] is some = absurd (true≢false some)
  left_behind (b ∷ rest) is some = ap (λ r. r >>= alone) is
