-- A float that was written is read again.
use Rattle.std.proofs.Common.{ℕ, ◌==◌, true, List, Ok, refl}
use Rattle.std.specs.Prelude.{T}
use Rattle.std.proofs.lemmas.Bool.{eq-eqb}
use lib.Ieee.{Float, Format, fits, to_bits, of_bits}
use lib.Ieee.Bits.{of_bits-to_bits}
use Rattle.triple_arena_snapshot.specs.Coding.{Decoded}
use Rattle.triple_arena_snapshot.specs.FloatCodings.{float_at_front}
use Rattle.triple_arena_snapshot.specs.laws.CodingLaws.{IsReadAgain}

pub float_again : (f : Format) (few : ℕ → Type 0) (encoding : ℕ → List ℕ) (decoding : List ℕ → Decoded ℕ) → IsReadAgain few encoding decoding
    → IsReadAgain (λ x. T (fits f x) × few (to_bits f x)) (λ x. encoding (to_bits f x)) (float_at_front f decoding)
float_again f few encoding decoding again x rest h = rw (again (to_bits f x) rest h.1, of_bits-to_bits f x h.0, eq-eqb (to_bits f x) _ refl) refl
