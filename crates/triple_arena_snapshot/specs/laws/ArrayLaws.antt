-- An array that was written is read again.
use Rattle.std.proofs.Common.{◌≡◌, ℕ, List, ◌++◌, length, ap, sym, ◌∙◌, Ok}
use Rattle.std.specs.List.{flat_map, AllByRecursion}
use Rattle.triple_arena_snapshot.specs.Coding.{Decoded}
use Rattle.triple_arena_snapshot.specs.Codings.{many_at_front}
use Rattle.triple_arena_snapshot.specs.laws.CodingLaws.{IsReadAgain, many_again}

pub array_again : {K : Type 0} (n : ℕ) (fits : K → Type 0) (encoding : K → List ℕ) (decoding : List ℕ → Decoded K) → IsReadAgain fits encoding decoding
    → IsReadAgain (λ ks. (length ks ≡ n) × AllByRecursion fits ks) (flat_map encoding) (many_at_front decoding n)
array_again n fits encoding decoding again ks rest h = ap (λ (m : ℕ). many_at_front decoding m (flat_map encoding ks ++ rest)) (sym h.0) ∙ many_again fits encoding decoding again ks rest h.1
