-- An arena that was written is read again.
use Rattle.std.proofs.Common.{◌≡◌, ℕ, ◌^◌, ◌<◌, true, List, ◌∷◌, ◌++◌, Option, Some, None, refl, ap, ◌∙◌, append_assoc, arith}
use Rattle.std.specs.Int.{w64, to_le_bytes}
use Rattle.std.proofs.lemmas.Bool.{eq-eqb}
use Rattle.triple_arena_ptr.specs.Numbers.{greatest_index}
use Rattle.triple_arena_snapshot.specs.Coding.{Decoded}
use Rattle.triple_arena_snapshot.specs.Codings.{pair_bytes}
use Rattle.triple_arena_snapshot.specs.ArenaCodings.{most_slots, headed_bytes, headed_at_front, are_free, arena_at_front}
use Rattle.triple_arena_snapshot.specs.laws.CodingLaws.{IsReadAgain, wide64, number_again}

pub greatest_below : (last : ℕ) → greatest_index last < 2 ^ 64
greatest_below last = omega arith

pub most_below : (limit : Option ℕ) (last : ℕ) → most_slots limit (greatest_index last) < 2 ^ 64
most_below None last = omega arith
most_below (Some limit) last = omega arith

module _ {K : Type 0} (fits : K → Type 0) (encoding : K → List ℕ) (decoding : List ℕ → Decoded K) (again : IsReadAgain fits encoding decoding) where
  pub headed_again : (greatest width : ℕ) → greatest < 2 ^ 64 → IsReadAgain fits (headed_bytes greatest width encoding) (headed_at_front greatest width decoding)
  headed_again greatest width small k rest h =
      ap (headed_at_front greatest width decoding) (append_assoc (to_le_bytes w64 greatest) (width ∷ encoding k) rest)
      ∙ rw (number_again w64 (2 ^ 64) wide64 greatest (width ∷ encoding k ++ rest) small, eq-eqb greatest greatest refl, eq-eqb width width refl) (again k rest h)

module _ {A : Type 0} (fits : List (Option A) → Type 0) (encoding : List (Option A) → List ℕ) (decoding : List ℕ → Decoded (List (Option A))) (again : IsReadAgain fits encoding decoding)
    (counter_fits : ℕ → Type 0) (counter_encoding : ℕ → List ℕ) (counter_decoding : List ℕ → Decoded ℕ) (counter_again : IsReadAgain counter_fits counter_encoding counter_decoding)
    (free_fits : List ℕ → Type 0) (free_encoding : List ℕ → List ℕ) (free_decoding : List ℕ → Decoded (List ℕ)) (free_again : IsReadAgain free_fits free_encoding free_decoding) where
  pub arena_again : IsReadAgain {K = List (Option A) × (ℕ × List ℕ)} (λ k. fits k.0 × (counter_fits k.1.0 × (free_fits k.1.1 × (are_free k.0 k.1.1 ≡ true)))) (pair_bytes encoding (pair_bytes counter_encoding free_encoding)) (arena_at_front decoding counter_decoding free_decoding)
  arena_again k rest h =
      ap (arena_at_front decoding counter_decoding free_decoding) (append_assoc (encoding k.0) (counter_encoding k.1.0 ++ free_encoding k.1.1) rest ∙ ap (λ (x : List ℕ). encoding k.0 ++ x) (append_assoc (counter_encoding k.1.0) (free_encoding k.1.1) rest))
      ∙ rw (again k.0 (counter_encoding k.1.0 ++ (free_encoding k.1.1 ++ rest)) h.0, counter_again k.1.0 (free_encoding k.1.1 ++ rest) h.1.0, free_again k.1.1 rest h.1.1.0, h.1.1.1) refl
