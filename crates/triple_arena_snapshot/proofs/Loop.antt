-- Reading values one after the other, as a loop does.
use Rattle.std.proofs.Common.{◌≡◌, ℕ, suc, ◌-◌, ◌+◌, ◌≤◌, ◌<◌, List, [], ◌∷◌, ◌++◌, Ok, Err, refl, sym, ap, ◌∙◌, append_assoc, arith}
use Rattle.std.proofs.lemmas.List.{append-nil}
use Rattle.triple_arena_snapshot.specs.declared.fault.DecodeError.{DecodeError}
use Rattle.triple_arena_snapshot.specs.declared.fault.DecodeError.TheVariants as errors
use Rattle.triple_arena_snapshot.specs.Coding.{Decoded, ◌>>=◌, Fails}
use Rattle.triple_arena_snapshot.specs.Codings.{many_at_front}

module _ {K : Type 0} where
  -- what was read before, and what is still read
  abbrev pub with_front : List K → Decoded (List K) → Decoded (List K)
  with_front front read = read >>= λ x. Ok (front ++ x.0, x.1)

  regroup : (front : List K) (k : K) (read : Decoded (List K)) → with_front front (read >>= λ x. Ok (k ∷ x.0, x.1)) ≡ with_front (front ++ k ∷ []) read
  regroup front k (Ok x) = ap (λ (ks : List K). Ok (ks, x.1)) (simp append_assoc)
  regroup front k (Err f) = refl

  module _ (decoding : List ℕ → Decoded K) where
    pub goes_on : (front : List K) (count i : ℕ) (bytes : List ℕ) (k : K) (after : List ℕ) (total : Decoded (List K)) → i < count → decoding bytes ≡ Ok (k, after)
        → with_front front (many_at_front decoding (count - i) bytes) ≡ total → with_front (front ++ k ∷ []) (many_at_front decoding (count - (i + 1)) after) ≡ total
    goes_on front count i bytes k after total lt h so_far =
        let n : count - i ≡ suc (count - (i + 1)) = omega arith in
        let one : with_front front (many_at_front decoding (count - i) bytes) ≡ with_front (front ++ k ∷ []) (many_at_front decoding (count - (i + 1)) after)
        = rw (n, h) (regroup front k (many_at_front decoding (count - (i + 1)) after)) in
        sym one ∙ so_far

    pub ends : (e : DecodeError) (front : List K) (count i : ℕ) (bytes : List ℕ) (total : Decoded (List K)) → i < count → Fails e (decoding bytes)
        → with_front front (many_at_front decoding (count - i) bytes) ≡ total → Fails e total
    ends errors.Memory front count i bytes total lt h so_far = tt
    ends (errors.Malformed fault left) front count i bytes total lt h so_far =
        let n : count - i ≡ suc (count - (i + 1)) = omega arith in
        let one : with_front front (many_at_front decoding (count - i) bytes) ≡ Err (fault, left) = rw (n, h) refl in
        sym so_far ∙ one

    pub is_done : (front : List K) (count i : ℕ) (bytes : List ℕ) (total : Decoded (List K)) → count ≤ i → with_front front (many_at_front decoding (count - i) bytes) ≡ total → total ≡ Ok (front, bytes)
    is_done front count i bytes total le so_far =
        let n : count - i ≡ 0 = omega arith in
        let one : with_front front (many_at_front decoding (count - i) bytes) ≡ Ok (front, bytes) = rw n (ap (λ (ks : List K). Ok (ks, bytes)) (append-nil front)) in
        sym so_far ∙ one
