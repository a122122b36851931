-- What was written is read again, whatever stands behind it.
use Rattle.std.proofs.Common.{◌≡◌, ℕ, suc, ◌^◌, ◌<◌, ◌≤◌, true, false, ltb, List, [], ◌∷◌, ◌++◌, length, Some, None, Ok, refl, sym, ap, ◌∙◌, append_assoc, arith}
use Rattle.std.specs.Prelude.{IfSome}
use Rattle.std.specs.Int.{Width, w16, w32, w64, byte_len, to_le_bytes, from_le_bytes}
use Rattle.std.specs.List.{flat_map, AllByRecursion}
use Rattle.std.specs.Str.{is_utf8}
use Rattle.std.proofs.lemmas.Bool.{le-ltb, ne_eqb}
use Rattle.std.proofs.lemmas.List.{take_at, drop_at, length-append, append-nil}
use Rattle.std.proofs.lemmas.List.Concat.{flat_map-cons}
use Rattle.std.proofs.lemmas.Nat.{from_le_bytes-to_le_bytes_2, from_le_bytes-to_le_bytes_4, from_le_bytes-to_le_bytes_8}
use Rattle.triple_arena_snapshot.specs.Coding.{Decoded, whole, Coding, ◌>>=◌}
use Rattle.triple_arena_snapshot.specs.Codings.{number_at_front, option_bytes, option_at_front, bool_bytes, bool_at_front, pair_bytes, pair_at_front, list_bytes, many_at_front, list_at_front, list_within, text_bytes, text_at_front, positive_at_front, index_at_front}

-- what is read of what was written, with anything behind it
abbrev pub IsReadAgain : {K : Type 0} → (K → Type 0) → (K → List ℕ) → (List ℕ → Decoded K) → Type 0
IsReadAgain {K = K} fits encoding decoding = (k : K) (rest : List ℕ) → fits k → decoding (encoding k ++ rest) ≡ Ok (k, rest)

-- what was written, with nothing behind it, is read again
pub whole_again : {K : Type 0} (c : Coding K) (k : K) → c.fits k → whole c.decoding (c.encoding k) ≡ Ok k
whole_again c k fits = ap (whole c.decoding) (sym (append-nil (c.encoding k))) ∙ rw (c.decodes k [] fits) refl

-- a width in whole bytes, whose numbers are those below a limit
pub record IsWide (w : Width) (limit : ℕ) : Type 0 where
  pub long : (n : ℕ) → length (to_le_bytes w n) ≡ byte_len w
  pub again : (n : ℕ) → n < limit → from_le_bytes w (to_le_bytes w n) ≡ n

pub wide16 : IsWide w16 (2 ^ 16)
wide16 = record { long = λ n. refl; again = λ n lt. from_le_bytes-to_le_bytes_2 n lt }

pub wide32 : IsWide w32 (2 ^ 32)
wide32 = record { long = λ n. refl; again = λ n lt. from_le_bytes-to_le_bytes_4 n lt }

pub wide64 : IsWide w64 (2 ^ 64)
wide64 = record { long = λ n. refl; again = λ n lt. from_le_bytes-to_le_bytes_8 n lt }

pub number_again : (w : Width) (limit : ℕ) → IsWide w limit → IsReadAgain (λ n. n < limit) (to_le_bytes w) (number_at_front w)
number_again w limit wide n rest lt =
    let long = wide.long n in
    let test : ltb (length (to_le_bytes w n ++ rest)) (byte_len w) ≡ false = le-ltb _ _ (omega (arith, long, length-append (to_le_bytes w n) rest)) in
    rw (test, take_at (to_le_bytes w n) rest (byte_len w) long, drop_at (to_le_bytes w n) rest (byte_len w) long, wide.again n lt) refl

pub bool_again : IsReadAgain (λ b. Unit {0}) bool_bytes bool_at_front
bool_again false rest fits = refl
bool_again true rest fits = refl

module _ {K : Type 0} (fits : K → Type 0) (encoding : K → List ℕ) (decoding : List ℕ → Decoded K) (again : IsReadAgain fits encoding decoding) where
  pub option_again : IsReadAgain (λ o. IfSome o fits) (option_bytes encoding) (option_at_front decoding)
  option_again None rest h = refl
  option_again (Some k) rest h = rw (again k rest h) refl

  pub through_again : {L : Type 0} (as_other : L → K) (of_other : K → L) → IsReadAgain (λ l. fits (as_other l) × (of_other (as_other l) ≡ l)) (λ l. encoding (as_other l)) (λ bytes. decoding bytes >>= λ x. Ok (of_other x.0, x.1))
  through_again as_other of_other l rest h = rw (again (as_other l) rest h.0) (ap (λ x. Ok (x, rest)) h.1)

  pub pair_again : {L : Type 0} (fits_too : L → Type 0) (second : L → List ℕ) (decoding_too : List ℕ → Decoded L) → IsReadAgain fits_too second decoding_too
      → IsReadAgain (λ p. fits p.0 × fits_too p.1) (pair_bytes encoding second) (pair_at_front decoding decoding_too)
  pair_again fits_too second decoding_too again_too p rest h =
      ap (pair_at_front decoding decoding_too) (append_assoc (encoding p.0) (second p.1) rest)
      ∙ rw (again p.0 (second p.1 ++ rest) h.0, again_too p.1 rest h.1) refl

  pub many_again : (ks : List K) (rest : List ℕ) → AllByRecursion fits ks → many_at_front decoding (length ks) (flat_map encoding ks ++ rest) ≡ Ok (ks, rest)
  many_again [] rest h = refl
  many_again (k ∷ ks) rest h =
      ap (many_at_front decoding (suc (length ks))) (ap (λ (x : List ℕ). x ++ rest) (flat_map-cons encoding k ks) ∙ append_assoc (encoding k) (flat_map encoding ks) rest)
      ∙ rw (again k (flat_map encoding ks ++ rest) h.0, many_again ks rest h.1) refl

  pub list_again : IsReadAgain (λ ks. (length ks < 2 ^ 64) × AllByRecursion fits ks) (list_bytes encoding) (list_at_front decoding)
  list_again ks rest h =
      ap (list_at_front decoding) (append_assoc (to_le_bytes w64 (length ks)) (flat_map encoding ks) rest)
      ∙ rw (number_again w64 (2 ^ 64) wide64 (length ks) (flat_map encoding ks ++ rest) h.0) (many_again ks rest h.1)

  pub within_again : (most : ℕ) → most < 2 ^ 64 → IsReadAgain (λ ks. (length ks ≤ most) × AllByRecursion fits ks) (list_bytes encoding) (list_within most decoding)
  within_again most small ks rest h =
      let test : ltb most (length ks) ≡ false = le-ltb _ _ h.0 in
      ap (list_within most decoding) (append_assoc (to_le_bytes w64 (length ks)) (flat_map encoding ks) rest)
      ∙ rw (number_again w64 (2 ^ 64) wide64 (length ks) (flat_map encoding ks ++ rest) (omega (arith, h.0, small)), test) (many_again ks rest h.1)

pub text_again : IsReadAgain (λ text. (length text < 2 ^ 64) × (is_utf8 text ≡ true)) text_bytes text_at_front
text_again text rest h =
    let test : ltb (length (text ++ rest)) (length text) ≡ false = le-ltb _ _ (omega (arith, length-append text rest)) in
    ap text_at_front (append_assoc (to_le_bytes w64 (length text)) text rest)
    ∙ rw (number_again w64 (2 ^ 64) wide64 (length text) (text ++ rest) h.0, test, take_at text rest (length text) refl, drop_at text rest (length text) refl, h.1) refl

module _ (fits : ℕ → Type 0) (encoding : ℕ → List ℕ) (decoding : List ℕ → Decoded ℕ) (again : IsReadAgain fits encoding decoding) where
  pub positive_again : IsReadAgain (λ n. (0 < n) × fits n) encoding (positive_at_front decoding)
  positive_again n rest h = rw (again n rest h.1, ne_eqb n 0 (λ e. omega (arith, e, h.0))) refl

  pub index_again : IsReadAgain {K = ℕ × ℕ} (λ p. fits p.0 × (p.1 ≡ 1)) (λ p. encoding p.0) (index_at_front decoding)
  index_again p rest h = rw (again p.0 rest h.0) (ap (λ g. Ok ((p.0, g), rest)) (sym h.1))
