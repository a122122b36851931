-- How the values of each type stand as bytes, with the law, in one term: of these a struct's is made.
use Rattle.std.specs.Prelude.{◌≡◌, ℕ, ◌+◌, ◌*◌, ◌/◌, ◌%◌, ◌<◌, ◌^◌, ℤ, Bool, true, List, [], ◌∷◌, length, Option, IfSome, Ok}
use Rattle.std.proofs.Common.{refl}
use Rattle.std.specs.Int.{Width, w64, w128, to_le_bytes, cast_unsigned, cast_signed}
use Rattle.std.specs.List.{AllByRecursion}
use Rattle.std.specs.Str.{is_utf8}
use Rattle.triple_arena_snapshot.specs.Coding.{Coding, ◌>>=◌}
use Rattle.triple_arena_snapshot.specs.Codings.{byte_at_front, number_at_front, unit_at_front, bool_bytes, bool_at_front, option_bytes, option_at_front, pair_bytes, pair_at_front, list_bytes, list_at_front, text_bytes, text_at_front, positive_at_front, index_at_front}
use Rattle.triple_arena_snapshot.specs.laws.CodingLaws.{IsWide, wide64, number_again, through_again, bool_again, positive_again, option_again, pair_again, list_again, text_again, index_again}

-- a byte
abbrev pub byte : Coding ℕ
byte = record { fits = λ n. n < 2 ^ 8; encoding = λ n. n ∷ []; decoding = byte_at_front; decodes = λ n rest fits. refl }

-- a number of this width
abbrev pub number : (w : Width) (limit : ℕ) → IsWide w limit → Coding ℕ
number w limit wide = record { fits = λ n. n < limit; encoding = to_le_bytes w; decoding = number_at_front w; decodes = number_again w limit wide }

-- what is written as something else, and is made of that again
abbrev pub through : {K L : Type 0} → (L → K) → (K → L) → Coding K → Coding L
through as_other of_other c = record {
  fits = λ l. c.fits (as_other l) × (of_other (as_other l) ≡ l);
  encoding = λ l. c.encoding (as_other l);
  decoding = λ bytes. c.decoding bytes >>= λ x. Ok (of_other x.0, x.1);
  decodes = through_again c.fits c.encoding c.decoding c.decodes as_other of_other;
}

-- a signed number of this width, in two's complement
abbrev pub signed : (w : Width) (limit : ℕ) → IsWide w limit → Coding ℤ
signed w limit wide = through (cast_unsigned w) (cast_signed w) (number w limit wide)

-- nothing, and the truth
abbrev pub unit : Coding (Unit {0})
unit = record { fits = λ u. Unit {0}; encoding = λ u. 0 ∷ []; decoding = unit_at_front; decodes = λ u rest fits. refl }

abbrev pub bool : Coding Bool
bool = record { fits = λ b. Unit {0}; encoding = bool_bytes; decoding = bool_at_front; decodes = bool_again }

-- a number that is known, and takes no byte
abbrev pub nothing : ℕ → Coding ℕ
nothing known = record { fits = λ n. n ≡ known; encoding = λ n. []; decoding = λ bytes. Ok (known, bytes); decodes = λ n rest is. rw is refl }

-- a value or none
abbrev pub option : {K : Type 0} → Coding K → Coding (Option K)
option c = record {
  fits = λ o. IfSome o c.fits;
  encoding = option_bytes c.encoding;
  decoding = option_at_front c.decoding;
  decodes = option_again c.fits c.encoding c.decoding c.decodes;
}

-- one value and then another: a struct of three fields is a field and then the two others
abbrev pub both : {K L : Type 0} → Coding K → Coding L → Coding (K × L)
both c d = record {
  fits = λ p. c.fits p.0 × d.fits p.1;
  encoding = pair_bytes c.encoding d.encoding;
  decoding = pair_at_front c.decoding d.decoding;
  decodes = pair_again c.fits c.encoding c.decoding c.decodes d.fits d.encoding d.decoding d.decodes;
}

-- values in order
abbrev pub list : {K : Type 0} → Coding K → Coding (List K)
list c = record {
  fits = λ ks. (length ks < 2 ^ 64) × AllByRecursion c.fits ks;
  encoding = list_bytes c.encoding;
  decoding = list_at_front c.decoding;
  decodes = list_again c.fits c.encoding c.decoding c.decodes;
}

-- text, by the bytes of its UTF-8
abbrev pub text : Coding (List ℕ)
text = record {
  fits = λ bytes. (length bytes < 2 ^ 64) × (is_utf8 bytes ≡ true);
  encoding = text_bytes;
  decoding = text_at_front;
  decodes = text_again;
}

-- a number that isn't 0
abbrev pub positive : Coding ℕ → Coding ℕ
positive c = record {
  fits = λ n. (0 < n) × c.fits n;
  encoding = c.encoding;
  decoding = positive_at_front c.decoding;
  decodes = positive_again c.fits c.encoding c.decoding c.decodes;
}

-- the numbers of a pointer: its index and its generation
abbrev pub pointer : Coding ℕ → Coding ℕ → Coding (ℕ × ℕ)
pointer index generation = both (positive index) (positive generation)

-- the numbers of a pointer without a generation: its index, and 1
abbrev pub bare_pointer : Coding ℕ → Coding (ℕ × ℕ)
bare_pointer index = record {
  fits = λ p. (positive index).fits p.0 × (p.1 ≡ 1);
  encoding = λ p. index.encoding p.0;
  decoding = index_at_front (positive index).decoding;
  decodes = index_again (positive index).fits index.encoding (positive index).decoding (positive index).decodes;
}

-- a number of sixteen bytes: its low half and then its high one
abbrev pub long_number : Coding ℕ
long_number = let half = number w64 (2 ^ 64) wide64 in through (λ n. (n % 2 ^ 64, n / 2 ^ 64)) (λ halves. halves.1 * 2 ^ 64 + halves.0) (both half half)

-- a signed number of sixteen bytes
abbrev pub signed_long_number : Coding ℤ
signed_long_number = through (cast_unsigned w128) (cast_signed w128) long_number
