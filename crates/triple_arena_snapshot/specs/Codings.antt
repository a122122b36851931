-- How the values of std's types stand as bytes.
use Rattle.std.specs.Prelude.{ℕ, zero, suc, ◌==◌, nat_lt, if◌then◌else◌, Bool, true, false, List, [], ◌∷◌, ◌++◌, length, take, drop, Option, Some, None, Ok, Err}
use Rattle.std.specs.Int.{Width, w64, byte_len, to_le_bytes, from_le_bytes}
use Rattle.std.specs.List.{flat_map}
use Rattle.std.specs.Str.{is_utf8}
use Rattle.triple_arena_snapshot.specs.declared.fault.Fault.TheVariants.{Cut, Flag, Zero, Text, Slots}
use Rattle.triple_arena_snapshot.specs.Coding.{Decoded, ◌>>=◌}

-- a byte
abbrev pub byte_at_front : List ℕ → Decoded ℕ
byte_at_front [] = Err (Cut, 0)
byte_at_front (b ∷ bytes) = Ok (b, bytes)

-- the number in the first bytes, the lowest first
abbrev pub number_at_front : Width → List ℕ → Decoded ℕ
number_at_front w bytes =
    if nat_lt (length bytes) (byte_len w) then Err (Cut, length bytes)
    else Ok (from_le_bytes w (take (byte_len w) bytes), drop (byte_len w) bytes)

-- nothing and the truth are a byte each
abbrev pub unit_at_front : List ℕ → Decoded (Unit {0})
unit_at_front [] = Err (Cut, 0)
unit_at_front (zero ∷ bytes) = Ok (tt, bytes)
unit_at_front (suc b ∷ bytes) = Err (Flag, suc (length bytes))

abbrev pub bool_bytes : Bool → List ℕ
bool_bytes false = 0 ∷ []
bool_bytes true = 1 ∷ []

abbrev pub bool_at_front : List ℕ → Decoded Bool
bool_at_front [] = Err (Cut, 0)
bool_at_front (zero ∷ bytes) = Ok (false, bytes)
bool_at_front (suc zero ∷ bytes) = Ok (true, bytes)
bool_at_front (suc (suc b) ∷ bytes) = Err (Flag, suc (length bytes))

-- a flag, and the value where there is one
abbrev pub option_bytes : {K : Type 0} → (K → List ℕ) → Option K → List ℕ
option_bytes encoding None = 0 ∷ []
option_bytes encoding (Some k) = 1 ∷ encoding k

abbrev pub option_at_front : {K : Type 0} → (List ℕ → Decoded K) → List ℕ → Decoded (Option K)
option_at_front decoding [] = Err (Cut, 0)
option_at_front decoding (zero ∷ bytes) = Ok (None, bytes)
option_at_front decoding (suc zero ∷ bytes) = decoding bytes >>= λ x. Ok (Some x.0, x.1)
option_at_front decoding (suc (suc b) ∷ bytes) = Err (Flag, suc (length bytes))

-- one value and then the other
abbrev pub pair_bytes : {K L : Type 0} → (K → List ℕ) → (L → List ℕ) → K × L → List ℕ
pair_bytes first second p = first p.0 ++ second p.1

abbrev pub pair_at_front : {K L : Type 0} → (List ℕ → Decoded K) → (List ℕ → Decoded L) → List ℕ → Decoded (K × L)
pair_at_front first second bytes = first bytes >>= λ x. second x.1 >>= λ y. Ok ((x.0, y.0), y.1)

-- how many there are, and each, in order
abbrev pub list_bytes : {K : Type 0} → (K → List ℕ) → List K → List ℕ
list_bytes encoding ks = to_le_bytes w64 (length ks) ++ flat_map encoding ks

abbrev pub many_at_front : {K : Type 0} → (List ℕ → Decoded K) → ℕ → List ℕ → Decoded (List K)
many_at_front decoding zero bytes = Ok ([], bytes)
many_at_front decoding (suc n) bytes = decoding bytes >>= λ x. many_at_front decoding n x.1 >>= λ xs. Ok (x.0 ∷ xs.0, xs.1)

abbrev pub list_at_front : {K : Type 0} → (List ℕ → Decoded K) → List ℕ → Decoded (List K)
list_at_front decoding bytes = number_at_front w64 bytes >>= λ n. many_at_front decoding n.0 n.1

-- how many bytes of UTF-8 there are, and they
abbrev pub text_bytes : List ℕ → List ℕ
text_bytes text = to_le_bytes w64 (length text) ++ text

abbrev pub front_of : ℕ → List ℕ → Decoded (List ℕ)
front_of n bytes = if nat_lt (length bytes) n then Err (Cut, length bytes) else Ok (take n bytes, drop n bytes)

abbrev pub text_at_front : List ℕ → Decoded (List ℕ)
text_at_front bytes =
    number_at_front w64 bytes >>= λ n. front_of n.0 n.1
    >>= λ x. if is_utf8 x.0 then Ok x else Err (Text, length n.1)

-- a number that isn't 0
abbrev pub positive_at_front : (List ℕ → Decoded ℕ) → List ℕ → Decoded ℕ
positive_at_front decoding bytes = decoding bytes >>= λ n. if n.0 == 0 then Err (Zero, length bytes) else Ok n

-- a pointer of a type without generations is its index; the number of its generation is 1
abbrev pub index_at_front : (List ℕ → Decoded ℕ) → List ℕ → Decoded (ℕ × ℕ)
index_at_front decoding bytes = decoding bytes >>= λ n. Ok ((n.0, 1), n.1)

-- values in order, so many at most: a count past them is refused before a value is read
abbrev pub list_within : {K : Type 0} → ℕ → (List ℕ → Decoded K) → List ℕ → Decoded (List K)
list_within most decoding bytes =
    number_at_front w64 bytes >>= λ n. if nat_lt most n.0 then Err (Slots, length bytes) else many_at_front decoding n.0 n.1
