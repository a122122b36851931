-- A file is read again.
use Rattle.std.proofs.Common.{◌≡◌, ℕ, ◌-◌, ◌^◌, ◌<◌, ◌==◌, true, false, ltb, List, [], ◌∷◌, ◌++◌, length, Ok, Err, refl, sym, ap, ◌∙◌, arith, append_assoc}
use Rattle.std.specs.Prelude.{if◌then◌else◌}
use Rattle.std.specs.Int.{w32, w64, to_le_bytes}
use Rattle.std.proofs.lemmas.Bool.{le-ltb, eq-eqb}
use Rattle.std.proofs.lemmas.List.{take_at, drop_at, length-append, append-nil}
use Rattle.triple_arena_snapshot.specs.declared.fault.Fault.{Fault}
use Rattle.triple_arena_snapshot.specs.declared.fault.Fault.TheVariants.{Mark, Version, Shape, Sum}
use Rattle.triple_arena_snapshot.specs.Coding.{Coding, ◌>>=◌}
use Rattle.triple_arena_snapshot.specs.Codings.{number_at_front, front_of}
use Rattle.triple_arena_snapshot.specs.Checksum.{crc32c, sealed}
use Rattle.triple_arena_snapshot.specs.Marks.{behind}
use Rattle.triple_arena_snapshot.specs.Shapes.{counted, behind_shape}
use Rattle.triple_arena_snapshot.specs.Files.{mark, version, head_of, file_of, before, ended, unsealed, sealed_in, payload_in, file_reading}
use Rattle.triple_arena_snapshot.specs.laws.CodingLaws.{wide32, wide64, number_again, whole_again}
use Rattle.triple_arena_snapshot.specs.laws.ChecksumLaws.{crc32c-lt}

behind_again : (marked : List ℕ) (fault : Fault) (rest : List ℕ) → behind marked fault (marked ++ rest) ≡ Ok rest
behind_again [] fault rest = refl
behind_again (m ∷ marked) fault rest = rw (eq-eqb m m refl) (behind_again marked fault rest)

shape_again : (shape rest : List ℕ) → length shape < 2 ^ 64 → behind_shape shape (counted shape ++ rest) ≡ Ok rest
shape_again shape rest few =
    ap (behind_shape shape) (append_assoc (to_le_bytes w64 (length shape)) shape rest)
    ∙ rw (number_again w64 (2 ^ 64) wide64 (length shape) (shape ++ rest) few, eq-eqb (length shape) (length shape) refl) (behind_again shape Shape rest)

-- all of the bytes in front are taken
front_again : (xs ys : List ℕ) (n : ℕ) → length xs ≡ n → front_of n (xs ++ ys) ≡ Ok (xs, ys)
front_again xs ys n long =
    let test : ltb (length (xs ++ ys)) n ≡ false = le-ltb _ _ (omega (arith, long, length-append xs ys)) in
    rw (test, take_at xs ys n long, drop_at xs ys n long) refl

pub before_all : (front rest : List ℕ) → before (front ++ rest) rest ≡ front
before_all front rest = take_at front rest (length (front ++ rest) - length rest) (omega (arith, length-append front rest))

unsealed_again : (front payload : List ℕ) → unsealed (sealed front) payload (to_le_bytes w32 (crc32c front)) ≡ Ok payload
unsealed_again front payload =
    let seal = to_le_bytes w32 (crc32c front) in
    let read = ap (number_at_front w32) (sym (append-nil seal)) ∙ number_again w32 (2 ^ 32) wide32 (crc32c front) [] (crc32c-lt front) in
    let is : (crc32c front == crc32c (before (sealed front) seal)) ≡ true = eq-eqb _ _ (ap crc32c (sym (before_all front seal))) in
    ap (λ r. r >>= λ sum. if sum.0 == crc32c (before (sealed front) seal) then ended payload sum.1 else Err (Sum, length seal)) read ∙ rw is refl

module _ (shape payload : List ℕ) where
  abbrev all : List ℕ
  all = head_of shape (length payload) ++ payload

  -- the parts of a file, each in front of those behind it
  laid : file_of shape payload ≡ mark ++ (version ++ (counted shape ++ (to_le_bytes w64 (length payload) ++ (payload ++ to_le_bytes w32 (crc32c all)))))
  laid =
      append_assoc (head_of shape (length payload)) payload (to_le_bytes w32 (crc32c all))
      ∙ ap (λ (xs : List ℕ). mark ++ (version ++ xs)) (append_assoc (counted shape) (to_le_bytes w64 (length payload)) (payload ++ to_le_bytes w32 (crc32c all)))

  payload_again : length shape < 2 ^ 64 → length payload < 2 ^ 64 → payload_in shape (file_of shape payload) ≡ Ok payload
  payload_again few_too few =
      ap (λ (xs : List ℕ). behind mark Mark xs >>= λ marked. behind version Version marked >>= λ rest. behind_shape shape rest >>= sealed_in (file_of shape payload)) laid
      ∙ rw (
        shape_again shape (to_le_bytes w64 (length payload) ++ (payload ++ to_le_bytes w32 (crc32c all))) few_too,
        number_again w64 (2 ^ 64) wide64 (length payload) (payload ++ to_le_bytes w32 (crc32c all)) few,
        front_again payload (to_le_bytes w32 (crc32c all)) (length payload) refl,
      )
      (unsealed_again all payload)

  -- a shape and the bytes of a value are fewer than those of the file
  pub few_in_file : (bytes : List ℕ) → bytes ≡ file_of shape payload → length bytes < 2 ^ 64 → (length shape < 2 ^ 64) × (length payload < 2 ^ 64)
  few_in_file bytes e few =
      let k = ap length e in
      let l = length-append all (to_le_bytes w32 (crc32c all)) in
      let m = length-append (head_of shape (length payload)) payload in
      let n = length-append (counted shape) (to_le_bytes w64 (length payload)) in
      let o = length-append (to_le_bytes w64 (length shape)) shape in
      (omega (arith, k, l, m, n, o, few), omega (arith, k, l, m, few))

-- what was saved is loaded again
pub file_again : {K : Type 0} (c : Coding K) (shape : List ℕ) (k : K) → length shape < 2 ^ 64 → length (c.encoding k) < 2 ^ 64 → c.fits k
    → file_reading shape c.decoding (file_of shape (c.encoding k)) ≡ Ok k
file_again c shape k few_too few fits = rw (payload_again shape (c.encoding k) few_too few, whole_again c k fits) refl
