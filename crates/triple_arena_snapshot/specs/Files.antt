-- A file: a mark, a version, the shape of a value, how many bytes the value takes, these bytes, and a checksum.
use Rattle.std.specs.Prelude.{◌≡◌, ℕ, ◌-◌, ◌<◌, ◌==◌, if◌then◌else◌, List, [], ◌∷◌, ◌++◌, length, take, Option, Result, Ok, Err, codes}
use Rattle.std.specs.Int.{w32, w64, to_le_bytes}
use Rattle.std.specs.Io.KnownBytes.{Appends, Keeps}
use Rattle.triple_arena_snapshot.specs.declared.fault.Fault.TheVariants.{Trailing, Mark, Version, Sum}
use Rattle.triple_arena_snapshot.specs.declared.fault.DecodeError.{DecodeError}
use Rattle.triple_arena_snapshot.specs.declared.fault.DecodeError.TheVariants as decoding
use Rattle.triple_arena_snapshot.specs.declared.fault.LoadError.{LoadError}
use Rattle.triple_arena_snapshot.specs.declared.fault.LoadError.TheVariants as errors
use Rattle.triple_arena_snapshot.specs.declared.fault.SaveError.{SaveError}
use Rattle.triple_arena_snapshot.specs.declared.fault.SaveError.TheVariants as saving
use Rattle.triple_arena_snapshot.specs.Coding.{Reading, Decoded, ◌>>=◌, whole}
use Rattle.triple_arena_snapshot.specs.Codings.{number_at_front, front_of}
use Rattle.triple_arena_snapshot.specs.Checksum.{crc32c, sealed}
use Rattle.triple_arena_snapshot.specs.Marks.{behind}
use Rattle.triple_arena_snapshot.specs.Shapes.{counted, behind_shape}

abbrev pub mark : List ℕ
mark = codes "triarena"

abbrev pub version : List ℕ
version = 2 ∷ []

-- what stands in front of so many bytes of a value of a shape
abbrev pub head_of : (shape : List ℕ) → ℕ → List ℕ
head_of shape count = mark ++ (version ++ (counted shape ++ to_le_bytes w64 count))

-- the file of a value's bytes: the checksum is that of all that stands before it
abbrev pub file_of : (shape payload : List ℕ) → List ℕ
file_of shape payload = sealed (head_of shape (length payload) ++ payload)

-- the value's bytes, if nothing stands behind their checksum
abbrev pub ended : List ℕ → List ℕ → Reading (List ℕ)
ended payload [] = Ok payload
ended payload (b ∷ rest) = Err (Trailing, length (b ∷ rest))

-- the bytes of a file in front of the last ones
abbrev pub before : (file rest : List ℕ) → List ℕ
before file rest = take (length file - length rest) file

-- the value's bytes in a file, if behind them stands the checksum of all before it, and nothing behind that
abbrev pub unsealed : (file payload rest : List ℕ) → Reading (List ℕ)
unsealed file payload rest =
    number_at_front w32 rest >>= λ sum. if sum.0 == crc32c (before file rest) then ended payload sum.1 else Err (Sum, length rest)

-- so many bytes of a file, which are the value's
abbrev pub sealed_in : (file bytes : List ℕ) → Reading (List ℕ)
sealed_in file bytes = number_at_front w64 bytes >>= λ n. front_of n.0 n.1 >>= λ x. unsealed file x.0 x.1

-- the bytes of the value in a file, if it is one of values of this shape
abbrev pub payload_in : (shape file : List ℕ) → Reading (List ℕ)
payload_in shape file =
    behind mark Mark file >>= λ marked. behind version Version marked >>= λ rest. behind_shape shape rest >>= sealed_in file

-- a fault by its offset, where of so many bytes so many were left
abbrev pub at_offset : {A : Type 0} → ℕ → Reading A → Reading A
at_offset total (Ok x) = Ok x
at_offset total (Err e) = Err (e.0, total - e.1)

-- the refusal of a value's bytes, behind which four of the file stand, by its offset in the file
abbrev pub value_refusal : (file : ℕ) → DecodeError → LoadError
value_refusal file decoding.Memory = errors.Memory
value_refusal file (decoding.Malformed fault left) = errors.Malformed fault (file - 4 - left)

-- what is read of a file of values of a shape; a fault has its offset
abbrev pub file_reading : {K : Type 0} → (shape : List ℕ) → (List ℕ → Decoded K) → List ℕ → Reading K
file_reading shape decoding file =
    at_offset (length file) (payload_in shape file) >>= λ payload. at_offset (length file - 4) (whole decoding payload)

-- a refusal of bytes is the first fault, with its offset, unless it is for want of memory
abbrev pub LoadFails : {Y : Type 0} → LoadError → Reading Y → Type 0
LoadFails errors.Memory read = Unit {0}
LoadFails errors.Read read = ⊥
LoadFails (errors.Malformed fault at) read = read ≡ Err (fault, at)

-- what a load of bytes returned, as `content` sees it, is what is read, unless memory was refused
abbrev pub Loads : {X Y : Type 0} → (X → Y) → Result X LoadError → Reading Y → Type 0
Loads content (Ok x) read = read ≡ Ok (content x)
Loads content (Err e) read = LoadFails e read

-- a refusal of what a reader gave is the first fault, with its offset, unless memory was refused or the reader failed
abbrev pub ReadFails : {Y : Type 0} → LoadError → Reading Y → Type 0
ReadFails errors.Memory read = Unit {0}
ReadFails errors.Read read = Unit {0}
ReadFails (errors.Malformed fault at) read = read ≡ Err (fault, at)

-- what a load from a reader returned, as `content` sees it, is what is read, unless memory was refused or the reader failed
abbrev pub LoadsFrom : {X Y : Type 0} → (X → Y) → Result X LoadError → Reading Y → Type 0
LoadsFrom content (Ok x) read = read ≡ Ok (content x)
LoadsFrom content (Err e) read = ReadFails e read

-- known bytes grow by a front of these, but not by all of them
abbrev pub AppendsPart : (old new : Option (List ℕ)) → List ℕ → Type 0
AppendsPart old new bytes = (front rest : List ℕ) × (bytes ≡ front ++ rest) × (0 < length rest) × Appends old new front

-- what a save that was refused left in the writer: nothing of the file where memory was refused, and a front of it where
-- the writer failed
abbrev pub SaveFails : SaveError → (old new : Option (List ℕ)) → List ℕ → Type 0
SaveFails saving.Memory old new file = Keeps old new
SaveFails saving.Write old new file = AppendsPart old new file
