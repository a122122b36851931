-- Shapes: bytes that tell a type. The first one is the type's own, and behind it stand the shapes of its parts.
use Rattle.std.specs.Prelude.{ℕ, ◌-◌, ◌==◌, if◌then◌else◌, List, [], ◌∷◌, ◌++◌, length, Result, Ok, Err}
use Rattle.std.specs.Int.{w64, to_le_bytes}
use Rattle.triple_arena_snapshot.specs.declared.fault.Fault.TheVariants.{Shape}
use Rattle.triple_arena_snapshot.specs.Coding.{Reading, ◌>>=◌}
use Rattle.triple_arena_snapshot.specs.Codings.{number_at_front}
use Rattle.triple_arena_snapshot.specs.Marks.{behind}

-- the byte at a place, from 0 on; past the end, how far past it
abbrev pub byte_at : List ℕ → ℕ → Result ℕ ℕ
byte_at [] n = Err n
byte_at (x ∷ xs) n = if n == 0 then Ok x else byte_at xs (n - 1)

-- an arena over any stack, by the shape of its values; a direct one, and a strict one
abbrev pub arena_shape : List ℕ → List ℕ
arena_shape value = 37 ∷ value

abbrev pub direct_arena_shape : List ℕ → List ℕ
direct_arena_shape value = 38 ∷ value

abbrev pub strict_arena_shape : List ℕ → List ℕ
strict_arena_shape value = 39 ∷ value

-- a shape behind its count
abbrev pub counted : List ℕ → List ℕ
counted shape = to_le_bytes w64 (length shape) ++ shape

-- the bytes behind a shape and its count, or what is wrong where another stands
abbrev pub behind_shape : List ℕ → List ℕ → Reading (List ℕ)
behind_shape shape bytes =
    number_at_front w64 bytes >>= λ n. if n.0 == length shape then behind shape Shape n.1 else Err (Shape, length bytes)
