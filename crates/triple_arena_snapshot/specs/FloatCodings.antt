-- How floats stand as bytes: by the bits of their format. Of the many patterns of a NaN one is written, and read.
use Rattle.std.specs.Prelude.{ℕ, ◌==◌, if◌then◌else◌, List, length, Ok, Err}
use lib.Ieee.{Float, Format, to_bits, of_bits}
use Rattle.triple_arena_snapshot.specs.declared.fault.Fault.TheVariants.{Nan}
use Rattle.triple_arena_snapshot.specs.Coding.{Decoded, ◌>>=◌}

-- the float of these bits, if they are those that are written of it
abbrev pub float_at_front : Format → (List ℕ → Decoded ℕ) → List ℕ → Decoded Float
float_at_front f decoding bytes = decoding bytes >>= λ n. if to_bits f (of_bits f n.0) == n.0 then Ok (of_bits f n.0, n.1) else Err (Nan, length bytes)
