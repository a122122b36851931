-- How floats stand as bytes, with the law, in one term.
use Rattle.std.specs.Prelude.{ℕ, ◌^◌, T}
use Rattle.std.specs.Int.{w32, w64}
use lib.Ieee.{Float, Format, binary32, binary64, fits, to_bits}
use Rattle.triple_arena_snapshot.specs.Coding.{Coding}
use Rattle.triple_arena_snapshot.specs.Layouts.{number}
use Rattle.triple_arena_snapshot.specs.FloatCodings.{float_at_front}
use Rattle.triple_arena_snapshot.specs.laws.CodingLaws.{wide32, wide64}
use Rattle.triple_arena_snapshot.specs.laws.FloatLaws.{float_again}

-- a float of this format, by its bits
abbrev pub float : Format → Coding ℕ → Coding Float
float f c = record {
  fits = λ x. T (fits f x) × c.fits (to_bits f x);
  encoding = λ x. c.encoding (to_bits f x);
  decoding = float_at_front f c.decoding;
  decodes = float_again f c.fits c.encoding c.decoding c.decodes;
}

abbrev pub float32 : Coding Float
float32 = float binary32 (number w32 (2 ^ 32) wide32)

abbrev pub float64 : Coding Float
float64 = float binary64 (number w64 (2 ^ 64) wide64)
