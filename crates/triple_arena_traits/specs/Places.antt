-- The number of a place.
use Rattle.std.specs.Prelude.{ℕ, Option, Some, None}
use Rattle.std.specs.Int.NonZero.{non_zero_usize_get}
use Rattle.std.specs.declared.num.NonZeroUsize.{NonZeroUsize}

-- the number of an index, and 0 for none
abbrev pub number_or_zero : Option NonZeroUsize → ℕ
number_or_zero None = 0
number_or_zero (Some inx) = non_zero_usize_get inx
