-- The numbers of a range with both ends.
use Rattle.std.specs.Prelude.{ℕ, ◌+◌, ◌-◌, List, [], Option, Some, None}
use Rattle.std.specs.List.{range_with_len}
use Rattle.std.specs.declared.num.NonZeroUsize.{NonZeroUsize}
use Rattle.std.specs.Int.NonZero.{non_zero_usize_get}

-- the numbers from a to b, rising; none where there is no b, or b is below a
abbrev pub numbers_through : NonZeroUsize → Option NonZeroUsize → List ℕ
numbers_through a None = []
numbers_through a (Some b) =
    range_with_len (non_zero_usize_get a) (non_zero_usize_get b + 1 - non_zero_usize_get a)
