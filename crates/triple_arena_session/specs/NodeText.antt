-- What a pair is written as.
use Rattle.std.specs.Prelude.{ℕ, List, Option, Some, codes}
use Rattle.std.specs.Fmt.{◌++?◌}

-- in parentheses, with a comma and a space between; none where one of the two says nothing of its text
abbrev pub pair_text : Option (List ℕ) → Option (List ℕ) → Option (List ℕ)
pair_text first second = Some (codes "(") ++? first ++? Some (codes ", ") ++? second ++? Some (codes ")")
