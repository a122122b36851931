-- The text of a pointer.
use Rattle.std.specs.Prelude.{ℕ, Bool, true, false, List, [], ◌++◌, codes}
use Rattle.std.specs.Fmt.{digits}

-- n in lower-case hexadecimal, without prefix or leading zeros
abbrev pub hex : ℕ → List ℕ
hex n = digits 16 false n

-- the generation n in hexadecimal, or `()` where generations do not count
abbrev pub generation_hex : Bool → ℕ → List ℕ
generation_hex true n = hex n
generation_hex false n = codes "()"

-- the generation n in round brackets, or nothing where generations do not count
abbrev pub generation_text : Bool → ℕ → List ℕ
generation_text true n = codes "(" ++ (hex n ++ codes ")")
generation_text false n = []

-- the name, the index i in square brackets, and the generation g
abbrev pub pointer_text : (name : List ℕ) (i : ℕ) (counting : Bool) (g : ℕ) → List ℕ
pointer_text name i counting g = name ++ (codes "[" ++ (hex i ++ (codes "]" ++ generation_text counting g)))
