-- The lines of a text, and the words of a line.
use Rattle.std.specs.Prelude.{ℕ, ◌+◌, Bool, not, List, [], Option, None, Some, ◌==◌, length}
use Rattle.std.specs.List.{slice_split}

-- the parts between the bytes `at`. Two of these bytes that stand together have a part of no bytes between them.
abbrev pub parts_of : ℕ → List ℕ → List (List ℕ)
parts_of at bytes = slice_split (λ byte. byte == at) bytes

-- the parts of what follows a separator, where there is one.
abbrev pub parts_after : ℕ → Option (List ℕ) → List (List ℕ)
parts_after at None = []
parts_after at (Some rest) = parts_of at rest

-- how many bytes a separator and what follows it are, where there is one.
abbrev pub length_after : Option (List ℕ) → ℕ
length_after None = 0
length_after (Some rest) = length rest + 1

-- the lines of a text, cut at each byte 0A. What follows the last 0A is a line too, often of no bytes.
abbrev pub lines_of : List ℕ → List (List ℕ)
lines_of text = parts_of 10 text

-- whether a line has bytes. Others are counted, and skipped.
abbrev pub has_bytes : List ℕ → Bool
has_bytes line = not (length line == 0)

-- the words of a line, cut at each space.
abbrev pub words_of : List ℕ → List (List ℕ)
words_of line = parts_of 32 line
