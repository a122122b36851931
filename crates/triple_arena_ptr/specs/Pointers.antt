-- Pointers as numbers.
use Rattle.std.specs.Prelude.{ℕ, Bool, ◌==◌, ◌&&◌}

-- the numbers of a pointer's index and of its generation
abbrev pub Pointer : Type 0
Pointer = ℕ × ℕ

-- two pointers are one: their indexes are, and their generations
abbrev pub is_same : Pointer → Pointer → Bool
is_same p q = (p.0 == q.0) && (p.1 == q.1)
