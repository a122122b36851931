-- Bytes that must stand at the front of others.
use Rattle.std.specs.Prelude.{ℕ, ◌==◌, if◌then◌else◌, List, [], ◌∷◌, length, Ok, Err}
use Rattle.triple_arena_snapshot.specs.declared.fault.Fault.{Fault}
use Rattle.triple_arena_snapshot.specs.declared.fault.Fault.TheVariants.{Cut}
use Rattle.triple_arena_snapshot.specs.Coding.{Reading}

-- the bytes behind these, or what is wrong where another stands
abbrev pub behind : List ℕ → Fault → List ℕ → Reading (List ℕ)
behind [] fault bytes = Ok bytes
behind (m ∷ ms) fault [] = Err (Cut, 0)
behind (m ∷ ms) fault (b ∷ bytes) = if b == m then behind ms fault bytes else Err (fault, length (b ∷ bytes))
