-- What a limit allows, as tests.
use Rattle.std.specs.Prelude.{ℕ, nat_le, Bool, true, false, Option, Some, None}

-- whether there is a limit, and it is at or below this capacity
abbrev pub is_at_limit : (limit : Option ℕ) (capacity : ℕ) → Bool
is_at_limit None capacity = false
is_at_limit (Some most) capacity = nat_le most capacity

-- whether the limit, if there is one, allows so many
abbrev pub is_within : (limit : Option ℕ) (m : ℕ) → Bool
is_within None m = true
is_within (Some most) m = nat_le m most
