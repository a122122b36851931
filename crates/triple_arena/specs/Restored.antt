-- An arena over slots that stand.
use Rattle.std.specs.Prelude.{ℕ, List, Option}
use Rattle.triple_arena_traits.specs.ArenaState.{ArenaState}

-- these slots under this counter, with the free indexes in this order; no slot was touched
abbrev pub arena_over : {T : Type 0} → (slots : List (Option (ℕ × T))) (counter : ℕ) (free : List ℕ) (room : ℕ) (limit : Option ℕ) (greatest : ℕ) → ArenaState T
arena_over slots counter free room limit greatest =
    record { slots = slots; counter = counter; free = free; room = room; limit = limit; greatest = greatest; steps = 0 }
