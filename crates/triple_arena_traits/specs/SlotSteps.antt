-- How many slots an arena touches.
use Rattle.std.specs.Prelude.{◌≡◌, ℕ, ◌+◌, ◌≤◌, List, [], ◌∷◌}
use Rattle.triple_arena_traits.specs.ArenaState.{ArenaState}

-- the count never falls, and rises by so many at most
abbrev pub RisesByAtMost : (most before after : ℕ) → Type 0
RisesByAtMost most before after = (before ≤ after) × (after ≤ before + most)

-- so many slots an insertion touches that takes the first of these free indexes
abbrev pub steps_among : List ℕ → ℕ
steps_among [] = 1
steps_among (i ∷ []) = 1
steps_among (i ∷ j ∷ rest) = 2

module _ {T : Type 0} where
  -- so many slots an insertion touches: the one that it takes, and the free one after it, if there is one
  abbrev pub insertion_steps : ArenaState T → ℕ
  insertion_steps s = steps_among s.free

  -- the state, once so many more slots were touched
  abbrev pub touched : ℕ → ArenaState T → ArenaState T
  touched n s = record s { steps = s.steps + n }

  -- the one state is the other, but that more slots may have been touched
  abbrev pub IsTouched : ArenaState T → ArenaState T → Type 0
  IsTouched old new = (new ≡ record old { steps = new.steps }) × (old.steps ≤ new.steps)
