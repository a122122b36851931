-- What contracts see of the iterators that lend an arena's values, each the items that are left and the name of its loan.
use Rattle.std.specs.Prelude.{List}
use Rattle.std.specs.Borrow.{follows, Fml, GName, RattleType, MutBor}

module _ {A : Type 0} where
  -- the items that are left
  abbrev pub lent_rest : List A × GName → List A
  lent_rest s = s.0

  -- the name of the loan
  abbrev pub lent_name : List A × GName → GName
  lent_name s = s.1

-- once the loan of this name ends, the arena is this function of an arena that has the values that were written
abbrev pub lends_values : (arena_row : RattleType) → MutBor arena_row.Denot → GName → (arena_row.Denot → arena_row.Denot) → Fml
lends_values arena_row arena name written = follows arena_row arena_row arena.ghost_name name written
