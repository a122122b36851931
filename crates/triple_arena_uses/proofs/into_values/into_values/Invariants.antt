use Rattle.std.proofs.Common.{◌≡◌, ◌++◌}
use Rattle.triple_arena.specs.Walks.{values, values_of}
use Rattle.triple_arena_uses.proofs.into_values.into_values.Given as goal

abbrev pub invariant-walk : goal.invariant-walk
invariant-walk g l = l.all.items ++ values_of l._p-iterator ≡ values l.fn.arena.slots
