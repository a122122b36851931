use Rattle.std.proofs.Common.{◌≡◌, ◌++◌, map}
use Rattle.triple_arena.specs.Walks.{keys}
use Rattle.triple_arena_uses.proofs.walks.pointers.Given as goal

abbrev pub invariant-walk : goal.invariant-walk
invariant-walk g l = map g.P.Ptr.numbers l.all.items ++ l.p-iterator ≡ keys (g.A.ArenaStates.slots l.fn.arena)
