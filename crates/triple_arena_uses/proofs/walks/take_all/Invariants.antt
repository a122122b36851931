use Rattle.std.proofs.Common.{◌≡◌}
use Rattle.triple_arena.specs.Drains.{drain_lender}
use Rattle.triple_arena_uses.proofs.walks.take_all.Given as goal

abbrev pub invariant-walk : goal.invariant-walk
invariant-walk g l = drain_lender l.taken-iterator ≡ drain_lender l.initial.taken-iterator
