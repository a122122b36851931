use Rattle.std.proofs.Common.{rules}
use Rattle.triple_arena_traits.specs.laws.HistoryLaws.{Fits-keys}
use Rattle.triple_arena_direct.specs.laws.UpToCounterLaws.{counted_up_to}
use Rattle.triple_arena_direct.proofs.strict_arena.entering.ArenaEntering.close.Goals as goal

pub invariant_of-result : goal.invariant_of-result
invariant_of-result g c counts = counted_up_to c.args.self g.P.Gen.PtrGen.generations.counting (search rules) counts

pub returns-clause-begun : goal.returns-clause-begun
returns-clause-begun g c counts = Fits-keys c.args.self (counted_up_to c.args.self g.P.Gen.PtrGen.generations.counting (search rules) counts)
