use Rattle.std.proofs.Common.{rules}
use Rattle.triple_arena.specs.laws.ReadLaws.{visits_found}
use Rattle.triple_arena_direct_uses.specs.Circuit.{q2_numbers, cell_read, without_net}
use Rattle.triple_arena_direct_uses.proofs.circuit.ends.leave_net.Goals as goal

pub returns : goal.returns
returns c = visits_found cell_read _ _ (λ p. without_net (q2_numbers c.args.net)) _ (λ p shown left after called. search rules) _ _ _ c.for_each_mut.ensures.visited.1
