use Rattle.std.proofs.Common.{rules}
use Rattle.triple_arena.specs.laws.ReadLaws.{visits_found}
use Rattle.triple_arena_uses.specs.Entities.{p0_numbers}
use Rattle.triple_arena_direct_uses.specs.Circuit.{net_read, without_cell}
use Rattle.triple_arena_direct_uses.proofs.circuit.ends.leave_cell.Goals as goal

pub returns : goal.returns
returns c = visits_found net_read _ _ (λ p. without_cell (p0_numbers c.args.cell)) _ (λ p shown left after called. search rules) _ _ _ c.for_each_mut.ensures.visited.1
