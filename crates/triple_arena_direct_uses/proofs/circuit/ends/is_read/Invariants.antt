use Rattle.std.proofs.Common.{◌≡◌}
use Rattle.std.specs.List.{list_any}
use Rattle.triple_arena.specs.Walks.{values}
use Rattle.triple_arena_direct_uses.specs.Circuit.{q2_numbers, cell_read, reads_net}
use Rattle.triple_arena_direct_uses.proofs.circuit.ends.is_read.Given as goal

abbrev pub invariant-walk : goal.invariant-walk
invariant-walk l =
    list_any (λ cell. reads_net (q2_numbers l.fn.net) (cell_read cell)) l.cell-iterator
    ≡ list_any (λ cell. reads_net (q2_numbers l.fn.net) (cell_read cell)) (values l.fn.cells.slots)
