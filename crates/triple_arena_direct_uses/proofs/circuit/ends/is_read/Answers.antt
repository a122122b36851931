use Rattle.std.proofs.Common.{rules}
use Rattle.triple_arena.specs.laws.ReadLaws.{any_found, none_found}
use Rattle.triple_arena_direct_uses.specs.Circuit.{q2_numbers, cell_read, reads_net}
use Rattle.triple_arena_direct_uses.proofs.circuit.ends.is_read.Goals as goal

pub returns-then-reads_net-clause-read : goal.returns-then-reads_net-clause-read
returns-then-reads_net-clause-read c = λ _. any_found cell_read (reads_net (q2_numbers c.args.net)) c.args.cells.now.slots (search rules)

pub returns-clause-unread : goal.returns-clause-unread
returns-clause-unread c = λ _. none_found cell_read (reads_net (q2_numbers c.args.net)) c.args.cells.now.slots (search rules)
