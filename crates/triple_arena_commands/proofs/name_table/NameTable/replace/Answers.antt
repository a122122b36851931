use Rattle.std.proofs.Common.{ap}
use Rattle.std.specs.Int.NonZero.{non_zero_usize_get}
use Rattle.triple_arena_commands.proofs.NameLemmas.{row_written, no_row_written}
use Rattle.triple_arena_commands.proofs.name_table.NameTable.replace.Goals as goal

pub returns-in_default-get_mut-clause-items : goal.returns-in_default-get_mut-clause-items
returns-in_default-get_mut-clause-items g c =
    no_row_written c.self.inside.rows.items c.args.self.now.items c.args.name (non_zero_usize_get c.in-Some.inx) c.args.p (ap (λ t. t.items) c.self.view_is) c.in-Some.ensures c.in-Some.inx.ok c.in_default-get_mut.ensures.value

pub returns-clause-items : goal.returns-clause-items
returns-clause-items g c =
    row_written c.self.inside.rows.items c.args.self.now.items c.args.name (non_zero_usize_get c.in-Some.inx) (record c.in-Some-get_mut.row.now { pointer = c.args.p }) (ap (λ t. t.items) c.self.view_is) c.in-Some.ensures c.in-Some.inx.ok
