use Rattle.std.proofs.Common.{Some, ap}
use Rattle.std.specs.Int.NonZero.{non_zero_usize_get}
use Rattle.triple_arena_commands.proofs.NameLemmas.{row_read}
use Rattle.triple_arena_commands.proofs.name_table.NameTable.pointer.Goals as goal

pub returns : goal.returns
returns g c =
    row_read c.self.inside.rows.items c.args.self.now.items c.args.name (non_zero_usize_get c.in_ok-new.field-0) (Some c.in_ok-row.row.now) (ap (λ t. t.items) c.self.view_is) c.in_ok-new.ensures c.in_ok-new.field-0.ok c.in_ok-row.ensures
