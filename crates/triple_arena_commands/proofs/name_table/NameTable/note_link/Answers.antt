use Rattle.std.proofs.Common.{◌≡◌, ◌-◌, refl, sym, subst}
use Rattle.std.specs.Int.NonZero.{non_zero_usize_get}
use Rattle.triple_arena_stack.specs.StackState.{Roomed}
use Rattle.triple_arena_commands.proofs.NameLemmas.{unseen_write}
use Rattle.triple_arena_commands.proofs.name_table.NameTable.note_link.Goals as goal

pub returns : goal.returns
returns g c =
    let same = unseen_write (λ row. row.pointer) c.self.inside.rows.items (non_zero_usize_get c.in-Some.inx - 1) c.in-Some-get_mut.row.now (record c.in-Some-get_mut.row.now { link = c.unwrap_or-row.result }) c.in-Some-get_mut.ensures.value refl in
    subst (λ ps. ◌≡◌ {A = Roomed g.row.P.Denot} (record { items = ps; room = c.self.inside.rows.room }) c.args.self.now) (sym same) c.self.view_is
