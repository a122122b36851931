use Rattle.std.proofs.Common.{◌+◌, ap, ◌∙◌}
use Rattle.triple_arena_commands.proofs.NameLemmas.{row_pushed, length-shown, room-shown}
use Rattle.triple_arena_commands.proofs.name_table.NameTable.push.Goals as goal

pub push_reserved-row-requires : goal.push_reserved-row-requires
push_reserved-row-requires g c =
    let count = length-shown c.self.inside.rows.items c.self.inside.rows.room c.args.self.now c.self.view_is in
    let room = room-shown c.self.inside.rows.items c.self.inside.rows.room c.args.self.now c.self.view_is in
    rw (count, room) c.requires

pub returns-clause-number : goal.returns-clause-number
returns-clause-number g c =
    c.get.ensures.value
    ∙ c.push_reserved-row.ensures.index
    ∙ ap (λ n. n + 1) (length-shown c.self.inside.rows.items c.self.inside.rows.room c.args.self.now c.self.view_is)

pub returns-clause-items : goal.returns-clause-items
returns-clause-items g c = row_pushed c.self.inside.rows.items c.args.self.now.items (record { pointer = c.args.p; link = c.unwrap_or.result }) c.push_reserved-row.result.1.now (ap (λ t. t.items) c.self.view_is) c.push_reserved-row.ensures.value

pub returns-clause-room : goal.returns-clause-room
returns-clause-room g c = ap (λ t. t.room) c.self.view_is
