use Rattle.std.proofs.Common.{◌∙◌, is_some, ap}
use Rattle.triple_arena.specs.Entries.{look_up}
use Rattle.triple_arena_uses.specs.Entities.{p0_numbers}
use Rattle.triple_arena_direct_uses.specs.Notes.{Noted}
use Rattle.triple_arena_direct_uses.proofs.side_table.NotedEntities.note.Goals as goal

pub returns-clause-exactly : goal.returns-clause-exactly
returns-clause-exactly c =
    ap is_some (c.copied.ensures ∙ c.get.ensures.value) ∙ c.self.invariant (p0_numbers c.args.p)
    ∙ ap (λ (t : Noted). is_some (look_up t.entities.slots (p0_numbers c.args.p))) c.self.view_is
