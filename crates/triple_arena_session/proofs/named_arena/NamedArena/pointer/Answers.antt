use Rattle.std.proofs.Common.{ap, sym, ◌∙◌}
use Rattle.std.specs.Option.{option_map}
use Rattle.triple_arena_traits.specs.Items.{item}
use Rattle.triple_arena_session.proofs.Mapped.{item-map}
use Rattle.triple_arena_session.proofs.named_arena.NamedArena.pointer.Goals as goal

pub returns : goal.returns
returns g c =
    ap (option_map g.P.Ptr.numbers) c.pointer.ensures
    ∙ sym (item-map g.P.Ptr.numbers c.self.inside.table.items c.args.name)
    ∙ ap (λ s. item s.table c.args.name) c.self.view_is
