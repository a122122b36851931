use Rattle.std.proofs.Common.{◌≡◌, true, Some, rules, ap, sym, ◌∙◌}
use Rattle.std.specs.Option.{option_map}
use Rattle.triple_arena_traits.specs.Items.{item}
use Rattle.triple_arena_session.specs.SessionState.{link_name}
use Rattle.triple_arena_session.proofs.Mapped.{item-map}
use Rattle.triple_arena_session.proofs.TableNames.{name_of-item}
use Rattle.triple_arena_session.proofs.named_arena.NamedArena.link_name.Goals as goal

pub returns-in-Some : goal.returns-in-Some
returns-in-Some g c =
    let table = c.args.self.now.table in
    let p = g.P.Ptr.numbers c.in_ok-p.p in
    let known : c.args.distinct ≡ true = search rules in
    let given : c.args.link ≡ Some c.in_ok-p.p = search rules in
    let at : item table c.in-Some.target ≡ Some p = ap (λ s. item s.table c.in-Some.target) (sym c.self.view_is) ∙ item-map g.P.Ptr.numbers c.self.inside.table.items c.in-Some.target ∙ c.in-Some.ensures in
    sym (ap (λ link. link_name table (option_map g.P.Ptr.numbers link)) given ∙ name_of-item table c.in-Some.target p (c.requires known) at)
