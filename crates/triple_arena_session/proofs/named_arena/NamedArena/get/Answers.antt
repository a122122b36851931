use Rattle.std.proofs.Common.{◌≡◌, Some, None, ap, sym, ◌∙◌}
use Rattle.std.specs.Option.{option_map, option_and_then}
use Rattle.triple_arena_traits.specs.Items.{item}
use Rattle.triple_arena_traits.specs.Entries.{look_up}
use Rattle.triple_arena_commands.specs.declared.reply.Reply.TheVariants.{Found}
use Rattle.triple_arena_session.specs.SessionRun.{get_reply}
use Rattle.triple_arena_session.proofs.Shown.{named_found}
use Rattle.triple_arena_session.proofs.named_arena.NamedArena.get.Goals as goal

pub returns-in_default : goal.returns-in_default
returns-in_default g c =
    let s = c.args.self.now in
    let has : item c.args.self.now.table c.args.name ≡ None = sym c.pointer.ensures ∙ ap (option_map g.P.Ptr.numbers) c.in_default.is in
    ap (λ o. (get_reply s (option_and_then (look_up s.arena.slots) o), s)) (sym has)

pub returns-in-Some-get : goal.returns-in-Some-get
returns-in-Some-get g c =
    let s = c.args.self.now in
    let has : item s.table c.args.name ≡ Some (g.P.Ptr.numbers c.in-Some.p) = sym c.pointer.ensures ∙ ap (option_map g.P.Ptr.numbers) c.in-Some.is in
    ap (λ link. (Found c.in-Some-get.node.now.datum link, s)) c.link_name.ensures
    ∙ ap (λ o. (get_reply s o, s)) (sym (named_found g.P.Ptr.numbers (g.A.SessionArena.state c.self.inside.arena) c.self.inside.table.items c.self.inside.table.room c.args.self.now c.self.view_is c.args.name (g.P.Ptr.numbers c.in-Some.p) (Some c.in-Some-get.node.now) has c.in-Some-get.ensures.value))

pub returns-in-None : goal.returns-in-None
returns-in-None g c =
    let s = c.args.self.now in
    let has : item s.table c.args.name ≡ Some (g.P.Ptr.numbers c.in-Some.p) = sym c.pointer.ensures ∙ ap (option_map g.P.Ptr.numbers) c.in-Some.is in
    ap (λ o. (get_reply s o, s)) (sym (named_found g.P.Ptr.numbers (g.A.SessionArena.state c.self.inside.arena) c.self.inside.table.items c.self.inside.table.room c.args.self.now c.self.view_is c.args.name (g.P.Ptr.numbers c.in-Some.p) None has c.in-None.ensures.value))
