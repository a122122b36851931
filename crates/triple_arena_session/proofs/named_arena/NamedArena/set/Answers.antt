use Rattle.std.proofs.Common.{◌≡◌, Some, None, true, false, rules, ap, sym, ◌∙◌}
use Rattle.std.specs.Option.{option_map}
use Rattle.triple_arena_traits.specs.Items.{item}
use Rattle.triple_arena_traits.specs.Entries.{look_up}
use Rattle.triple_arena_traits.specs.ArenaState.{with_value}
use Rattle.triple_arena_commands.specs.declared.reply.Reply.TheVariants.{Done}
use Rattle.triple_arena_session.specs.SessionState.{link_pointer}
use Rattle.triple_arena_session.specs.SessionRun.{set_answer, act_on}
use Rattle.triple_arena_session.proofs.Rows.{some_has, some_is}
use Rattle.triple_arena_session.proofs.Shown.{value_set, acts, not_removed}
use Rattle.triple_arena_session.proofs.named_arena.NamedArena.set.Goals as goal

pub returns : goal.returns
returns g c =
    let s = c.args.self.now in
    let p = g.P.Ptr.numbers c.in-Some-pointer.p in
    let arena = g.A.SessionArena.state c.self.inside.arena in
    let link : link_pointer s.table c.args.link ≡ Some (option_map g.P.Ptr.numbers c.in-Some.target) = sym c.link_pointer.ensures ∙ ap (option_map (option_map g.P.Ptr.numbers)) c.in-Some.is in
    let has : item s.table c.args.name ≡ Some p = sym c.pointer.ensures ∙ ap (option_map g.P.Ptr.numbers) c.in-Some-pointer.is in
    let valid : c.put.result ≡ true = search (rules, c.if-not-put.false) in
    let live = some_has (look_up arena.slots p) (sym c.put.ensures.answer ∙ valid) in
    value_set g.P.Ptr.numbers arena c.self.inside.table.items c.self.inside.table.room s c.self.view_is p.0 (record { datum = c.args.datum; link = c.in-Some.target }) (g.A.SessionArena.state c.put.new.self) c.note_link.new.self.items c.note_link.new.self.room (c.put.ensures.done valid) (ap (λ t. t.items) c.note_link.ensures) (ap (λ t. t.room) c.note_link.ensures)
    ∙ sym (ap (set_answer s c.args.name c.args.datum) link ∙ acts g.P.Ptr.numbers arena c.self.inside.table.items c.self.inside.table.room s c.self.view_is (λ q node. (Done, record s { arena = with_value s.arena q.0 (c.args.datum, option_map g.P.Ptr.numbers c.in-Some.target) })) c.args.name p live.0 has live.1)

pub returns-in_default : goal.returns-in_default
returns-in_default g c =
    let link : link_pointer c.args.self.now.table c.args.link ≡ None = sym c.link_pointer.ensures ∙ ap (option_map (option_map g.P.Ptr.numbers)) c.in_default.is in
    sym (ap (set_answer c.args.self.now c.args.name c.args.datum) link)

pub returns-in_default-pointer : goal.returns-in_default-pointer
returns-in_default-pointer g c =
    let s = c.args.self.now in
    let link : link_pointer c.args.self.now.table c.args.link ≡ Some (option_map g.P.Ptr.numbers c.in-Some.target) = sym c.link_pointer.ensures ∙ ap (option_map (option_map g.P.Ptr.numbers)) c.in-Some.is in
    let has : item c.args.self.now.table c.args.name ≡ None = sym c.pointer.ensures ∙ ap (option_map g.P.Ptr.numbers) c.in_default-pointer.is in
    sym (ap (set_answer s c.args.name c.args.datum) link ∙ ap (act_on s (λ q node. (Done, record s { arena = with_value s.arena q.0 (c.args.datum, option_map g.P.Ptr.numbers c.in-Some.target) }))) has)

pub returns-then-not-put : goal.returns-then-not-put
returns-then-not-put g c =
    let s = c.args.self.now in
    let p = g.P.Ptr.numbers c.in-Some-pointer.p in
    let arena = g.A.SessionArena.state c.self.inside.arena in
    let link : link_pointer c.args.self.now.table c.args.link ≡ Some (option_map g.P.Ptr.numbers c.in-Some.target) = sym c.link_pointer.ensures ∙ ap (option_map (option_map g.P.Ptr.numbers)) c.in-Some.is in
    let has : item s.table c.args.name ≡ Some p = sym c.pointer.ensures ∙ ap (option_map g.P.Ptr.numbers) c.in-Some-pointer.is in
    let dead : c.put.result ≡ false = search (rules, c.if-not-put.true) in
    not_removed g.P.Ptr.numbers arena c.self.inside.table.items c.self.inside.table.room s c.self.view_is (λ q node. (Done, record s { arena = with_value s.arena q.0 (c.args.datum, option_map g.P.Ptr.numbers c.in-Some.target) })) c.args.name p (g.A.SessionArena.state c.put.new.self) has (some_is (look_up arena.slots p) (sym c.put.ensures.answer ∙ dead)) (c.put.ensures.unchanged dead)
    ∙ sym (ap (set_answer s c.args.name c.args.datum) link)
