use Rattle.std.proofs.Common.{◌≡◌, Some, None, is_some, ap, sym, ◌∙◌}
use Rattle.std.specs.Option.{option_map}
use Rattle.triple_arena_traits.specs.Items.{item}
use Rattle.triple_arena_traits.specs.Entries.{look_up}
use Rattle.triple_arena_ptr.specs.Numbers.{wraps}
use Rattle.triple_arena_session.specs.SessionRun.{act_on, remove_under}
use Rattle.triple_arena_session.proofs.Shown.{told_some, told_none, entry_removed, not_removed, acts}
use Rattle.triple_arena_session.proofs.named_arena.NamedArena.remove.Goals as goal

pub returns-in-Some-taken : goal.returns-in-Some-taken
returns-in-Some-taken g c =
    let kind = g.S.NonZeroInxGenericStack.kind in
    let generations = g.P.Gen.PtrGen.generations in
    let p = g.P.Ptr.numbers c.in-Some.p in
    let has : item c.args.self.now.table c.args.name ≡ Some p = sym c.pointer.ensures ∙ ap (option_map g.P.Ptr.numbers) c.in-Some.is in
    let told = told_some (wraps generations (g.A.SessionArena.state c.self.inside.arena).counter) (look_up (g.A.SessionArena.state c.self.inside.arena).slots p) c.remove.result c.overflowing-taken.result c.in-Some-taken.node c.remove.ensures.answer c.overflowing-taken.ensures c.in-Some-taken.is in
    entry_removed g.P.Ptr.numbers (g.A.SessionArena.state c.self.inside.arena) c.self.inside.table.items c.self.inside.table.room c.args.self.now c.self.view_is kind generations p c.in-Some-taken.node c.link_name.result c.overflowing-taken.result.1 (g.A.SessionArena.state c.remove.new.self) c.link_name.ensures told.1 (c.remove.ensures.done (ap is_some told.0))
    ∙ sym (acts g.P.Ptr.numbers (g.A.SessionArena.state c.self.inside.arena) c.self.inside.table.items c.self.inside.table.room c.args.self.now c.self.view_is (remove_under kind generations c.args.self.now) c.args.name p c.in-Some-taken.node has told.0)

pub returns-in-None : goal.returns-in-None
returns-in-None g c =
    let kind = g.S.NonZeroInxGenericStack.kind in
    let generations = g.P.Gen.PtrGen.generations in
    let p = g.P.Ptr.numbers c.in-Some.p in
    let has : item c.args.self.now.table c.args.name ≡ Some p = sym c.pointer.ensures ∙ ap (option_map g.P.Ptr.numbers) c.in-Some.is in
    let ended = told_none (wraps generations (g.A.SessionArena.state c.self.inside.arena).counter) (look_up (g.A.SessionArena.state c.self.inside.arena).slots p) c.remove.result c.overflowing-taken.result c.remove.ensures.answer c.overflowing-taken.ensures c.in-None.is in
    not_removed g.P.Ptr.numbers (g.A.SessionArena.state c.self.inside.arena) c.self.inside.table.items c.self.inside.table.room c.args.self.now c.self.view_is (remove_under kind generations c.args.self.now) c.args.name p (g.A.SessionArena.state c.remove.new.self) has ended (c.remove.ensures.unchanged ended)

pub returns-in_default : goal.returns-in_default
returns-in_default g c =
    let has : item c.args.self.now.table c.args.name ≡ None = sym c.pointer.ensures ∙ ap (option_map g.P.Ptr.numbers) c.in_default.is in
    sym (ap (act_on c.args.self.now (remove_under g.S.NonZeroInxGenericStack.kind g.P.Gen.PtrGen.generations c.args.self.now)) has)
