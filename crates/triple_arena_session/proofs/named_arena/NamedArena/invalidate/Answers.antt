use Rattle.std.proofs.Common.{◌≡◌, ◌++◌, ◌∷◌, [], List, Some, None, is_some, refl, length, ap, sym, ◌∙◌, inr, ◌+◌}
use Rattle.std.specs.Option.{option_map, option_copied}
use Rattle.triple_arena_traits.specs.Items.{item}
use Rattle.triple_arena_traits.specs.Entries.{look_up}
use Rattle.triple_arena_ptr.specs.Numbers.{raise, wraps}
use Rattle.triple_arena_session.specs.SessionState.{node_of}
use Rattle.triple_arena_session.specs.SessionRun.{act_on, invalidate_under}
use Rattle.triple_arena_session.proofs.Shown.{told_renewed, entry_renewed, acts, acts_not, named-shown, table_wants, mapped_some, renewed_some}
use Rattle.triple_arena_session.proofs.named_arena.NamedArena.invalidate.Goals as goal

pub returns-in-Some-answer : goal.returns-in-Some-answer
returns-in-Some-answer g c =
    let kind = g.S.NonZeroInxGenericStack.kind in
    let generations = g.P.Gen.PtrGen.generations in
    let p = g.P.Ptr.numbers c.in-Some.p in
    let has : item c.args.self.now.table c.args.name ≡ Some p = sym c.pointer.ensures ∙ ap (option_map g.P.Ptr.numbers) c.in-Some.is in
    let told = told_renewed g.P.Ptr.numbers (p.0, raise generations (g.A.SessionArena.state c.self.inside.arena).counter) (wraps generations (g.A.SessionArena.state c.self.inside.arena).counter) (look_up (g.A.SessionArena.state c.self.inside.arena).slots p) c.invalidate.result c.overflowing-answer.result c.in-Some-answer.renewed c.invalidate.ensures.answer c.overflowing-answer.ensures c.in-Some-answer.is in
    entry_renewed g.P.Ptr.numbers (g.A.SessionArena.state c.self.inside.arena) c.self.inside.table.items c.self.inside.table.room c.args.self.now c.self.view_is kind generations p c.in-Some-answer.renewed c.overflowing-answer.result.1 c.push.result (g.A.SessionArena.state c.invalidate.new.self) c.push.new.self.items c.push.new.self.room (node_of g.P.Ptr.numbers told.0)
    told.2 told.3 (c.invalidate.ensures.done (ap is_some told.1))
    (c.push.ensures.number ∙ ap (λ (l : List g.row.P.Denot). length l + 1) c.in-Ok.ensures.items)
    (c.push.ensures.items ∙ ap (λ (l : List g.row.P.Denot). l ++ c.in-Some-answer.renewed ∷ []) c.in-Ok.ensures.items)
    (c.push.ensures.room ∙ c.in-Ok.ensures.grown)
    ∙ sym (acts g.P.Ptr.numbers (g.A.SessionArena.state c.self.inside.arena) c.self.inside.table.items c.self.inside.table.room c.args.self.now c.self.view_is (invalidate_under kind generations c.args.self.now) c.args.name p told.0 has told.1)

pub returns-in_default : goal.returns-in_default
returns-in_default g c =
    let has : item c.args.self.now.table c.args.name ≡ None = sym c.pointer.ensures ∙ ap (option_map g.P.Ptr.numbers) c.in_default.is in
    sym (ap (act_on c.args.self.now (invalidate_under g.S.NonZeroInxGenericStack.kind g.P.Gen.PtrGen.generations c.args.self.now)) has)

pub returns-in_default-get : goal.returns-in_default-get
returns-in_default-get g c =
    let p = g.P.Ptr.numbers c.in-Some.p in
    let has : item c.args.self.now.table c.args.name ≡ Some p = sym c.pointer.ensures ∙ ap (option_map g.P.Ptr.numbers) c.in-Some.is in
    sym (acts_not g.P.Ptr.numbers (g.A.SessionArena.state c.self.inside.arena) c.self.inside.table.items c.self.inside.table.room c.args.self.now c.self.view_is (invalidate_under g.S.NonZeroInxGenericStack.kind g.P.Gen.PtrGen.generations c.args.self.now) c.args.name p has (sym c.get.ensures.value ∙ ap option_copied c.in_default-get.is))

pub returns-in_default-make_room : goal.returns-in_default-make_room
returns-in_default-make_room g c =
    let p = g.P.Ptr.numbers c.in-Some.p in
    let has : item c.args.self.now.table c.args.name ≡ Some p = sym c.pointer.ensures ∙ ap (option_map g.P.Ptr.numbers) c.in-Some.is in
    let live = named-shown g.P.Ptr.numbers (g.A.SessionArena.state c.self.inside.arena) c.self.inside.table.items c.self.inside.table.room c.args.self.now c.self.view_is c.args.name p (look_up (g.A.SessionArena.state c.self.inside.arena).slots p) has refl in
    inr (ap is_some live ∙ mapped_some (node_of g.P.Ptr.numbers) (look_up (g.A.SessionArena.state c.self.inside.arena).slots p) (ap is_some (sym c.in-Some-get.ensures.value)), table_wants g.P.Ptr.numbers (g.A.SessionArena.state c.self.inside.arena) c.self.inside.table.items c.self.inside.table.room c.args.self.now c.self.view_is c.make_room.new.self.items c.make_room.new.self.room c.in_default-make_room.ensures.refused.0 (ap (λ t. t.items) c.in_default-make_room.ensures.refused.1) (ap (λ t. t.room) c.in_default-make_room.ensures.refused.1))

pub returns-in-None : goal.returns-in-None
returns-in-None g c =
    let p = g.P.Ptr.numbers c.in-Some.p in
    absurd (renewed_some g.P.Ptr.numbers (p.0, raise g.P.Gen.PtrGen.generations (g.A.SessionArena.state c.self.inside.arena).counter) (wraps g.P.Gen.PtrGen.generations (g.A.SessionArena.state c.self.inside.arena).counter) (look_up (g.A.SessionArena.state c.self.inside.arena).slots p) c.invalidate.result c.overflowing-answer.result (ap is_some (sym c.in-Some-get.ensures.value)) c.invalidate.ensures.answer c.overflowing-answer.ensures c.in-None.is)
