use Rattle.std.proofs.Common.{◌≡◌, false, ◌++◌, ◌∷◌, [], List, Some, None, is_some, length, ap, sym, ◌∙◌, inl, inr, ◌+◌}
use Rattle.std.specs.Option.{option_map}
use Rattle.triple_arena_base.specs.declared.errors.ReallocationError.TheVariants as refused
use Rattle.triple_arena_traits.specs.ArenaState.{map_values}
use Rattle.triple_arena_traits.specs.Insertion.{inserted, next_pointer}
use Rattle.triple_arena_traits.specs.Reallocation.{grown}
use Rattle.triple_arena_session.specs.declared.node.Node.{Node}
use Rattle.triple_arena_session.specs.SessionState.{node_of, link_pointer}
use Rattle.triple_arena_session.specs.SessionRun.{refusal, insert_answer, insert_unless}
use Rattle.triple_arena_session.proofs.Shown.{given, next-shown, inserted_grown-shown, arena_wants, table_wants, refused_insert}
use Rattle.triple_arena_session.proofs.named_arena.NamedArena.insert.Goals as goal

pub returns-in-Ok-insert : goal.returns-in-Ok-insert
returns-in-Ok-insert g c =
    let kind = g.S.NonZeroInxGenericStack.kind in
    let s = c.args.self.now in
    let link : link_pointer s.table c.args.link ≡ Some (option_map g.P.Ptr.numbers c.in-Some.target) = sym c.link_pointer.ensures ∙ ap (option_map (option_map g.P.Ptr.numbers)) c.in-Some.is in
    let clear : refusal s.arena ≡ None = sym c.in_default-refusal.ensures.why in
    let node : Node g.row.X.Denot g.row.P.Denot = record { datum = c.args.datum; link = c.in-Some.target } in
    given g.P.Ptr.numbers (g.A.SessionArena.state c.self.inside.arena) c.self.inside.table.items c.self.inside.table.room s c.self.view_is c.in-Ok-insert.p (next_pointer s.arena) false (inserted (grown kind s.arena) (c.args.datum, option_map g.P.Ptr.numbers c.in-Some.target)) c.push.result (g.A.SessionArena.state c.insert.new.self) c.push.new.self.items c.push.new.self.room
    (c.in-Ok-insert.ensures.pointer ∙ next-shown g.P.Ptr.numbers (g.A.SessionArena.state c.self.inside.arena) c.self.inside.table.items c.self.inside.table.room s c.self.view_is)
    (ap (map_values (node_of g.P.Ptr.numbers)) c.in-Ok-insert.ensures.inserted ∙ inserted_grown-shown g.P.Ptr.numbers (g.A.SessionArena.state c.self.inside.arena) c.self.inside.table.items c.self.inside.table.room s c.self.view_is kind node)
    (c.push.ensures.number ∙ ap (λ (l : List g.row.P.Denot). length l + 1) c.in-Ok.ensures.items)
    (c.push.ensures.items ∙ ap (λ (l : List g.row.P.Denot). l ++ c.in-Ok-insert.p ∷ []) c.in-Ok.ensures.items)
    (c.push.ensures.room ∙ c.in-Ok.ensures.grown)
    ∙ sym (ap (insert_answer kind g.P.Gen.PtrGen.generations s c.args.datum) link ∙ ap (λ w. insert_unless kind g.P.Gen.PtrGen.generations w s c.args.datum (option_map g.P.Ptr.numbers c.in-Some.target)) clear)

pub returns-in-Err : goal.returns-in-Err
returns-in-Err g c =
    let link : link_pointer c.args.self.now.table c.args.link ≡ Some (option_map g.P.Ptr.numbers c.in-Some.target) = sym c.link_pointer.ensures ∙ ap (option_map (option_map g.P.Ptr.numbers)) c.in-Some.is in
    let full = arena_wants g.P.Ptr.numbers (g.A.SessionArena.state c.self.inside.arena) c.self.inside.table.items c.self.inside.table.room c.args.self.now c.self.view_is g.S.NonZeroInxGenericStack.has_memory _ c.refusal.ensures.greatest c.in-Err.ensures.with_memory c.refusal.ensures.fits (λ place. (c.in-Err.ensures.had_place place).0) (g.A.SessionArena.state c.insert.new.self) c.make_room.new.self.items c.make_room.new.self.room c.in-Err.ensures.refused c.in-Ok.ensures.items c.in-Ok.ensures.grown in
    inr (ap is_some link, sym c.in_default-refusal.ensures.why, inr full)

pub returns-in_default : goal.returns-in_default
returns-in_default g c =
    let link : link_pointer c.args.self.now.table c.args.link ≡ None = sym c.link_pointer.ensures ∙ ap (option_map (option_map g.P.Ptr.numbers)) c.in_default.is in
    sym (ap (insert_answer g.S.NonZeroInxGenericStack.kind g.P.Gen.PtrGen.generations c.args.self.now c.args.datum) link)

pub returns-in-Some-refusal : goal.returns-in-Some-refusal
returns-in-Some-refusal g c =
    let link : link_pointer c.args.self.now.table c.args.link ≡ Some (option_map g.P.Ptr.numbers c.in-Some.target) = sym c.link_pointer.ensures ∙ ap (option_map (option_map g.P.Ptr.numbers)) c.in-Some.is in
    refused_insert g.S.NonZeroInxGenericStack.kind g.S.NonZeroInxGenericStack.has_memory g.P.Gen.PtrGen.generations c.args.self.now c.args.datum c.args.link (option_map g.P.Ptr.numbers c.in-Some.target) c.in-Some-refusal.why c.refused_reply.result link (sym c.in-Some-refusal.ensures.why) c.refused_reply.ensures

pub returns-in_default-make_room : goal.returns-in_default-make_room
returns-in_default-make_room g c =
    let link : link_pointer c.args.self.now.table c.args.link ≡ Some (option_map g.P.Ptr.numbers c.in-Some.target) = sym c.link_pointer.ensures ∙ ap (option_map (option_map g.P.Ptr.numbers)) c.in-Some.is in
    inr (ap is_some link, sym c.in_default-refusal.ensures.why, inl (table_wants g.P.Ptr.numbers (g.A.SessionArena.state c.self.inside.arena) c.self.inside.table.items c.self.inside.table.room c.args.self.now c.self.view_is c.make_room.new.self.items c.make_room.new.self.room c.in_default-make_room.ensures.refused.0 (ap (λ t. t.items) c.in_default-make_room.ensures.refused.1) (ap (λ t. t.room) c.in_default-make_room.ensures.refused.1)))
