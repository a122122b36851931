use Rattle.std.proofs.Common.{◌≡◌, false, ◌++◌, ◌∷◌, [], List, Some, None, is_some, length, ap, sym, ◌∙◌, inr, ◌+◌}
use Rattle.std.specs.Option.{option_map}
use Rattle.triple_arena_traits.specs.ArenaState.{map_values}
use Rattle.triple_arena_traits.specs.Insertion.{inserted, next_pointer}
use Rattle.triple_arena_session.specs.declared.node.Node.{Node}
use Rattle.triple_arena_session.specs.SessionState.{node_of, link_pointer}
use Rattle.triple_arena_session.specs.SessionRun.{insert_within_answer}
use Rattle.triple_arena_session.proofs.Shown.{given, next-shown, inserted-shown, placed, not_placed, below, table_wants}
use Rattle.triple_arena_session.proofs.named_arena.NamedArena.insert_within.Goals as goal

pub returns : goal.returns
returns g c =
    let s = c.args.self.now in
    let link : link_pointer s.table c.args.link ≡ Some (option_map g.P.Ptr.numbers c.in-Some.target) = sym c.link_pointer.ensures ∙ ap (option_map (option_map g.P.Ptr.numbers)) c.in-Some.is in
    let node : Node g.row.X.Denot g.row.P.Denot = record { datum = c.args.datum; link = c.in-Some.target } in
    given g.P.Ptr.numbers (g.A.SessionArena.state c.self.inside.arena) c.self.inside.table.items c.self.inside.table.room s c.self.view_is c.insert_reserved-p.result (next_pointer s.arena) false (inserted s.arena (c.args.datum, option_map g.P.Ptr.numbers c.in-Some.target)) c.push.result (g.A.SessionArena.state c.insert_reserved-p.new.self) c.push.new.self.items c.push.new.self.room
    (c.insert_reserved-p.ensures.pointer ∙ next-shown g.P.Ptr.numbers (g.A.SessionArena.state c.self.inside.arena) c.self.inside.table.items c.self.inside.table.room s c.self.view_is)
    (ap (map_values (node_of g.P.Ptr.numbers)) c.insert_reserved-p.ensures.inserted ∙ inserted-shown g.P.Ptr.numbers (g.A.SessionArena.state c.self.inside.arena) c.self.inside.table.items c.self.inside.table.room s c.self.view_is node)
    (c.push.ensures.number ∙ ap (λ (l : List g.row.P.Denot). length l + 1) c.in-Ok.ensures.items)
    (c.push.ensures.items ∙ ap (λ (l : List g.row.P.Denot). l ++ c.insert_reserved-p.result ∷ []) c.in-Ok.ensures.items)
    (c.push.ensures.room ∙ c.in-Ok.ensures.grown)
    ∙ sym (ap (insert_within_answer s c.args.datum) link ∙ placed s c.args.datum (option_map g.P.Ptr.numbers c.in-Some.target) (sym c.if-is_full.ensures.full))

pub returns-in_default : goal.returns-in_default
returns-in_default g c =
    let link : link_pointer c.args.self.now.table c.args.link ≡ None = sym c.link_pointer.ensures ∙ ap (option_map (option_map g.P.Ptr.numbers)) c.in_default.is in
    sym (ap (insert_within_answer c.args.self.now c.args.datum) link)

pub returns-then-is_full : goal.returns-then-is_full
returns-then-is_full g c =
    let link : link_pointer c.args.self.now.table c.args.link ≡ Some (option_map g.P.Ptr.numbers c.in-Some.target) = sym c.link_pointer.ensures ∙ ap (option_map (option_map g.P.Ptr.numbers)) c.in-Some.is in
    sym (ap (insert_within_answer c.args.self.now c.args.datum) link ∙ not_placed c.args.self.now c.args.datum (option_map g.P.Ptr.numbers c.in-Some.target) (sym c.if-is_full.ensures.full))

pub returns-in_default-make_room : goal.returns-in_default-make_room
returns-in_default-make_room g c =
    let link : link_pointer c.args.self.now.table c.args.link ≡ Some (option_map g.P.Ptr.numbers c.in-Some.target) = sym c.link_pointer.ensures ∙ ap (option_map (option_map g.P.Ptr.numbers)) c.in-Some.is in
    inr (ap is_some link, below _ _ c.if-is_full.ensures.fits (sym c.if-is_full.ensures.full), table_wants g.P.Ptr.numbers (g.A.SessionArena.state c.self.inside.arena) c.self.inside.table.items c.self.inside.table.room c.args.self.now c.self.view_is c.make_room.new.self.items c.make_room.new.self.room c.in_default-make_room.ensures.refused.0 (ap (λ t. t.items) c.in_default-make_room.ensures.refused.1) (ap (λ t. t.room) c.in_default-make_room.ensures.refused.1))
