use Rattle.std.proofs.Common.{◌<◌, false, map, ap, subst, ◌∙◌, inr}
use Rattle.triple_arena_base.specs.Held.{recast_item}
use Rattle.triple_arena_base.specs.Invalidation.{allowed_option}
use Rattle.triple_arena_ptr.specs.Numbers.{wraps}
use Rattle.triple_arena_traits.specs.Entries.{look_up}
use Rattle.triple_arena_traits.specs.ArenaState.{map_values}
use Rattle.triple_arena_traits.specs.Compression.{wraps_after}
use Rattle.triple_arena_direct.specs.Renaming.{Refuses}
use Rattle.triple_arena_session.specs.SessionState.{node_of}
use Rattle.triple_arena_session.proofs.Shown.{len-shown, arena_changed}
use Rattle.triple_arena_session.proofs.Renaming.{compacts, compacts_not, told_parts}
use Rattle.triple_arena_session.proofs.named_arena.NamedArena.compact.Goals as goal

pub returns-in-Ok : goal.returns-in-Ok
returns-in-Ok g c =
    let arena = (g.A.SessionArena.state c.self.inside.arena) in
    let table = c.self.inside.table.items in
    let parts = told_parts (wraps_after (wraps g.P.Gen.PtrGen.generations) false arena) c.in-Ok.answer c.overflowing-renaming.result c.in-Ok.ensures.answer c.overflowing-renaming.ensures in
    compacts g.P.Ptr.numbers g.P.Recast.held g.P.Recast.refill g.met.P.Ptr.holds_itself g.met.P.Ptr.refills arena
    g.S.NonZeroInxGenericStack.kind g.P.Gen.PtrGen.generations table c.self.inside.table.room c.args.self.now c.self.view_is
    (allowed_option c.in-Ok.answer).slots c.in-Ok.ensures.maps c.in-Ok.ensures.done.0 (g.A.SessionArena.state c.compress_recast.new.self) c.rename.new.self.items c.rename.new.self.room c.overflowing-renaming.result.1
    c.in-Ok.ensures.resolved c.in-Ok.ensures.done.1 c.in-Ok.ensures.done.2
    (c.rename.ensures.items ∙ ap (λ images. map (λ p. recast_item (look_up images.slots (g.P.Ptr.numbers p)) p) table) parts.0)
    c.rename.ensures.room parts.1

pub returns-in-Err-Unresolved : goal.returns-in-Err-Unresolved
returns-in-Err-Unresolved g c =
    compacts_not g.P.Ptr.numbers g.P.Recast.held g.P.Recast.refill g.met.P.Ptr.holds_itself g.met.P.Ptr.refills (g.A.SessionArena.state c.self.inside.arena)
    g.S.NonZeroInxGenericStack.kind g.P.Gen.PtrGen.generations c.self.inside.table.items c.self.inside.table.room c.args.self.now c.self.view_is
    c.in-Err-Unresolved.field-0-0 (g.A.SessionArena.state c.compress_recast.new.self) (subst (Refuses _ _) c.in-Err-Unresolved.field-0-is c.in-Err-Unresolved.ensures.refusal) c.in-Err-Unresolved.ensures.refused

pub returns-in-Err-Reallocation : goal.returns-in-Err-Reallocation
returns-in-Err-Reallocation g c =
    let wants = subst (Refuses _ _) c.in-Err-Reallocation.field-0-is c.in-Err-Reallocation.ensures.refusal in
    inr (
      subst (λ n. 0 < n) (len-shown g.P.Ptr.numbers (g.A.SessionArena.state c.self.inside.arena) c.self.inside.table.items c.self.inside.table.room c.args.self.now c.self.view_is) wants.1,
      arena_changed g.P.Ptr.numbers (g.A.SessionArena.state c.self.inside.arena) c.self.inside.table.items c.self.inside.table.room c.args.self.now c.self.view_is (λ a. a) (g.A.SessionArena.state c.compress_recast.new.self) (ap (map_values (node_of g.P.Ptr.numbers)) c.in-Err-Reallocation.ensures.refused),
    )
