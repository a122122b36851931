use Rattle.std.proofs.Common.{◌≤◌, sym, subst, ◌∙◌}
use Rattle.triple_arena_session.proofs.Shown.{reserved_done, reserved_refused}
use Rattle.triple_arena_session.proofs.named_arena.NamedArena.reserve.Goals as goal
use Rattle.triple_arena_session.proofs.named_arena.NamedArena.reserve.Goals.{in-Ok, in-Err}

pub returns : goal.returns
returns g c =
    let last = c.capacity-capacity.ensures.greatest in
    elim c.match-reallocate_min_capacity.branch [
      | in-Ok w ↦ reserved_done g.P.Ptr.numbers (g.A.SessionArena.state c.self.inside.arena) c.self.inside.table.items c.self.inside.table.room c.args.self.now c.self.view_is g.S.NonZeroInxGenericStack.kind g.P.Gen.PtrGen.generations g.S.NonZeroInxGenericStack.has_memory c.args.count c.match-reallocate_min_capacity.result (g.A.SessionArena.state c.reallocate_min_capacity.new.self) w.result-is (subst (λ n. c.args.count ≤ n) (sym last) w.in-Ok.ensures.within.0) w.in-Ok.ensures.within.1 w.in-Ok.ensures.done
      | in-Err w ↦ reserved_refused g.P.Ptr.numbers (g.A.SessionArena.state c.self.inside.arena) c.self.inside.table.items c.self.inside.table.room c.args.self.now c.self.view_is g.S.NonZeroInxGenericStack.kind g.P.Gen.PtrGen.generations g.S.NonZeroInxGenericStack.has_memory c.args.count c.match-reallocate_min_capacity.result (g.A.SessionArena.state c.reallocate_min_capacity.new.self) c.reallocate_min_capacity.result w.in-Err.why w.in-Err.is (w.result-is ∙ w.refused_reply.ensures) (rw last c.reallocate_min_capacity.ensures.beyond) (rw last c.reallocate_min_capacity.ensures.succeeds) (rw last c.reallocate_min_capacity.ensures.with_memory) w.in-Err.ensures.refused
    ]
