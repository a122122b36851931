use Rattle.std.proofs.Common.{◌∙◌, sym, ap, subst}
use Rattle.triple_arena_ptr.specs.Numbers.{greatest_index}
use Rattle.triple_arena_stack.specs.Capacity.{stack_capacity, IsWithin, IsBeyond}
use Rattle.triple_arena_direct_arena.specs.DirectState.{DirectState}
use Rattle.triple_arena_traits.proofs.Growth.{on_ok}
use Rattle.triple_arena_slots.proofs.Resizing.{placed}
use Rattle.triple_arena_direct_arena.proofs.Resizing.{resized, room_asked}
use Rattle.triple_arena_direct_arena.proofs.direct_arena.DirectArena.reallocate.Goals as goal

pub invariant_of-self : goal.invariant_of-self
invariant_of-self g c =
    let e = c.uncounted_reallocate.ensures in
    (resized g.P.Gen.PtrGen.number g.S.NonZeroInxGenericStack.kind _ _ _ _ _ _ _ _ c.args.self.now c.args.min_capacity c.uncounted_reallocate.result c.self.invariant c.self.view_is e.items e.limit e.room e.refused).0

pub returns-clause-done : goal.returns-clause-done
returns-clause-done g c =
    let e = c.uncounted_reallocate.ensures in
    (resized g.P.Gen.PtrGen.number g.S.NonZeroInxGenericStack.kind _ _ _ _ _ _ _ _ c.args.self.now c.args.min_capacity c.uncounted_reallocate.result c.self.invariant c.self.view_is e.items e.limit e.room e.refused).1

pub returns-clause-refused : goal.returns-clause-refused
returns-clause-refused g c =
    let e = c.uncounted_reallocate.ensures in
    (resized g.P.Gen.PtrGen.number g.S.NonZeroInxGenericStack.kind _ _ _ _ _ _ _ _ c.args.self.now c.args.min_capacity c.uncounted_reallocate.result c.self.invariant c.self.view_is e.items e.limit e.room e.refused).2

pub returns-clause-within : goal.returns-clause-within
returns-clause-within g c =
    on_ok c.uncounted_reallocate.result (subst (λ l. IsWithin l c.args.min_capacity) (ap (λ (s : DirectState g.row.T.Denot). s.limit) c.self.view_is)) c.uncounted_reallocate.ensures.within

pub returns-clause-beyond : goal.returns-clause-beyond
returns-clause-beyond g c =
    let limit = ap (λ (s : DirectState g.row.T.Denot). s.limit) c.self.view_is in
    let when = c.uncounted_reallocate.ensures.beyond in
    (λ e. subst (λ l. IsBeyond l c.args.min_capacity) limit (when.0 e), λ past. when.1 (subst (λ l. IsBeyond l c.args.min_capacity) (sym limit) past))

pub returns-clause-succeeds : goal.returns-clause-succeeds
returns-clause-succeeds g c within same =
    c.uncounted_reallocate.ensures.succeeds
    (subst (λ l. IsWithin l c.args.min_capacity) (sym (ap (λ (s : DirectState g.row.T.Denot). s.limit) c.self.view_is)) within)
    (room_asked g.P.Gen.PtrGen.number g.S.NonZeroInxGenericStack.kind _ _ _ _ c.args.self.now c.args.min_capacity c.self.view_is ∙ same ∙ sym (ap (λ (s : DirectState g.row.T.Denot). s.room) c.self.view_is))

pub returns-clause-with_memory : goal.returns-clause-with_memory
returns-clause-with_memory g c within memory =
    c.uncounted_reallocate.ensures.with_memory
    (subst (λ l. IsWithin l c.args.min_capacity) (sym (ap (λ (s : DirectState g.row.T.Denot). s.limit) c.self.view_is)) within)
    (subst g.S.NonZeroInxGenericStack.has_memory (sym (room_asked g.P.Gen.PtrGen.number g.S.NonZeroInxGenericStack.kind _ _ _ _ c.args.self.now c.args.min_capacity c.self.view_is)) memory)

pub returns-clause-place : goal.returns-clause-place
returns-clause-place g c = placed c.uncounted_reallocate.result c.args.min_capacity (stack_capacity (g.S.NonZeroInxGenericStack.room c.uncounted_reallocate.new.self.stack) (g.S.NonZeroInxGenericStack.limit c.uncounted_reallocate.new.self.stack)) (greatest_index g.P.Inx.PtrInx.greatest) c.uncounted_reallocate.ensures.place
