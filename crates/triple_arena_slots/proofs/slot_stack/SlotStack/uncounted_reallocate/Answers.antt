use Rattle.std.proofs.Common.{ap}
use Rattle.triple_arena_traits.proofs.Growth.{place_after}
use Rattle.triple_arena_slots.proofs.Resizing.{on_err}
use Rattle.triple_arena_slots.proofs.slot_stack.SlotStack.uncounted_reallocate.Goals as goal

pub returns-clause-refused : goal.returns-clause-refused
returns-clause-refused g c = on_err c.reallocate_min_capacity-answer.result (ap g.S.NonZeroInxGenericStack.room) (rw c.uncounted_stack_mut.ensures.value at c.reallocate_min_capacity-answer.ensures.refused)

pub returns-clause-place : goal.returns-clause-place
returns-clause-place g c =
    let lent = c.uncounted_stack_mut.ensures.value in
    place_after c.reallocate_min_capacity-answer.result g.S.NonZeroInxGenericStack.kind _ _ _ _ _ _ c.max_capacity-limit.ensures.of_kind (rw lent at c.reallocate_min_capacity-answer.ensures.limit) (rw lent at c.reallocate_min_capacity-answer.ensures.room) (rw lent at c.reallocate_min_capacity-answer.ensures.within)
