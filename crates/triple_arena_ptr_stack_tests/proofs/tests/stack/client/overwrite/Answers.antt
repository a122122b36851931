use Rattle.std.proofs.Common.{ap, ◌∙◌}
use Rattle.triple_arena_ptr_stack_tests.proofs.tests.stack.client.overwrite.Goals as goal

pub returns-in-Some-clause-items : goal.returns-in-Some-clause-items
returns-in-Some-clause-items g c on =
    let S = g.met.S.NonZeroInxGenericStack in
    let ended = rw c.in-Some.is at (c.value_mut.follows.holds c.args.value) in
    ap (λ h. g.S.NonZeroInxGenericStack.items h.slots) ended ∙ S.items_with_items _ _

pub returns-in-Some-clause-room : goal.returns-in-Some-clause-room
returns-in-Some-clause-room g c =
    let S = g.met.S.NonZeroInxGenericStack in
    let ended = rw c.in-Some.is at (c.value_mut.follows.holds c.args.value) in
    ap (λ h. g.S.NonZeroInxGenericStack.room h.slots) ended ∙ S.room_with_items _ _
