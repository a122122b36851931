use Rattle.std.proofs.Common.{◌∙◌, ap}
use Rattle.triple_arena_slots.proofs.slot_stack.SlotStack.uncounted_take_over.Goals as goal

pub returns-clause-transferred : goal.returns-clause-transferred
returns-clause-transferred g c = c.transfer_entries.ensures.transferred

pub returns-clause-emptied : goal.returns-clause-emptied
returns-clause-emptied g c = c.transfer_entries.ensures.emptied

pub returns-clause-many : goal.returns-clause-many
returns-clause-many g c = c.transfer_entries.ensures.count

pub returns-clause-room : goal.returns-clause-room
returns-clause-room g c = c.transfer_entries.ensures.room ∙ ap g.S.NonZeroInxGenericStack.room c.uncounted_stack_mut.ensures.value

pub returns-clause-limit : goal.returns-clause-limit
returns-clause-limit g c = c.transfer_entries.ensures.limit ∙ ap g.S.NonZeroInxGenericStack.limit c.uncounted_stack_mut.ensures.value
