use Rattle.std.proofs.Common.{◌∙◌, ap}
use Rattle.triple_arena_slots.proofs.slot_stack.SlotStack.uncounted_copy.Goals as goal

pub returns-clause-copied : goal.returns-clause-copied
returns-clause-copied g c = c.copy_entries.ensures.copied

pub returns-clause-ends : goal.returns-clause-ends
returns-clause-ends g c = c.copy_entries.ensures.ends

pub returns-clause-count : goal.returns-clause-count
returns-clause-count g c = c.copy_entries.ensures.count

pub returns-clause-room : goal.returns-clause-room
returns-clause-room g c = c.copy_entries.ensures.room ∙ ap g.S.NonZeroInxGenericStack.room c.uncounted_stack_mut.ensures.value

pub returns-clause-limit : goal.returns-clause-limit
returns-clause-limit g c = c.copy_entries.ensures.limit ∙ ap g.S.NonZeroInxGenericStack.limit c.uncounted_stack_mut.ensures.value
