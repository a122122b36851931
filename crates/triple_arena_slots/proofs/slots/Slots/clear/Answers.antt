use Rattle.std.proofs.Common.{◌∙◌, ap}
use Rattle.triple_arena_slots.proofs.slots.Slots.clear.Goals as goal

pub returns-clause-items : goal.returns-clause-items
returns-clause-items g c = ap g.S.NonZeroInxGenericStack.items c.clear.ensures ∙ g.met.S.NonZeroInxGenericStack.items_with_items _ _
