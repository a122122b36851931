use Rattle.std.specs.Int.NonZero.{non_zero_usize_get}
use Rattle.triple_arena_slots.specs.Slot.{entry_of}
use Rattle.triple_arena_traits.proofs.SlotEntries.{entry_item, item_live}
use Rattle.triple_arena_slots.proofs.Links.{Shows-stamped}
use Rattle.triple_arena_slots.proofs.slots.Slots.restamp.Goals as goal

pub touch-requires-after_bounds : goal.touch-requires-after_bounds
touch-requires-after_bounds g c κs within =
    item_live (entry_of g.P.Gen.PtrGen.number) (g.S.NonZeroInxGenericStack.items c.args.self.now.slots.stack) (non_zero_usize_get c.args.inx) c.requires

pub set_generation-requires-after_bounds : goal.set_generation-requires-after_bounds
set_generation-requires-after_bounds g c κs within =
    rw (← entry_item (entry_of g.P.Gen.PtrGen.number) (g.S.NonZeroInxGenericStack.items c.args.self.now.slots.stack) (non_zero_usize_get c.args.inx) c.touch.result.now c.touch.ensures.value) c.requires

pub returns-clause-shows : goal.returns-clause-shows
returns-clause-shows g c s len shows =
    rw (g.met.S.NonZeroInxGenericStack.items_with_items, c.set_generation.ensures)
    (Shows-stamped g.P.Gen.PtrGen.number _ _ _ len c.args.generation _ s c.touch.ensures.value c.requires shows)

pub returns-clause-room : goal.returns-clause-room
returns-clause-room g c = g.met.S.NonZeroInxGenericStack.room_with_items _ _

pub returns-clause-limit : goal.returns-clause-limit
returns-clause-limit g c = g.met.S.NonZeroInxGenericStack.limit_with_items _ _
