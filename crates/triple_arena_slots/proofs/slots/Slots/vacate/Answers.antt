use Rattle.std.proofs.Common.{◌≢◌, ◌∙◌, length, ap, arith}
use Rattle.std.specs.Int.NonZero.{non_zero_usize_get}
use Rattle.triple_arena_traits.specs.laws.ItemLaws.{item_last}
use Rattle.triple_arena_slots.specs.Slot.{entry_of}
use Rattle.triple_arena_traits.proofs.SlotEntries.{entry_item, item_live}
use Rattle.triple_arena_slots.proofs.Links.{live_in, root_not_live, root_vacant, Shows-popped, Shows-freed}
use Rattle.triple_arena_slots.proofs.slots.Slots.vacate.Goals as goal

pub pop-requires-after_bounds : goal.pop-requires-after_bounds
pop-requires-after_bounds g c κs within = omega (arith, c.get.ensures.nonzero, c.if-get-len.true, c.len.ensures)

pub into_entry-requires-after_bounds : goal.into_entry-requires-after_bounds
into_entry-requires-after_bounds g c κs within =
    let items = g.S.NonZeroInxGenericStack.items c.args.self.now.slots.stack in
    let found = item_last items (non_zero_usize_get c.args.inx) c.pop.result c.args.inx.ok (omega arith) c.pop.ensures.value in
    rw (← entry_item (entry_of g.P.Gen.PtrGen.number) items (non_zero_usize_get c.args.inx) c.pop.result found) c.requires.live

pub returns-then-get-len-clause-entry : goal.returns-then-get-len-clause-entry
returns-then-get-len-clause-entry g c =
    let items = g.S.NonZeroInxGenericStack.items c.args.self.now.slots.stack in
    let found = item_last items (non_zero_usize_get c.args.inx) c.pop.result c.args.inx.ok (omega arith) c.pop.ensures.value in
    entry_item (entry_of g.P.Gen.PtrGen.number) items (non_zero_usize_get c.args.inx) c.pop.result found ∙ c.into_entry.ensures

pub returns-then-get-len-clause-shows : goal.returns-then-get-len-clause-shows
returns-then-get-len-clause-shows g c raise s len shows =
    let items = g.S.NonZeroInxGenericStack.items c.args.self.now.slots.stack in
    let live = live_in g.P.Gen.PtrGen.number items _ (non_zero_usize_get c.args.inx) len s c.requires.live shows in
    rw (c.pop.ensures.stack, g.met.S.NonZeroInxGenericStack.items_with_items)
    (Shows-popped g.P.Gen.PtrGen.number raise items _ (non_zero_usize_get c.args.inx) len live.0 s (omega arith) live.1 shows)

pub returns-then-get-len-clause-room : goal.returns-then-get-len-clause-room
returns-then-get-len-clause-room g c =
    ap g.S.NonZeroInxGenericStack.room c.pop.ensures.stack ∙ g.met.S.NonZeroInxGenericStack.room_with_items _ _

pub returns-then-get-len-clause-limit : goal.returns-then-get-len-clause-limit
returns-then-get-len-clause-limit g c =
    ap g.S.NonZeroInxGenericStack.limit c.pop.ensures.stack ∙ g.met.S.NonZeroInxGenericStack.limit_with_items _ _

pub free-requires-clause-there : goal.free-requires-clause-there
free-requires-clause-there g c κs within =
    item_live (entry_of g.P.Gen.PtrGen.number) (g.S.NonZeroInxGenericStack.items c.args.self.now.slots.stack) (non_zero_usize_get c.args.inx) c.requires.live

pub free-requires-clause-other : goal.free-requires-clause-other
free-requires-clause-other g c κs within =
    root_not_live g.P.Gen.PtrGen.number (g.S.NonZeroInxGenericStack.items c.args.self.now.slots.stack) _ (non_zero_usize_get c.args.inx) c.requires.shown.1 c.requires.shown.0 c.requires.live c.requires.shown.2

pub free-requires-clause-root_free : goal.free-requires-clause-root_free
free-requires-clause-root_free g c κs within = λ j e.
    root_vacant g.P.Gen.PtrGen.number (g.S.NonZeroInxGenericStack.items c.args.self.now.slots.stack) _ j c.requires.shown.1 c.requires.shown.0 e c.requires.shown.2

pub into_entry-requires-2-after_bounds : goal.into_entry-requires-2-after_bounds
into_entry-requires-2-after_bounds g c κs within =
    rw (← entry_item (entry_of g.P.Gen.PtrGen.number) (g.S.NonZeroInxGenericStack.items c.args.self.now.slots.stack) (non_zero_usize_get c.args.inx) c.free.result c.free.ensures.slot) c.requires.live

pub returns-clause-entry : goal.returns-clause-entry
returns-clause-entry g c =
    entry_item (entry_of g.P.Gen.PtrGen.number) (g.S.NonZeroInxGenericStack.items c.args.self.now.slots.stack) (non_zero_usize_get c.args.inx) c.free.result c.free.ensures.slot ∙ c.into_entry-2.ensures

pub returns-clause-shows : goal.returns-clause-shows
returns-clause-shows g c raise s len shows =
    let items = g.S.NonZeroInxGenericStack.items c.args.self.now.slots.stack in
    let live = live_in g.P.Gen.PtrGen.number items _ (non_zero_usize_get c.args.inx) len s c.requires.live shows in
    let inner : non_zero_usize_get c.args.inx ≢ length items = λ h. c.if-get-len.false (omega arith) in
    rw c.free.ensures.root
    (Shows-freed g.P.Gen.PtrGen.number raise items _ _ (non_zero_usize_get c.args.inx) len live.0 s inner c.free.ensures.begins live.1 shows)

pub returns-clause-room : goal.returns-clause-room
returns-clause-room g c = c.free.ensures.room

pub returns-clause-limit : goal.returns-clause-limit
returns-clause-limit g c = c.free.ensures.limit
