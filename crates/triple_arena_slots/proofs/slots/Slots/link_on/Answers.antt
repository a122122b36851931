use Rattle.std.proofs.Common.{is_some, ap}
use Rattle.std.specs.Int.NonZero.{non_zero_usize_get}
use Rattle.std.specs.Option.{option_map}
use Rattle.triple_arena_slots.specs.Slot.{next_in, previous_in}
use Rattle.triple_arena_slots.proofs.Unlinking.{free_slot_at, free_indexed, no_entry_at, LeadsTo-some}
use Rattle.triple_arena_slots.proofs.slots.Slots.link_on.Goals as goal

pub touch-requires-after_bounds : goal.touch-requires-after_bounds
touch-requires-after_bounds g c κs within =
    let vacant = c.requires.free (non_zero_usize_get c.in-Some.inx) (ap (option_map non_zero_usize_get) c.in-Some.is) in
    ap is_some (free_slot_at g.P.Gen.PtrGen.number (g.S.NonZeroInxGenericStack.items c.args.self.now.slots.stack) (non_zero_usize_get c.in-Some.inx) vacant).1

pub link_on-requires-clause-free : goal.link_on-requires-clause-free
link_on-requires-clause-free g c κs within =
    let vacant = c.requires.free (non_zero_usize_get c.in-Some.inx) (ap (option_map non_zero_usize_get) c.in-Some.is) in
    ap is_some (no_entry_at g.P.Gen.PtrGen.number (g.S.NonZeroInxGenericStack.items c.args.self.now.slots.stack) (non_zero_usize_get c.in-Some.inx) c.touch.result.now vacant c.touch.ensures.value)

pub link_on-requires-clause-indexed : goal.link_on-requires-clause-indexed
link_on-requires-clause-indexed g c κs within =
    free_indexed g.P.Gen.PtrGen.number (g.S.NonZeroInxGenericStack.items c.args.self.now.slots.stack) (non_zero_usize_get c.in-Some.inx) _ c.requires.indexed (c.requires.free (non_zero_usize_get c.in-Some.inx) (ap (option_map non_zero_usize_get) c.in-Some.is))

pub returns-in-Some-clause-links : goal.returns-in-Some-clause-links
returns-in-Some-clause-links g c =
    let items = g.S.NonZeroInxGenericStack.items c.args.self.now.slots.stack in
    let inx = non_zero_usize_get c.in-Some.inx in
    let vacant = c.requires.free inx (ap (option_map non_zero_usize_get) c.in-Some.is) in
    rw c.in-Some.is (LeadsTo-some g.P.Gen.PtrGen.number next_in previous_in items _ inx c.touch.result.now c.link_on.new.self _ c.touch.ensures.value (no_entry_at g.P.Gen.PtrGen.number items inx c.touch.result.now vacant c.touch.ensures.value) c.link_on.ensures (g.met.S.NonZeroInxGenericStack.items_with_items _ _))
