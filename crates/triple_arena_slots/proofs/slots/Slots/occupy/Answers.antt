use Rattle.std.proofs.Common.{◌∙◌, Some, is_some, length, sym, ap, arith}
use Rattle.std.proofs.lemmas.Option.{same_Some}
use Rattle.std.specs.Int.NonZero.{non_zero_usize_get}
use Rattle.std.specs.Option.{option_map}
use Rattle.triple_arena_slots.specs.Slot.{entry_of, touch_if}
use Rattle.triple_arena_slots.specs.declared.slot.ArenaSlot.TheVariants.{Allocated}
use Rattle.triple_arena_slots.proofs.Links.{root_free, full_at_none, can_leave, first_link, Shows-filled, Shows-pushed, steps-filled, steps-pushed}
use Rattle.triple_arena_traits.specs.Items.{with_item}
use Rattle.triple_arena_traits.specs.laws.ItemLaws.{item-with_other, length-with_item}
use Rattle.triple_arena_slots.proofs.slots.Slots.occupy.Goals as goal

pub push-requires-after_bounds : goal.push-requires-after_bounds
push-requires-after_bounds g c κs within =
    omega (arith, full_at_none g.P.Gen.PtrGen.number _ _ _ c.requires.shown.0 (ap (option_map non_zero_usize_get) c.in-None.is) c.requires.shown.2, c.requires.shown.3)

pub put-requires-after_bounds : goal.put-requires-after_bounds
put-requires-after_bounds g c κs within =
    ap is_some (root_free g.P.Gen.PtrGen.number _ _ _ _ c.requires.shown.0 (ap (option_map non_zero_usize_get) c.in-Some.is) c.requires.shown.2).1

pub into_link-link-requires-after_bounds : goal.into_link-link-requires-after_bounds
into_link-link-requires-after_bounds g c κs within =
    let free = root_free g.P.Gen.PtrGen.number _ _ _ _ c.requires.shown.0 (ap (option_map non_zero_usize_get) c.in-Some.is) c.requires.shown.2 in
    ap (λ e. is_some (entry_of g.P.Gen.PtrGen.number e)) (same_Some _ _ (sym c.put.ensures.value ∙ free.1))

pub returns-in-None-clause-shows : goal.returns-in-None-clause-shows
returns-in-None-clause-shows g c s len shows room stamped =
    rw (c.push.ensures.stack, g.met.S.NonZeroInxGenericStack.items_with_items, c.in-None.is)
    (Shows-pushed g.P.Gen.PtrGen.number _ len c.args.generation c.args.value s room stamped (rw c.in-None.is at shows)).1

pub unlink-requires-clause-can_leave : goal.unlink-requires-clause-can_leave
unlink-requires-clause-can_leave g c κs within =
    let items = g.S.NonZeroInxGenericStack.items c.args.self.now.slots.stack in
    let inx = non_zero_usize_get c.in-Some.inx in
    let found = c.put.ensures.value ∙ ap Some c.into_link-link.ensures in
    let first = first_link g.P.Gen.PtrGen.number items inx _ c.into_link-link.result c.requires.shown.0 found (rw c.in-Some.is at c.requires.shown.2) in
    rw (c.put.ensures.stack, g.met.S.NonZeroInxGenericStack.items_with_items, c.after.ensures)
    (rw first at (can_leave g.P.Gen.PtrGen.number items (with_item items inx (Allocated c.args.generation c.args.value)) _ inx c.requires.shown.1 c.into_link-link.result c.requires.shown.0 (λ j other. item-with_other items inx j _ other) found c.requires.shown.2))

pub unlink-requires-clause-indexed : goal.unlink-requires-clause-indexed
unlink-requires-clause-indexed g c κs within =
    let items = g.S.NonZeroInxGenericStack.items c.args.self.now.slots.stack in
    let put = ap g.S.NonZeroInxGenericStack.items c.put.ensures.stack ∙ g.met.S.NonZeroInxGenericStack.items_with_items _ _ in
    omega (arith, ap length put, length-with_item items (non_zero_usize_get c.in-Some.inx) (Allocated c.args.generation c.args.value), c.requires.indexed)

pub returns-in-Some-clause-shows : goal.returns-in-Some-clause-shows
returns-in-Some-clause-shows g c s len shows room stamped =
    let items = g.S.NonZeroInxGenericStack.items c.args.self.now.slots.stack in
    let inx = non_zero_usize_get c.in-Some.inx in
    let put = ap g.S.NonZeroInxGenericStack.items c.put.ensures.stack ∙ g.met.S.NonZeroInxGenericStack.items_with_items _ _ in
    (Shows-filled g.P.Gen.PtrGen.number items _ _ inx len c.into_link-link.result c.args.generation c.args.value s room stamped (c.put.ensures.value ∙ ap Some c.into_link-link.ensures)
    (rw c.after.ensures at (rw c.in-Some.is at (rw put at c.unlink.ensures.leaves))) (rw c.in-Some.is at shows)).1

pub returns-in-None-clause-steps : goal.returns-in-None-clause-steps
returns-in-None-clause-steps g c s len shows =
    omega (arith, c.push.ensures.steps, steps-pushed g.P.Gen.PtrGen.number _ len s (rw c.in-None.is at shows))

pub returns-in-Some-clause-steps : goal.returns-in-Some-clause-steps
returns-in-Some-clause-steps g c s len shows =
    omega (arith, c.put.ensures.steps, c.unlink.ensures.steps, ap touch_if c.after.ensures, steps-filled g.P.Gen.PtrGen.number _ _ len c.into_link-link.result s (c.put.ensures.value ∙ ap Some c.into_link-link.ensures) (rw c.in-Some.is at shows))

pub returns-in-Some-clause-room : goal.returns-in-Some-clause-room
returns-in-Some-clause-room g c =
    c.unlink.ensures.room ∙ ap g.S.NonZeroInxGenericStack.room c.put.ensures.stack ∙ g.met.S.NonZeroInxGenericStack.room_with_items _ _

pub returns-in-Some-clause-limit : goal.returns-in-Some-clause-limit
returns-in-Some-clause-limit g c =
    c.unlink.ensures.limit ∙ ap g.S.NonZeroInxGenericStack.limit c.put.ensures.stack ∙ g.met.S.NonZeroInxGenericStack.limit_with_items _ _
