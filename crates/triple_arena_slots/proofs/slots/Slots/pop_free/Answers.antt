use Rattle.std.proofs.Common.{◌≡◌, ◌∙◌, ◌-◌, length, take, map, is_some, Some, sym, ap, arith}
use Rattle.std.proofs.lemmas.List.{take-map, length-take-le}
use Rattle.std.specs.Int.NonZero.{non_zero_usize_get}
use Rattle.triple_arena_traits.specs.Items.{item}
use Rattle.triple_arena_traits.specs.Places.{number_or_zero}
use Rattle.triple_arena_traits.specs.laws.ItemLaws.{item_last}
use Rattle.triple_arena_slots.specs.Slot.{entry_of}
use Rattle.triple_arena_slots.proofs.Links.{can_leave}
use Rattle.triple_arena_slots.proofs.Unlinking.{no_entry_at}
use Rattle.triple_arena_slots.proofs.FreeEnd.{item-popped, popped_length, Shows-without_last}
use Rattle.triple_arena_slots.proofs.slots.Slots.pop_free.Goals as goal

pub into_link-link-requires-after_bounds : goal.into_link-link-requires-after_bounds
into_link-link-requires-after_bounds g c κs within =
    let items = g.S.NonZeroInxGenericStack.items c.args.self.now.slots.stack in
    let inx = non_zero_usize_get c.unwrap-inx.result in
    let last : inx ≡ length items = sym (ap number_or_zero c.unwrap-inx.ensures) ∙ c.index_of.ensures ∙ c.len.ensures in
    let found = item_last items inx c.pop.result c.unwrap-inx.result.ok last c.pop.ensures.value in
    ap is_some (no_entry_at g.P.Gen.PtrGen.number items inx c.pop.result (ap (item (map (entry_of g.P.Gen.PtrGen.number) items)) last ∙ c.requires.free) found)

pub unlink-requires-clause-can_leave : goal.unlink-requires-clause-can_leave
unlink-requires-clause-can_leave g c κs within =
    let items = g.S.NonZeroInxGenericStack.items c.args.self.now.slots.stack in
    let inx = non_zero_usize_get c.unwrap-inx.result in
    let last : inx ≡ length items = sym (ap number_or_zero c.unwrap-inx.ensures) ∙ c.index_of.ensures ∙ c.len.ensures in
    let found = item_last items inx c.pop.result c.unwrap-inx.result.ok last c.pop.ensures.value in
    rw (c.pop.ensures.stack, g.met.S.NonZeroInxGenericStack.items_with_items, c.before-2.ensures, c.after.ensures)
    (can_leave g.P.Gen.PtrGen.number items (take (length items - 1) items) _ inx c.requires.shown.1 c.into_link-link.result c.requires.shown.0 (item-popped items inx last) (found ∙ ap Some c.into_link-link.ensures) c.requires.shown.2)

pub unlink-requires-clause-indexed : goal.unlink-requires-clause-indexed
unlink-requires-clause-indexed g c κs within =
    let items = g.S.NonZeroInxGenericStack.items c.args.self.now.slots.stack in
    let popped = ap g.S.NonZeroInxGenericStack.items c.pop.ensures.stack ∙ g.met.S.NonZeroInxGenericStack.items_with_items _ _ in
    omega (arith, ap length popped, length-take-le (length items - 1) items (omega arith), c.requires.indexed)

pub returns-clause-shows : goal.returns-clause-shows
returns-clause-shows g c s len shows =
    let items = g.S.NonZeroInxGenericStack.items c.args.self.now.slots.stack in
    let inx = non_zero_usize_get c.unwrap-inx.result in
    let last : inx ≡ length items = sym (ap number_or_zero c.unwrap-inx.ensures) ∙ c.index_of.ensures ∙ c.len.ensures in
    let found = item_last items inx c.pop.result c.unwrap-inx.result.ok last c.pop.ensures.value in
    let popped = ap g.S.NonZeroInxGenericStack.items c.pop.ensures.stack ∙ g.met.S.NonZeroInxGenericStack.items_with_items _ _ in
    Shows-without_last g.P.Gen.PtrGen.number items (take (length items - 1) items) _ _ _ inx len c.into_link-link.result s last (found ∙ ap Some c.into_link-link.ensures) (item-popped items inx last) (sym (take-map (entry_of g.P.Gen.PtrGen.number) (length items - 1) items)) (rw (popped, c.before-2.ensures, c.after.ensures) at c.unlink.ensures.leaves) shows

pub pop-requires-after_bounds : goal.pop-requires-after_bounds
pop-requires-after_bounds g c κs within =
    let last : non_zero_usize_get c.unwrap-inx.result ≡ length (g.S.NonZeroInxGenericStack.items c.args.self.now.slots.stack) = sym (ap number_or_zero c.unwrap-inx.ensures) ∙ c.index_of.ensures ∙ c.len.ensures in
    omega (arith, last, c.unwrap-inx.result.ok)

pub returns-clause-popped : goal.returns-clause-popped
returns-clause-popped g c =
    let popped = ap g.S.NonZeroInxGenericStack.items c.pop.ensures.stack ∙ g.met.S.NonZeroInxGenericStack.items_with_items _ _ in
    let last : non_zero_usize_get c.unwrap-inx.result ≡ length (g.S.NonZeroInxGenericStack.items c.args.self.now.slots.stack) = sym (ap number_or_zero c.unwrap-inx.ensures) ∙ c.index_of.ensures ∙ c.len.ensures in
    popped_length (entry_of g.P.Gen.PtrGen.number) _ _ _ c.unlink.ensures.leaves.entries popped (omega (arith, last, c.unwrap-inx.result.ok))

pub returns-clause-room : goal.returns-clause-room
returns-clause-room g c =
    c.unlink.ensures.room ∙ ap g.S.NonZeroInxGenericStack.room c.pop.ensures.stack ∙ g.met.S.NonZeroInxGenericStack.room_with_items _ _

pub returns-clause-limit : goal.returns-clause-limit
returns-clause-limit g c =
    c.unlink.ensures.limit ∙ ap g.S.NonZeroInxGenericStack.limit c.pop.ensures.stack ∙ g.met.S.NonZeroInxGenericStack.limit_with_items _ _
