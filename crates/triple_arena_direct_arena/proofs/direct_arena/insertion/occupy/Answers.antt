use Rattle.std.proofs.Common.{◌∙◌, map, is_some, sym, ap, arith}
use Rattle.std.proofs.lemmas.List.{length-map, map_push}
use Rattle.std.specs.Int.NonZero.{non_zero_usize_get}
use Rattle.triple_arena_traits.specs.Items.{item, with_item}
use Rattle.triple_arena_traits.specs.Entries.{entry_in}
use Rattle.triple_arena_traits.specs.laws.ItemLaws.{item-map, map-with_item}
use Rattle.triple_arena_traits.proofs.Present.{some_mapped}
use Rattle.triple_arena_direct_arena.specs.laws.DirectInsertionLaws.{entry-extended, slot-extended}
use Rattle.triple_arena_direct_arena.specs.DirectSlot.{direct_slot_entry}
use Rattle.triple_arena_traits.proofs.SlotEntries.{entry_item}
use Rattle.triple_arena_direct_arena.proofs.Occupying.{pushed_next}
use Rattle.triple_arena_direct_arena.proofs.direct_arena.insertion.occupy.Goals as goal

pub returns-then-len-get-clause-slots : goal.returns-then-len-get-clause-slots
returns-then-len-get-clause-slots g c =
    let f = direct_slot_entry g.P.Gen.PtrGen.number in
    let es = g.S.NonZeroInxGenericStack.items c.args.slots.now.stack in
    let i = non_zero_usize_get c.args.inx in
    ap (map f) (ap g.S.NonZeroInxGenericStack.items c.push.ensures.stack ∙ g.met.S.NonZeroInxGenericStack.items_with_items _ _)
    ∙ map_push f es c.args.slot
    ∙ pushed_next (map f es) i (f c.args.slot) (omega (arith, c.if-len-get.true, c.len.ensures, c.get.ensures.value, c.args.inx.ok, length-map es f))

pub extend-requires-after_bounds : goal.extend-requires-after_bounds
extend-requires-after_bounds g c κs within = rw (c.uncounted_stack_mut.ensures.value, c.get-2.ensures.value) c.requires.within

pub put-requires-after_bounds : goal.put-requires-after_bounds
put-requires-after_bounds g c κs within =
    let f = direct_slot_entry g.P.Gen.PtrGen.number in
    let i = non_zero_usize_get c.args.inx in
    let grown = rw (c.uncounted_stack_mut.ensures.value, c.get-2.ensures.value) at c.extend.ensures.slots in
    some_mapped f (item (g.S.NonZeroInxGenericStack.items c.extend.new.stack) i) _ (sym (item-map f _ i))
    (ap is_some (ap (λ xs. item xs i) grown ∙ slot-extended (map f (g.S.NonZeroInxGenericStack.items c.args.slots.now.stack)) i c.args.inx.ok))

pub discard-requires-after_bounds : goal.discard-requires-after_bounds
discard-requires-after_bounds g c κs within =
    let f = direct_slot_entry g.P.Gen.PtrGen.number in
    let i = non_zero_usize_get c.args.inx in
    let grown = rw (c.uncounted_stack_mut.ensures.value, c.get-2.ensures.value) at c.extend.ensures.slots in
    sym (entry_item f _ i c.put.result c.put.ensures.value) ∙ ap (λ xs. entry_in xs i) grown ∙ entry-extended _ _ i ∙ c.requires.free

pub returns-clause-slots : goal.returns-clause-slots
returns-clause-slots g c =
    let f = direct_slot_entry g.P.Gen.PtrGen.number in
    let i = non_zero_usize_get c.args.inx in
    let grown = rw (c.uncounted_stack_mut.ensures.value, c.get-2.ensures.value) at c.extend.ensures.slots in
    ap (map f) (ap g.S.NonZeroInxGenericStack.items c.put.ensures.stack ∙ g.met.S.NonZeroInxGenericStack.items_with_items _ _)
    ∙ map-with_item f (g.S.NonZeroInxGenericStack.items c.extend.new.stack) i c.args.slot
    ∙ ap (λ xs. with_item xs i (f c.args.slot)) grown
