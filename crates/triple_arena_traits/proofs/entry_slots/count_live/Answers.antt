use Rattle.std.proofs.Common.{◌∙◌, length, map, sym, ap, arith}
use Rattle.std.proofs.lemmas.List.{length-map}
use Rattle.triple_arena_traits.proofs.Listing.{count_within}
use Rattle.triple_arena_traits.proofs.CopyLemmas.{count_step}
use Rattle.triple_arena_traits.proofs.entry_slots.count_live.Goals.{then-is_live, else-is_live}
use Rattle.triple_arena_traits.proofs.entry_slots.count_live.Goals as goal

pub overflow_add-count : goal.overflow_add-count
overflow_add-count g c =
    let items = g.S.NonZeroInxGenericStack.items c.args.stack.now in
    let step = count_step g.X.EntrySlot.entry items c.as_slice-slot-items.result.now c.count.slot-index c.count.count _ c.slot-item.result c.as_slice-slot-items.ensures c.count-test.true c.slot-item.is c.count.invariant in
    omega (arith, rw (sym c.is_live.ensures ∙ c.if-is_live.true) at step, count_within (map g.X.EntrySlot.entry items), length-map items g.X.EntrySlot.entry, ap length c.as_slice-slot-items.ensures)

pub count-preserved : goal.count-preserved
count-preserved g c =
    let items = g.S.NonZeroInxGenericStack.items c.args.stack.now in
    let step = count_step g.X.EntrySlot.entry items c.as_slice-slot-items.result.now c.count.slot-index c.count.count _ c.slot-item.result c.as_slice-slot-items.ensures c.count-test.true c.slot-item.is c.count.invariant in
    elim c.if-is_live.branch [
      | then-is_live w ↦ omega (arith, w.count-is, rw (sym c.is_live.ensures ∙ w.if-is_live.true) at step)
      | else-is_live w ↦ omega (arith, w.count-is, rw (sym c.is_live.ensures ∙ w.if-is_live.false) at step)
    ]
