use Rattle.std.proofs.Common.{◌≡◌, ◌∙◌, ◌+◌, ◌-◌, length, not, sym, ap, inr, arith}
use Rattle.triple_arena_traits.proofs.SlotEntries.{free_end}
use Rattle.triple_arena_traits.proofs.entry_slots.ends_free_past.Goals as goal

pub returns-clause-yes : goal.returns-clause-yes
returns-clause-yes g c ends =
    let end : length c.as_slice-slots.result.now - 1 + 1 ≡ length c.as_slice-slots.result.now = omega arith in
    free_end g.X.EntrySlot.entry (g.S.NonZeroInxGenericStack.items c.args.stack.now) _ _ _ c.as_slice-slots.ensures end c.index-slots-end.is ∙ sym (ap not c.is_live.ensures) ∙ ends

pub returns-clause-no : goal.returns-clause-no
returns-clause-no g c ends =
    let end : length c.as_slice-slots.result.now - 1 + 1 ≡ length c.as_slice-slots.result.now = omega arith in
    inr (free_end g.X.EntrySlot.entry (g.S.NonZeroInxGenericStack.items c.args.stack.now) _ _ _ c.as_slice-slots.ensures end c.index-slots-end.is ∙ sym (ap not c.is_live.ensures) ∙ ends)
