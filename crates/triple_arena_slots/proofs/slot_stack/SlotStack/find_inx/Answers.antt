use Rattle.std.proofs.Common.{◌≡◌, ◌∙◌, is_some, map, None, sym, ap, arith}
use Rattle.triple_arena_traits.specs.Entries.{entry_in}
use Rattle.triple_arena_traits.proofs.SlotEntries.{none_past}
use Rattle.triple_arena_slots.proofs.slot_stack.SlotStack.find_inx.Goals as goal

pub returns-in_err-inx-clause-live : goal.returns-in_err-inx-clause-live
returns-in_err-inx-clause-live g c =
    let items = g.S.NonZeroInxGenericStack.items c.args.self.now.stack in
    let none : entry_in (map g.X.EntrySlot.entry items) (g.P.Inx.PtrInx.number c.args.inx) ≡ None = none_past g.X.EntrySlot.entry items (g.P.Inx.PtrInx.number c.args.inx) (omega (arith, c.requires, c.in_err-inx.ensures.number)) in
    ap is_some c.from_residual.ensures ∙ sym (ap is_some none)
