use Rattle.std.proofs.Common.{◌≡◌, ◌∙◌, ℕ, is_some, map, None, sym, ap, subst, arith}
use Rattle.std.specs.Option.{option_and_then}
use Rattle.triple_arena_ptr.specs.Pointers.{Pointer}
use Rattle.triple_arena_traits.specs.Entries.{entry_in, value_of_generation}
use Rattle.triple_arena_traits.proofs.SlotEntries.{none_past}
use Rattle.triple_arena_slots.proofs.slot_stack.SlotStack.find.Goals as goal

pub returns-in_err-inx-clause-live : goal.returns-in_err-inx-clause-live
returns-in_err-inx-clause-live g c =
    let items = g.S.NonZeroInxGenericStack.items c.args.self.now.stack in
    let at = ap g.P.Inx.PtrInx.number c.inx.ensures ∙ sym (ap (λ (q : Pointer). q.0) (g.met.P.Ptr.numbers_of c.args.p)) in
    let n : ℕ = g.P.Inx.PtrInx.number c.inx.result in
    let none : entry_in (map g.X.EntrySlot.entry items) n ≡ None = none_past g.X.EntrySlot.entry items n (omega (arith, c.requires, c.in_err-inx.ensures.number)) in
    let here : entry_in (map g.X.EntrySlot.entry items) (g.P.Ptr.numbers c.args.p).0 ≡ None = subst (λ k. entry_in (map g.X.EntrySlot.entry items) k ≡ None) at none in
    ap is_some c.from_residual.ensures ∙ sym (ap (λ o. is_some (option_and_then (value_of_generation (g.P.Ptr.numbers c.args.p).1) o)) here)
