use Rattle.std.proofs.Common.{◌∙◌, sym, ap, option_copied}
use Rattle.std.specs.Option.{option_and_then}
use Rattle.triple_arena_direct_arena.specs.DirectSlot.{direct_slot_entry}
use Rattle.triple_arena_traits.specs.laws.EntryLaws.{slot_read}
use Rattle.triple_arena_direct_arena.proofs.Refused.{none_past, entry_indexed}
use Rattle.triple_arena_direct_arena.proofs.direct_arena.DirectArena.slot.Goals as goal

pub returns-clause-entry : goal.returns-clause-entry
returns-clause-entry g c =
    slot_read (direct_slot_entry g.P.Gen.PtrGen.number) (g.S.NonZeroInxGenericStack.items c.self.inside.slots.stack) _ _ _ _ c.peek.ensures (ap (λ s. s.slots) c.self.view_is) c.in_ok-try_into_usize.ensures.number

pub returns-clause-within : goal.returns-clause-within
returns-clause-within g c live = entry_indexed _ _ _ (g.P.Inx.PtrInx.number c.args.inx) c.self.invariant c.self.view_is live

pub returns-in_err-try_into_usize-clause-entry : goal.returns-in_err-try_into_usize-clause-entry
returns-in_err-try_into_usize-clause-entry g c =
    ap (λ o. option_and_then (direct_slot_entry g.P.Gen.PtrGen.number) (option_copied o)) c.from_residual.ensures
    ∙ sym (none_past _ _ _ (g.P.Inx.PtrInx.number c.args.inx) c.self.invariant c.self.view_is c.in_err-try_into_usize.ensures.number)

pub returns-in_err-try_into_usize-clause-within : goal.returns-in_err-try_into_usize-clause-within
returns-in_err-try_into_usize-clause-within g c live = entry_indexed _ _ _ (g.P.Inx.PtrInx.number c.args.inx) c.self.invariant c.self.view_is live
