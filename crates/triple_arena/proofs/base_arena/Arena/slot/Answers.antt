use Rattle.std.proofs.Common.{◌≡◌, ◌∙◌, sym, ap, subst, IsSome, None, option_copied}
use Rattle.std.specs.Option.{option_and_then}
use Rattle.triple_arena_slots.specs.Slot.{entry_of}
use Rattle.triple_arena_traits.specs.ArenaState.{entry}
use Rattle.triple_arena_traits.specs.laws.WellFormedLaws.{entry_past, entry_within}
use Rattle.triple_arena_traits.specs.laws.EntryLaws.{slot_read}
use Rattle.triple_arena.proofs.base_arena.Arena.slot.Goals as goal

pub returns-clause-entry : goal.returns-clause-entry
returns-clause-entry g c =
    slot_read (entry_of g.P.Gen.PtrGen.number) (g.S.NonZeroInxGenericStack.items c.self.inside.slots.slots.stack) _ _ _ _ c.peek.ensures (ap (λ s. s.slots) c.self.view_is) c.in_ok-try_into_usize.ensures.number

pub returns-clause-within : goal.returns-clause-within
returns-clause-within g c live =
    (entry_within _ (g.P.Inx.PtrInx.number c.args.inx) c.self.invariant.well (subst (λ s. IsSome (entry s (g.P.Inx.PtrInx.number c.args.inx))) (sym c.self.view_is) live)).1

pub returns-in_err-try_into_usize-clause-entry : goal.returns-in_err-try_into_usize-clause-entry
returns-in_err-try_into_usize-clause-entry g c =
    ap (λ o. option_and_then (entry_of g.P.Gen.PtrGen.number) (option_copied o)) c.from_residual.ensures
    ∙ sym (subst (λ s. entry s (g.P.Inx.PtrInx.number c.args.inx) ≡ None) c.self.view_is (entry_past _ _ c.self.invariant.well c.in_err-try_into_usize.ensures.number))

pub returns-in_err-try_into_usize-clause-within : goal.returns-in_err-try_into_usize-clause-within
returns-in_err-try_into_usize-clause-within g c live =
    (entry_within _ (g.P.Inx.PtrInx.number c.args.inx) c.self.invariant.well (subst (λ s. IsSome (entry s (g.P.Inx.PtrInx.number c.args.inx))) (sym c.self.view_is) live)).1
