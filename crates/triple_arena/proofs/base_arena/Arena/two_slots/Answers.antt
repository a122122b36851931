use Rattle.triple_arena_traits.proofs.Refused.{err_is, if_err, of_same}
use Rattle.triple_arena_slots.proofs.Refused.{past_slots}
use Rattle.triple_arena_traits.specs.ArenaState.{slot_count}
use Rattle.triple_arena_slots.specs.Slot.{entry_of}
use Rattle.triple_arena_stack.specs.Disjoint.{AreTwo, IsRefused}
use Rattle.std.proofs.lemmas.List.{length-map}
use Rattle.std.proofs.Common.{◌∙◌, sym, ap, inl, inr}
use Rattle.triple_arena.proofs.base_arena.Arena.two_slots.Goals as goal

pub returns-in_err-check_disjoint-clause-variant : goal.returns-in_err-check_disjoint-clause-variant
returns-in_err-check_disjoint-clause-variant g c =
    rw (err_is c.from_residual.result c.in_err-check_disjoint.field-0.0 c.from_residual.ensures.1) (of_same (λ n i j. IsRefused n i j c.in_err-check_disjoint.field-0.0) _ _ _ _ _ _ (sym (length-map (g.S.NonZeroInxGenericStack.items c.self.inside.slots.slots.stack) (entry_of g.P.Gen.PtrGen.number)) ∙ ap slot_count c.self.view_is) (rw c.in-Some-Some.is-0 at c.try_into_usize.ensures.number) (rw c.in-Some-Some.is-1 at c.try_into_usize-2.ensures.number) (rw c.uncounted_stack-stack.ensures at c.in_err-check_disjoint.ensures))

pub returns-in_err-check_disjoint-clause-numbers : goal.returns-in_err-check_disjoint-clause-numbers
returns-in_err-check_disjoint-clause-numbers g c = if_err c.from_residual.result c.in_err-check_disjoint.field-0.0 (err_is c.from_residual.result c.in_err-check_disjoint.field-0.0 c.from_residual.ensures.1) _

pub returns-clause-variant : goal.returns-clause-variant
returns-clause-variant g c =
    of_same AreTwo _ _ _ _ _ _ (sym (length-map (g.S.NonZeroInxGenericStack.items c.self.inside.slots.slots.stack) (entry_of g.P.Gen.PtrGen.number)) ∙ ap slot_count c.self.view_is) (rw c.in-Some-Some.is-0 at c.try_into_usize.ensures.number) (rw c.in-Some-Some.is-1 at c.try_into_usize-2.ensures.number) (rw c.uncounted_stack-stack.ensures at c.in_ok-check_disjoint.ensures)

pub returns-clause-numbers : goal.returns-clause-numbers
returns-clause-numbers g c = (rw c.in-Some-Some.is-0 at c.try_into_usize.ensures.number, rw c.in-Some-Some.is-1 at c.try_into_usize-2.ensures.number)

pub returns-in_default-clause-variant : goal.returns-in_default-clause-variant
returns-in_default-clause-variant g c =
    inr (past_slots c.args.self.now _ _ c.self.invariant.well c.self.view_is (rw c.in_default.is-1 at c.try_into_usize-2.ensures.number))

pub returns-in_default-2-clause-variant : goal.returns-in_default-2-clause-variant
returns-in_default-2-clause-variant g c =
    inl (past_slots c.args.self.now _ _ c.self.invariant.well c.self.view_is (rw c.in_default.is-0 at c.try_into_usize.ensures.number))
