use Rattle.std.proofs.Common.{inl, inr}
use Rattle.triple_arena_stack.specs.Disjoint.{AreTwo, IsRefused}
use Rattle.triple_arena_traits.proofs.Refused.{err_is, of_same}
use Rattle.triple_arena_direct_arena.proofs.Refused.{past_slots, out_of_bounds, number_found}
use Rattle.triple_arena_direct_arena.proofs.Resizing.{size_is}
use Rattle.triple_arena_direct_arena.proofs.direct_arena.DirectArena.two_slots.Goals as goal

pub returns-clause-numbers : goal.returns-clause-numbers
returns-clause-numbers g c = (
  number_found _ _ _ _ _ c.in_ok-first.ensures.value c.try_into_usize.ensures.number,
  number_found _ _ _ _ _ c.in_ok-second.ensures.value c.try_into_usize-2.ensures.number,
)

pub returns-clause-variant : goal.returns-clause-variant
returns-clause-variant g c =
    let both = returns-clause-numbers g c in
    of_same AreTwo _ _ _ _ _ _ (size_is g.P.Gen.PtrGen.number _ _ _ _ c.args.self.now c.self.view_is) both.0 both.1 (rw c.uncounted_stack-stack.ensures at c.in_ok-check_disjoint.ensures)

pub returns-in_err-check_disjoint-clause-variant : goal.returns-in_err-check_disjoint-clause-variant
returns-in_err-check_disjoint-clause-variant g c =
    let e = c.in_err-check_disjoint.field-0.0 in
    rw (err_is c.from_residual-in_err-check_disjoint.result e c.from_residual-in_err-check_disjoint.ensures.1)
    (of_same (λ n i j. IsRefused n i j e) _ _ _ _ _ _ (size_is g.P.Gen.PtrGen.number _ _ _ _ c.args.self.now c.self.view_is)
    (number_found _ _ _ _ _ c.in_ok-first.ensures.value c.try_into_usize.ensures.number)
    (number_found _ _ _ _ _ c.in_ok-second.ensures.value c.try_into_usize-2.ensures.number)
    (rw c.uncounted_stack-stack.ensures at c.in_err-check_disjoint.ensures))

pub returns-in_err-first-clause-variant : goal.returns-in_err-first-clause-variant
returns-in_err-first-clause-variant g c =
    out_of_bounds c.try_into_usize.result c.in_err-first.field-0.0 c.from_residual.result _ _ _ c.from_residual.ensures.1 c.in_err-first.ensures.value
    (λ none. inl (past_slots _ c.args.self.now _ _ c.self.invariant c.self.view_is (rw none at c.try_into_usize.ensures.number)))

pub returns-in_err-second-clause-variant : goal.returns-in_err-second-clause-variant
returns-in_err-second-clause-variant g c =
    out_of_bounds c.try_into_usize-2.result c.in_err-second.field-0.0 c.from_residual-in_err-second.result _ _ _ c.from_residual-in_err-second.ensures.1 c.in_err-second.ensures.value
    (λ none. inr (past_slots _ c.args.self.now _ _ c.self.invariant c.self.view_is (rw none at c.try_into_usize-2.ensures.number)))
