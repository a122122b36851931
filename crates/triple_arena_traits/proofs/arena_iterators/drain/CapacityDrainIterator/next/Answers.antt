use Rattle.std.proofs.Common.{◌∙◌, Some, sym, ap, length, arith}
use Rattle.triple_arena_base.specs.Invalidation.{allowed_option}
use Rattle.triple_arena_traits.specs.laws.WalkLaws.{none_left, others_ahead}
use Rattle.triple_arena_traits.proofs.Walking.{allowed_told, none_drained, first_drained}
use Rattle.triple_arena_traits.proofs.arena_iterators.drain.CapacityDrainIterator.next.Goals as goal

pub returns-in_err-p-clause-steps : goal.returns-in_err-p-clause-steps
returns-in_err-p-clause-steps g c =
    let step = rw c.in_err-p.was at c.take_next.ensures.step in
    let none = none_drained _ _ _ _ c.self.invariant step.0 in
    rw c.from_residual.ensures (sym c.self.view_is ∙ none, rw step.1 none)

pub returns-clause-steps : goal.returns-clause-steps
returns-clause-steps g c =
    let step = rw c.in_ok-p.was at c.take_next.ensures.step in
    let value = sym (c.allow.ensures ∙ ap allowed_option step.1 ∙ allowed_told _ _) in
    sym c.self.view_is ∙ first_drained _ _ _ _ c.self.invariant _ _ _ step.2 (step.3 ∙ ap Some value) (g.met.A.ArenaLaws.slots_removed _ _ _ step.4.0)

pub returns-clause-goes : goal.returns-clause-goes
returns-clause-goes g c =
    record {
      on = λ f. (tt, tt, omega (arith, ap length (returns-clause-steps g c)));
      keeps = tt;
      rests = λ f. tt;
    }

pub invariant_of-self : goal.invariant_of-self
invariant_of-self g c =
    let step = rw c.in_err-p.was at c.take_next.ensures.step in
    rw step.1 (none_left _ _ _ _ c.self.invariant step.0).1

pub invariant_of-self-2 : goal.invariant_of-self-2
invariant_of-self-2 g c =
    let step = rw c.in_ok-p.was at c.take_next.ensures.step in
    others_ahead _ _ _ _ _ _ c.self.invariant step.2 (g.met.A.ArenaLaws.slots_removed _ _ _ step.4.0)
