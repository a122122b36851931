use Rattle.std.proofs.Common.{◌∙◌, sym, ap, length, arith}
use Rattle.triple_arena_traits.specs.laws.WalkLaws.{ahead_taken, ahead_none, ahead_after_none}
use Rattle.triple_arena_traits.proofs.Present.{some_mapped}
use Rattle.triple_arena_traits.proofs.Walking.{stays_counted, one_counted}
use Rattle.triple_arena_traits.proofs.arena_iterators.iter.IterIterator.next.Goals as goal

pub overflow_sub-self : goal.overflow_sub-self
overflow_sub-self g c =
    (one_counted _ _ _ _ _ c.self.invariant.0 _ c.self.invariant.1 (g.met.A.CompactArenaTrait.advanced _ _ _ _ (rw c.in_ok-p.was at c.advance.ensures.steps))).1

pub unwrap-requires : goal.unwrap-requires
unwrap-requires g c =
    some_mapped _ c.get.result _ c.get.ensures.value (g.met.A.CompactArenaTrait.advanced _ _ _ _ (rw c.in_ok-p.was at c.advance.ensures.steps)).answers.0

pub returns-clause-steps : goal.returns-clause-steps
returns-clause-steps g c =
    sym c.self.view_is ∙ ahead_taken _ _ _ _ _ c.self.invariant.0 (g.met.A.CompactArenaTrait.advanced _ _ _ _ (rw c.in_ok-p.was at c.advance.ensures.steps)) c.unwrap.result.now (sym (rw c.unwrap.ensures at c.get.ensures.value))

pub returns-clause-goes : goal.returns-clause-goes
returns-clause-goes g c =
    record {
      on = λ f. (tt, tt, omega (arith, ap length (returns-clause-steps g c)));
      keeps = tt;
      rests = λ f. tt;
    }

pub returns-in_err-p-clause-steps : goal.returns-in_err-p-clause-steps
returns-in_err-p-clause-steps g c = rw c.from_residual.ensures (
  sym c.self.view_is ∙ ahead_none _ _ _ _ (g.met.A.CompactArenaTrait.advanced _ _ _ _ (rw c.in_err-p.was at c.advance.ensures.steps)),
  ahead_after_none _ _ _ _ c.self.invariant.0 (g.met.A.CompactArenaTrait.advanced _ _ _ _ (rw c.in_err-p.was at c.advance.ensures.steps)),
)

pub invariant_of-self : goal.invariant_of-self
invariant_of-self g c =
    stays_counted _ _ _ _ _ c.self.invariant.0 c.self.invariant.1 (g.met.A.CompactArenaTrait.advanced _ _ _ _ (rw c.in_err-p.was at c.advance.ensures.steps))

pub invariant_of-self-2 : goal.invariant_of-self-2
invariant_of-self-2 g c =
    let counted = one_counted _ _ _ _ _ c.self.invariant.0 _ c.self.invariant.1 (g.met.A.CompactArenaTrait.advanced _ _ _ _ (rw c.in_ok-p.was at c.advance.ensures.steps)) in
    (counted.0, counted.2)
