use Rattle.std.proofs.Common.{arith, ◌≡◌, ◌∷◌, length, ap}
use Rattle.std.specs.Int.NonZero.{non_zero_usize_get}
use Rattle.triple_arena_base.specs.NonZeroRange.{numbers_through}
use Rattle.triple_arena_base.proofs.RangeSteps.{without_first}
use Rattle.triple_arena_base.proofs.nonzero_range.NonZeroUsizeIteratorIterator.next.Goals as goal

pub returns-else-get-clause-steps : goal.returns-else-get-clause-steps
returns-else-get-clause-steps c =
    let within = rw c.in_ok-end.was at c.self.invariant in
    let next = rw c.unwrap-self-inside.ensures at c.checked_add.ensures in
    without_first c.self.inside.start c.unwrap-self-inside.result c.in_ok-end.end c.self.inside.end_inclusive c.args.self.now c.self.view_is c.in_ok-end.was (omega (arith, within)) next

pub returns-else-get-clause-goes : goal.returns-else-get-clause-goes
returns-else-get-clause-goes c =
    let e : c.args.self.now ≡ non_zero_usize_get c.self.inside.start ∷ numbers_through c.unwrap-self-inside.result c.self.inside.end_inclusive = returns-else-get-clause-steps c in
    record { on = λ f. (tt, tt, omega (arith, ap length e)); keeps = tt; rests = λ f. tt }
