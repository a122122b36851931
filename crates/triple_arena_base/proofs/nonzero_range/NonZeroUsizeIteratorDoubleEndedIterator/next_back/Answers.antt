use Rattle.std.proofs.Common.{arith, ◌≡◌, [], ◌∷◌, ◌++◌, length, length-append, ap}
use Rattle.std.specs.Int.NonZero.{non_zero_usize_get}
use Rattle.triple_arena_base.specs.NonZeroRange.{numbers_through}
use Rattle.triple_arena_base.proofs.RangeSteps.{without_last}
use Rattle.triple_arena_base.proofs.nonzero_range.NonZeroUsizeIteratorDoubleEndedIterator.next_back.Goals as goal

pub returns-else-get-clause-steps : goal.returns-else-get-clause-steps
returns-else-get-clause-steps c =
    let within = rw c.in_ok-last.was at c.self.invariant in
    without_last c.self.inside.start c.in_ok-last.last c.self.inside.end_inclusive c.new-self-inside.result c.args.self.now c.self.view_is c.in_ok-last.was (omega (arith, within)) (rw c.get-else-get.ensures.value at c.new-self-inside.ensures)

pub returns-else-get-clause-goes : goal.returns-else-get-clause-goes
returns-else-get-clause-goes c =
    let rest = numbers_through c.self.inside.start c.new-self-inside.result in
    let e : c.args.self.now ≡ rest ++ non_zero_usize_get c.in_ok-last.last ∷ [] = returns-else-get-clause-steps c in
    record { on = λ f. (tt, tt, omega (arith, ap length e, length-append rest (non_zero_usize_get c.in_ok-last.last ∷ []))); keeps = tt; rests = λ f. tt }
