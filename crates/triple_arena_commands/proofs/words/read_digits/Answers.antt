use Rattle.std.proofs.Common.{rules, ◌≡◌, ◌+◌, ◌*◌, ◌-◌, ◌^◌, ◌≤◌, true, slice_index, arith, sym, ◌∙◌}
use Rattle.std.specs.Char.{is_ascii_digit}
use Rattle.triple_arena_commands.proofs.FirstWords.{one_more}
use Rattle.triple_arena_commands.proofs.words.read_digits.Goals as goal

pub returns-in_err-checked_mul-clause-large : goal.returns-in_err-checked_mul-clause-large
returns-in_err-checked_mul-clause-large c =
    let digit : is_ascii_digit (slice_index c.args.text.now c.digits.count) ≡ true = search rules in
    let more = one_more c.args.text.now c.digits.count c.digits.number c.digits-test.true digit c.digits.invariant.1 c.digits.invariant.2 in
    let large : 2 ^ 64 ≤ c.digits.number * 10 = search (rules, arith) in
    rw c.from_residual.ensures (c.digits.count + 1, omega (arith, c.digits-test.true), more.0, omega (arith, more.1, large))

pub returns-in_err-number-clause-large : goal.returns-in_err-number-clause-large
returns-in_err-number-clause-large c =
    let digit : is_ascii_digit (slice_index c.args.text.now c.digits.count) ≡ true = search rules in
    let more = one_more c.args.text.now c.digits.count c.digits.number c.digits-test.true digit c.digits.invariant.1 c.digits.invariant.2 in
    let large : 2 ^ 64 ≤ c.digits.number * 10 + (slice_index c.args.text.now c.digits.count - 48) = search (rules, arith) in
    rw c.from_residual-in_err-number.ensures (c.digits.count + 1, omega (arith, c.digits-test.true), more.0, omega (arith, more.1, large))

pub digits-preserved : goal.digits-preserved
digits-preserved c =
    let digit : is_ascii_digit (slice_index c.args.text.now c.digits.count) ≡ true = search rules in
    let more = one_more c.args.text.now c.digits.count c.digits.number c.digits-test.true digit c.digits.invariant.1 c.digits.invariant.2 in
    let sum : c.in_ok-number.number ≡ c.digits.number * 10 + (slice_index c.args.text.now c.digits.count - 48) = search (rules, arith) in
    (omega (arith, c.digits-test.true), more.0, more.1 ∙ sym sum)
