use Rattle.std.proofs.Common.{rules, ◌≡◌, ◌<◌, ◌≤◌, true, length, slice_index, arith}
use Rattle.std.specs.Char.{is_ascii_digit}
use Rattle.std.proofs.lemmas.Bool.Decides.{nat_tests}
use Rattle.triple_arena_commands.proofs.FirstWords.{one_more, nineteen_fit}
use Rattle.triple_arena_commands.proofs.words.read_front.Goals as goal

pub overflow_mul-number : goal.overflow_mul-number
overflow_mul-number c =
    let within : c.digits.count < length c.args.text.now = search rules in
    let few : c.digits.count < 19 = search rules in
    let fits = nineteen_fit c.args.text.now c.digits.count c.digits.number (omega (arith, within)) few c.digits.invariant.1 c.digits.invariant.2 in
    omega (arith, fits)

pub overflow_add-number : goal.overflow_add-number
overflow_add-number c =
    let within : c.digits.count < length c.args.text.now = search rules in
    let few : c.digits.count < 19 = search rules in
    let digit : slice_index c.args.text.now c.digits.count ≤ 57 = search (rules, nat_tests) in
    let fits = nineteen_fit c.args.text.now c.digits.count c.digits.number (omega (arith, within)) few c.digits.invariant.1 c.digits.invariant.2 in
    omega (arith, fits, digit)

pub digits-preserved : goal.digits-preserved
digits-preserved c =
    let within : c.digits.count < length c.args.text.now = search rules in
    let digit : is_ascii_digit (slice_index c.args.text.now c.digits.count) ≡ true = search rules in
    let more = one_more c.args.text.now c.digits.count c.digits.number within digit c.digits.invariant.1 c.digits.invariant.2 in
    (omega (arith, within), more.0, more.1)
