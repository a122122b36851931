use Rattle.std.proofs.Common.{rules, ◌^◌, ◌<◌, take, arith}
use Rattle.triple_arena_commands.proofs.FirstWords.{first_large, no_digit, no_space, is_number}
use Rattle.triple_arena_commands.proofs.words.read_number.Goals as goal

pub returns-in_err-number-clause-none : goal.returns-in_err-number-clause-none
returns-in_err-number-clause-none c =
    let large = c.in_err-number.ensures.large in
    rw c.from_residual.ensures (first_large c.args.line.now large.0 large.2 large.3)

pub returns-then-count-eq0-clause-none : goal.returns-then-count-eq0-clause-none
returns-then-count-eq0-clause-none c = no_digit c.args.line.now c.in_ok-number.count c.if-count-eq0.true c.in_ok-number.ensures.end

pub after_word-requires : goal.after_word-requires
after_word-requires c =
    let of = c.in_ok-number.ensures in
    (of.within, no_space (take c.in_ok-number.count c.args.line.now) of.digits)

pub returns-clause-some : goal.returns-clause-some
returns-clause-some c =
    let of = c.in_ok-number.ensures in
    let fits : c.in_ok-number.number < 2 ^ 64 = search rules in (
      take c.in_ok-number.count c.args.line.now,
      c.in_ok-rest.ensures.some,
      is_number c.args.line.now c.in_ok-number.count c.in_ok-number.number of.digits (omega (arith, c.if-count-eq0.false)) of.within of.value fits,
    )
