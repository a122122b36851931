use Rattle.std.proofs.Common.{rules, ◌^◌, ◌<◌, arith, sym, ◌∙◌}
use Rattle.triple_arena_commands.proofs.FirstWords.{word_large, word_is}
use Rattle.triple_arena_commands.proofs.words.parse_number.Goals as goal

pub returns-in_err-number : goal.returns-in_err-number
returns-in_err-number c =
    let large = c.in_err-number.ensures.large in
    c.from_residual.ensures ∙ sym (word_large c.args.word.now large.0 large.3)

pub returns : goal.returns
returns c =
    let of = c.in_ok-number.ensures in
    let fits : c.in_ok-number.number < 2 ^ 64 = search rules in
    sym (word_is c.args.word.now c.in_ok-number.count c.in_ok-number.number of.digits (omega (arith, c.if-count-eq0.false)) (omega (arith, of.within, c.if-count-word.false)) of.value fits)
