use Rattle.std.proofs.Common.{rules, ◌≡◌, ◌∷◌, None, Some, ap, ◌∙◌}
use Rattle.triple_arena_commands.specs.Lines.{words_of}
use Rattle.triple_arena_commands.proofs.FirstWords.{datum_none, five_none}
use Rattle.triple_arena_commands.proofs.command.parse_after_second.Goals as goal

pub returns-in_err-datum : goal.returns-in_err-datum
returns-in_err-datum c first word is link =
    let none : c.args.second ≡ None = search rules in
    c.from_residual.ensures ∙ datum_none c.args.verb.now first word c.args.rest.now c.args.name is (link ∙ ap Some none)

pub returns-in-Some : goal.returns-in-Some
returns-in-Some c first word is link =
    let last = c.in_ok-link.ensures.some in
    let e : words_of c.args.rest.now ≡ last.0 ∷ words_of c.in-Some.field-0.now = search rules in
    five_none c.args.verb.now first word last.0 c.args.rest.now c.in-Some.field-0.now e
