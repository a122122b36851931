use Rattle.std.proofs.Common.{rules, ◌≡◌, ◌∷◌, None, Some, codes, sym, ap, ◌∙◌}
use Rattle.std.specs.Option.{option_map}
use Rattle.triple_arena_commands.specs.declared.command.Command.TheVariants.{Insert}
use Rattle.triple_arena_commands.specs.Lines.{words_of}
use Rattle.triple_arena_commands.specs.CommandText.{link_of, command_of_words}
use Rattle.triple_arena_commands.proofs.FirstWords.{link_after}
use Rattle.triple_arena_commands.proofs.command.parse_insertion.Goals as goal

pub returns-in_err-link : goal.returns-in_err-link
returns-in_err-link c =
    let first = c.in_ok-datum.ensures.some in
    let last = c.in_ok-after_datum.field-0.now in
    let words : words_of c.args.rest.now ≡ first.0 ∷ words_of last = search rules in
    let none : link_of last ≡ None = search rules in
    c.from_residual-in_err-link.ensures
    ∙ sym (ap (option_map (Insert c.in_ok-datum.datum)) none)
    ∙ link_after first.0 last c.in_ok-datum.datum first.2
    ∙ sym (ap (λ ws. command_of_words (codes "insert" ∷ ws)) words)

pub returns : goal.returns
returns c =
    let first = c.in_ok-datum.ensures.some in
    let last = c.in_ok-after_datum.field-0.now in
    let words : words_of c.args.rest.now ≡ first.0 ∷ words_of last = search rules in
    let some : link_of last ≡ Some c.in_ok-link.link = search rules in
    sym (ap (option_map (Insert c.in_ok-datum.datum)) some)
    ∙ link_after first.0 last c.in_ok-datum.datum first.2
    ∙ sym (ap (λ ws. command_of_words (codes "insert" ∷ ws)) words)
