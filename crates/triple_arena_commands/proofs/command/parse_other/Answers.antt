use Rattle.std.proofs.Common.{rules, ◌≡◌, ◌∷◌, ap, ◌∙◌}
use Rattle.triple_arena_commands.specs.Lines.{words_of}
use Rattle.triple_arena_commands.proofs.Splits.{parts-some}
use Rattle.triple_arena_commands.proofs.command.parse_other.Goals as goal

pub parse_arguments-requires : goal.parse_arguments-requires
parse_arguments-requires c =
    let verb = c.split_first.result.0.now in
    let words : words_of c.args.line.now ≡ verb ∷ words_of c.in-Some.rest.now = search rules in
    let some = parts-some _ c.in-Some.rest.now in
    c.requires verb some.0 some.1 (words ∙ ap (λ others. verb ∷ others) some.2)
