use Rattle.std.proofs.Common.{None, Some, codes, ap, ◌∙◌}
use Rattle.std.specs.Option.{option_map}
use Rattle.std.proofs.lemmas.Bool.Decides.{Decides-eqb}
use Rattle.std.proofs.lemmas.Slice.Eq.{strip_prefix_is}
use Rattle.triple_arena_commands.specs.declared.command.Command.TheVariants.{Get, Remove}
use Rattle.triple_arena_commands.proofs.FirstWords.{get_line, remove_line, other_verb}
use Rattle.triple_arena_commands.proofs.command.parse_command.Goals as goal

pub returns-in_err-parse_number : goal.returns-in_err-parse_number
returns-in_err-parse_number c =
    c.from_residual.ensures
    ∙ ap (option_map Get) c.in_err-parse_number.ensures
    ∙ get_line c.args.line.now c.in-Some.name.now (strip_prefix_is Decides-eqb c.args.line.now (codes "get ") (Some c.in-Some.name) c.in-Some.ensures.cases)

pub returns-in_err-parse_number-2 : goal.returns-in_err-parse_number-2
returns-in_err-parse_number-2 c =
    c.from_residual-in_err-parse_number-2.ensures
    ∙ ap (option_map Remove) c.in_err-parse_number-2.ensures
    ∙ remove_line c.args.line.now c.in-Some-strip_prefix-2.name.now (strip_prefix_is Decides-eqb c.args.line.now (codes "remove ") (Some c.in-Some-strip_prefix-2.name) c.in-Some-strip_prefix-2.ensures.cases)

pub parse_other-requires : goal.parse_other-requires
parse_other-requires c verb word words e = (
  other_verb c.args.line.now (codes "get") verb word words (strip_prefix_is Decides-eqb c.args.line.now (codes "get ") None c.in_default.ensures.cases) e,
  other_verb c.args.line.now (codes "insert") verb word words (strip_prefix_is Decides-eqb c.args.line.now (codes "insert ") None c.in_default-strip_prefix.ensures.cases) e,
  other_verb c.args.line.now (codes "remove") verb word words (strip_prefix_is Decides-eqb c.args.line.now (codes "remove ") None c.in_default-strip_prefix-2.ensures.cases) e,
)

pub returns-in_ok-parse_number : goal.returns-in_ok-parse_number
returns-in_ok-parse_number c =
    ap (option_map Get) c.in_ok-parse_number.ensures
    ∙ get_line c.args.line.now c.in-Some.name.now (strip_prefix_is Decides-eqb c.args.line.now (codes "get ") (Some c.in-Some.name) c.in-Some.ensures.cases)

pub returns-in_ok-parse_number-2 : goal.returns-in_ok-parse_number-2
returns-in_ok-parse_number-2 c =
    ap (option_map Remove) c.in_ok-parse_number-2.ensures
    ∙ remove_line c.args.line.now c.in-Some-strip_prefix-2.name.now (strip_prefix_is Decides-eqb c.args.line.now (codes "remove ") (Some c.in-Some-strip_prefix-2.name) c.in-Some-strip_prefix-2.ensures.cases)
