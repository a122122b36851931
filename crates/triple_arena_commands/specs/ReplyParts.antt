-- What follows the word of a reply. No public clause cites this module.
use Rattle.std.specs.Prelude.{ℕ, List, [], ◌++◌, codes}
use Rattle.std.specs.Fmt.{decimal}
use Rattle.triple_arena_commands.specs.declared.reply.Numbers.{Numbers}
use Rattle.triple_arena_commands.specs.declared.reply.Numbers.TheVariants.{Nothing, Number, Linked}
use Rattle.triple_arena_commands.specs.ReplyText.{link_text}

abbrev pub numbers_text : Numbers → List ℕ
numbers_text Nothing = []
numbers_text (Number number) = decimal number
numbers_text (Linked datum link) = decimal datum ++ codes " " ++ link_text link
