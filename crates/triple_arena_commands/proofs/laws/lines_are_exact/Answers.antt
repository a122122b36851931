use Rattle.triple_arena_commands.proofs.FormLaws.{lines}
use Rattle.triple_arena_commands.proofs.laws.lines_are_exact.Goals as goal

pub returns : goal.returns
returns c = lines
