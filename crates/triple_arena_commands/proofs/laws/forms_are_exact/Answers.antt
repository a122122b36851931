use Rattle.triple_arena_commands.proofs.FormLaws.{forms}
use Rattle.triple_arena_commands.proofs.laws.forms_are_exact.Goals as goal

pub returns : goal.returns
returns c = forms
