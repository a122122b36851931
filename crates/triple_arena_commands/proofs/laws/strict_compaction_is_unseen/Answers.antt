use Rattle.triple_arena_commands.specs.laws.StrictStoreLaws.{StrictIsUnseen}
use Rattle.triple_arena_commands.proofs.laws.strict_compaction_is_unseen.Goals as goal

pub returns : goal.returns
returns g c = StrictIsUnseen
