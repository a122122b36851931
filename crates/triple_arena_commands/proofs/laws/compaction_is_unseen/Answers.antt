use Rattle.triple_arena_commands.specs.laws.UnseenLaws.{CompactionIsUnseen}
use Rattle.triple_arena_commands.proofs.laws.compaction_is_unseen.Goals as goal

pub returns : goal.returns
returns g c = CompactionIsUnseen
