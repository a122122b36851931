use Rattle.std.proofs.Common.{refl}
use Rattle.triple_arena_snapshot.specs.Checksum.{are_left, divided}
use Rattle.triple_arena_snapshot.proofs.checksum.step.Goals as goal

pub by_table-requires : goal.by_table-requires
unfolding are_left divided
by_table-requires c = refl
