use Rattle.triple_arena_ptr.specs.Numbers.{greatest_index}
use Rattle.triple_arena_traits.specs.Walks.{steps_left}
use Rattle.triple_arena_direct_arena.proofs.text.DirectArenaDebug.fmt.Given as goal

abbrev pub decreases-walk : goal.decreases-walk
decreases-walk g l = steps_left (greatest_index g.P.Inx.PtrInx.greatest) l.advancer
