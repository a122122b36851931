use Rattle.triple_arena_ptr.specs.Numbers.{greatest_index}
use Rattle.triple_arena.specs.Walks.{IsBeforeAll, steps_left}
use Rattle.triple_arena_uses.proofs.walks.remove_all.Given as goal

abbrev pub invariant-walk : goal.invariant-walk
invariant-walk g l = IsBeforeAll (g.A.ArenaStates.slots l.arena) (g.A.ArenaTrait.stand l.advancer)

abbrev pub decreases-walk : goal.decreases-walk
decreases-walk g l = steps_left (greatest_index g.P.Inx.PtrInx.greatest) (g.A.ArenaTrait.stand l.advancer)
