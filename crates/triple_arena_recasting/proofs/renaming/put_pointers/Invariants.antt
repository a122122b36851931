use Rattle.triple_arena_ptr.specs.Numbers.{greatest_index}
use Rattle.triple_arena_traits.specs.Walks.{steps_left}
use Rattle.triple_arena_recasting.proofs.Pairing.{Paired}
use Rattle.triple_arena_recasting.proofs.renaming.put_pointers.Given as goal

abbrev pub invariant-pairs : goal.invariant-pairs
invariant-pairs g l =
    Paired g.P.Ptr.numbers l.fn.target.slots l.target.slots l.from (g.A.ArenaStates.slots l.arena) (g.A.ArenaTrait.stand l.to)

abbrev pub decreases-pairs : goal.decreases-pairs
decreases-pairs g l = steps_left (greatest_index g.P.Inx.PtrInx.greatest) l.from
