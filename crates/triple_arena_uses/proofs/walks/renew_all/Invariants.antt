use Rattle.std.proofs.Common.{All, IsSome, map}
use Rattle.triple_arena_ptr.specs.Numbers.{greatest_index}
use Rattle.triple_arena.specs.Entries.{look_up}
use Rattle.triple_arena.specs.Walks.{steps_left}
use Rattle.triple_arena_uses.proofs.Renewing.{HasAnswered}
use Rattle.triple_arena_uses.proofs.walks.renew_all.Given as goal

abbrev pub invariant-walk : goal.invariant-walk
invariant-walk g l = record {
  answered : HasAnswered (greatest_index g.P.Inx.PtrInx.greatest) (g.A.ArenaStates.slots l.fn.arena) (g.A.ArenaStates.slots l.arena) (g.A.ArenaTrait.stand l.advancer)
      (map (λ p. (g.P.Ptr.numbers p).0) l.all.items);
  valid : All (λ p. IsSome (look_up (g.A.ArenaStates.slots l.arena) (g.P.Ptr.numbers p))) l.all.items;
}

abbrev pub decreases-walk : goal.decreases-walk
decreases-walk g l = steps_left (greatest_index g.P.Inx.PtrInx.greatest) (g.A.ArenaTrait.stand l.advancer)
