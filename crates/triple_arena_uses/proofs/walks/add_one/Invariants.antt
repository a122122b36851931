use Rattle.std.proofs.Common.{◌≡◌, ◌+◌, ◌%◌, ◌^◌, false}
use Rattle.triple_arena_ptr.specs.Numbers.{greatest_index}
use Rattle.triple_arena.specs.Walks.{entries, steps_left}
use Rattle.triple_arena_uses.proofs.Mapping.{IsMadeSoFar}
use Rattle.triple_arena_uses.proofs.walks.add_one.Given as goal

abbrev pub invariant-walk : goal.invariant-walk
invariant-walk g l = record {
  forward : (g.A.ArenaTrait.stand l.advancer).reverse ≡ false;
  so_far : IsMadeSoFar (λ e. (e.0, (e.1 + 1) % 2 ^ 64)) (entries (g.A.ArenaStates.slots l.fn.arena)) (g.A.ArenaTrait.stand l.advancer) (g.A.ArenaStates.slots l.arena);
}

abbrev pub decreases-walk : goal.decreases-walk
decreases-walk g l = steps_left (greatest_index g.P.Inx.PtrInx.greatest) (g.A.ArenaTrait.stand l.advancer)
