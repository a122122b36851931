use Rattle.std.proofs.Common.{◌≡◌, ◌+◌, length, false}
use Rattle.triple_arena.specs.Entries.{entry_count}
use Rattle.triple_arena.specs.Walks.{entries_ahead}
use Rattle.triple_arena_uses.proofs.walks.count.Given as goal

abbrev pub invariant-walk : goal.invariant-walk
invariant-walk g l =
    ((g.A.ArenaTrait.stand l.advancer).reverse ≡ false)
    × (l.count + length (entries_ahead (g.A.ArenaTrait.stand l.advancer) (g.A.ArenaStates.slots l.arena)) ≡ entry_count (g.A.ArenaStates.slots l.arena))

abbrev pub decreases-walk : goal.decreases-walk
decreases-walk g l = length (entries_ahead (g.A.ArenaTrait.stand l.advancer) (g.A.ArenaStates.slots l.arena))
