use Rattle.std.proofs.Common.{◌≡◌, [], false}
use Rattle.triple_arena_ptr.specs.Numbers.{greatest_index}
use Rattle.triple_arena_traits.specs.Walks.{keys, keys_ahead, steps_left}
use Rattle.triple_arena_traits.specs.Histories.{Continues}
use Rattle.triple_arena_traits.proofs.EntryWalks.{Walked}
use Rattle.triple_arena_traits.proofs.recasting.recast_entries.Given as goal

abbrev pub invariant-walk : goal.invariant-walk
invariant-walk g l =
    ((g.A.ArenaTrait.stand l.advancer).reverse ≡ false)
    × Walked g.T.Recast.held g.T.Recast.refill g.met.T.Recast.refill_held (g.R.Recaster.image l.recaster) g.A.ArenaStates.slots g.A.ArenaStates.with_value
    g.met.A.CompactArenaTrait.with_value_same g.met.A.ArenaLaws.slots_with_value
    l.fn.arena l.arena (keys_ahead (g.A.ArenaTrait.stand l.advancer) (g.A.ArenaStates.slots l.arena))
    × (g.A.ArenaStates.limit l.arena ≡ g.A.ArenaStates.limit l.fn.arena)
    × (g.A.ArenaStates.capacity l.arena ≡ g.A.ArenaStates.capacity l.fn.arena)
    × Continues g.A.ArenaStates.fits l.fn.arena [] l.arena
    × (keys (g.A.ArenaStates.slots l.arena) ≡ keys (g.A.ArenaStates.slots l.fn.arena))

abbrev pub decreases-walk : goal.decreases-walk
decreases-walk g l = steps_left (greatest_index g.P.Inx.PtrInx.greatest) (g.A.ArenaTrait.stand l.advancer)
