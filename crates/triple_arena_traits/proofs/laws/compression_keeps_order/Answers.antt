use Rattle.triple_arena_traits.specs.laws.CompressionLaws.{moved_to_rank, moved_below, moved_apart}
use Rattle.triple_arena_traits.proofs.laws.compression_keeps_order.Goals as goal

pub returns-clause-index : goal.returns-clause-index
returns-clause-index g c = λ arena reset.
    moved_to_rank (g.A.ArenaStates.slots arena) (g.A.CompactArenaTrait.rank arena reset) (g.met.A.CompactArenaTrait.ranked arena reset)

pub returns-clause-rises : goal.returns-clause-rises
returns-clause-rises g c = λ arena reset.
    moved_below (g.A.ArenaStates.slots arena) (g.A.CompactArenaTrait.rank arena reset) (g.met.A.CompactArenaTrait.ranked arena reset)

pub returns-clause-one_to_one : goal.returns-clause-one_to_one
returns-clause-one_to_one g c = λ arena reset.
    moved_apart (g.A.ArenaStates.slots arena) (g.A.CompactArenaTrait.rank arena reset) (g.met.A.CompactArenaTrait.ranked arena reset)

pub returns-clause-onto : goal.returns-clause-onto
returns-clause-onto g c = g.met.A.CompactArenaTrait.ranked
