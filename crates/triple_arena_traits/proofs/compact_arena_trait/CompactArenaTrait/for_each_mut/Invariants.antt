use Rattle.std.proofs.Common.{◌≡◌, [], false}
use Rattle.triple_arena_ptr.specs.Numbers.{greatest_index}
use Rattle.triple_arena_traits.specs.Walks.{entries, keys, keys_ahead, steps_left}
use Rattle.triple_arena_traits.specs.Histories.{Continues}
use Rattle.triple_arena_traits.proofs.Visiting.{GoesOn, Wrote}
use Rattle.triple_arena_traits.proofs.compact_arena_trait.CompactArenaTrait.for_each_mut.Given as goal

abbrev pub invariant-walk : goal.invariant-walk
invariant-walk g l = record {
  callable : goal.F-IsAlwaysCallable g l.f;
  forward : (g.Self.ArenaTrait.stand l.advancer).reverse ≡ false;
  goes_on : GoesOn g.P.Ptr.numbers (goal.F-step g) l.fn.f (entries (g.Self.ArenaStates.slots l.fn.self)) (g.Self.ArenaTrait.stand l.advancer) (g.Self.ArenaStates.slots l.self) l.f;
  wrote : Wrote g.Self.ArenaStates.with_value (keys (g.Self.ArenaStates.slots l.fn.self)) (keys_ahead (g.Self.ArenaTrait.stand l.advancer) (g.Self.ArenaStates.slots l.self)) l.fn.self l.self;
  limit : g.Self.ArenaStates.limit l.self ≡ g.Self.ArenaStates.limit l.fn.self;
  capacity : g.Self.ArenaStates.capacity l.self ≡ g.Self.ArenaStates.capacity l.fn.self;
  history : Continues g.Self.ArenaStates.fits l.fn.self [] l.self;
}

abbrev pub decreases-walk : goal.decreases-walk
decreases-walk g l = steps_left (greatest_index g.P.Inx.PtrInx.greatest) (g.Self.ArenaTrait.stand l.advancer)
