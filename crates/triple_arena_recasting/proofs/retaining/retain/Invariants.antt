use Rattle.std.proofs.Common.{◌≡◌, false, List, map}
use Rattle.triple_arena_ptr.specs.Numbers.{greatest_index}
use Rattle.triple_arena_ptr.specs.Pointers.{Pointer}
use Rattle.triple_arena_traits.specs.Histories.{removal, CountsUp, Continues}
use Rattle.triple_arena_traits.specs.Walks.{entries, entries_ahead, steps_left}
use Rattle.triple_arena_recasting.proofs.Retained.{GoesOn}
use Rattle.triple_arena_recasting.proofs.retaining.retain.Given as goal

abbrev pub invariant-walk : goal.invariant-walk
invariant-walk g l = record {
  callable : goal.F-IsAlwaysCallable g l.keep;
  forward : (g.A.ArenaTrait.stand l.advancer).reverse ≡ false;
  goes_on : GoesOn g.P.Ptr.numbers (goal.F-step g) g.A.ArenaStates.with_value g.A.ArenaStates.removes g.A.ArenaStates.ending_wraps l.fn.keep l.fn.this (entries (g.A.ArenaStates.slots l.fn.this)) (entries_ahead (g.A.ArenaTrait.stand l.advancer) (g.A.ArenaStates.slots l.this)) l.wrapped l.keep l.this;
  limit : g.A.ArenaStates.limit l.this ≡ g.A.ArenaStates.limit l.fn.this;
  capacity : g.A.ArenaStates.capacity l.this ≡ g.A.ArenaStates.capacity l.fn.this;
  history : CountsUp g.P.Gen.PtrGen.generations l.wrapped → (gone : List Pointer) × Continues g.A.ArenaStates.fits l.fn.this (map removal gone) l.this;
}

abbrev pub decreases-walk : goal.decreases-walk
decreases-walk g l = steps_left (greatest_index g.P.Inx.PtrInx.greatest) (g.A.ArenaTrait.stand l.advancer)
