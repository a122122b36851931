use Rattle.triple_arena_ptr.specs.Numbers.{greatest_index}
use Rattle.triple_arena_traits.specs.Walks.{steps_left}
use Rattle.triple_arena_direct.proofs.StrictRetaining.{Sorted}
use Rattle.triple_arena_direct.proofs.strict_arena.retain.take_out_others.Given as goal

abbrev pub invariant-walk : goal.invariant-walk
invariant-walk g l = record {
  callable : goal.F-IsAlwaysCallable g l.f;
  sorted : Sorted g.P.Ptr.numbers (goal.F-step g) l.fn.f l.fn.arena l.advancer l.arena l.f l.ended;
}

abbrev pub decreases-walk : goal.decreases-walk
decreases-walk g l = steps_left (greatest_index g.P.Inx.PtrInx.greatest) l.advancer
