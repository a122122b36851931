use Rattle.std.proofs.Common.{arith}
use Rattle.std.specs.Int.NonZero.{non_zero_usize_get}
use Rattle.triple_arena_direct_arena.specs.DirectSlot.{direct_slot_entry}
use Rattle.triple_arena_traits.proofs.Listing.{entries_within}
use Rattle.triple_arena_direct_arena.proofs.direct_arena_iterators.iter_mut.IterMutIterator.size_hint.Goals as goal

pub returns-clause-upper : goal.returns-clause-upper
returns-clause-upper g c =
    let fewer = entries_within (direct_slot_entry g.P.Gen.PtrGen.number) (non_zero_usize_get c.self.inside.next) c.self.inside.slots.now in
    (tt, rw (← c.self.view_is) (omega (arith, fewer, c.self.invariant.0)))
