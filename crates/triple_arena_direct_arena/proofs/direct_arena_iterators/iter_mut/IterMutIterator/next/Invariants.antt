use Rattle.std.proofs.Common.{◌≡◌, length, ◌+◌, ◌≤◌, map}
use Rattle.std.specs.Int.NonZero.{non_zero_usize_get}
use Rattle.triple_arena_ptr.specs.Numbers.{greatest_index}
use Rattle.triple_arena_traits.specs.Walks.{entries_from}
use Rattle.triple_arena_direct_arena.specs.DirectSlot.{direct_slot_entry}
use Rattle.triple_arena_direct_arena.proofs.direct_arena_iterators.iter_mut.IterMutIterator.next.Given as goal

abbrev pub invariant-slots : goal.invariant-slots
invariant-slots g l = record {
  rest : entries_from (non_zero_usize_get l.self-inside.next) (map (direct_slot_entry g.P.Gen.PtrGen.number) l.self-inside.slots.now)
      ≡ entries_from (non_zero_usize_get l.initial.self-inside.next) (map (direct_slot_entry g.P.Gen.PtrGen.number) l.initial.self-inside.slots.now);
  counted : l.self-inside.left ≡ length l.self-inside.slots.now;
  entries : l.self-inside.entries_left ≡ l.initial.self-inside.entries_left;
  indexed : non_zero_usize_get l.self-inside.next + l.self-inside.left ≤ greatest_index g.P.Inx.PtrInx.greatest + 1;
}

abbrev pub decreases-slots : goal.decreases-slots
decreases-slots g l = l.self-inside.left
