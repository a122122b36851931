use Rattle.std.proofs.Common.{◌≡◌, map, take, not, is_some}
use Rattle.triple_arena_slots.specs.Slot.{entry_of}
use Rattle.triple_arena_snapshot.proofs.free_lists.free_marks.Given as goal

abbrev pub invariant-loop-slot : goal.invariant-loop-slot
invariant-loop-slot g l =
    l.marks.items ≡ map (λ slot. not (is_some (entry_of g.P.Gen.PtrGen.number slot))) (take l.slot-index l.slots)
