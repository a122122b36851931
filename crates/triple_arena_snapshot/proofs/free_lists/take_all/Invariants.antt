use Rattle.std.proofs.Common.{◌≡◌, ◌+◌, ℕ, map, drop}
use Rattle.std.specs.Int.NonZero.{non_zero_usize_get}
use Rattle.triple_arena_snapshot.specs.ArenaCodings.{times, mark_at, bit}
use Rattle.triple_arena_snapshot.proofs.free_lists.take_all.Given as goal

-- an index stands among those so far as often as its mark was taken
abbrev pub invariant-loop-inx : goal.invariant-loop-inx
invariant-loop-inx l =
    (i : ℕ) → times i (map non_zero_usize_get l.indexes) + bit (mark_at l.marks.items i) ≡ bit (mark_at l.fn.marks.items i) + times i (drop l.inx-index (map non_zero_usize_get l.indexes))
