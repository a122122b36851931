use Rattle.std.proofs.Common.{◌≡◌, ◌++◌, ℕ, List, Option, None, length, map, replicate}
use Rattle.triple_arena_traits.proofs.closing_up.cut.Given as goal

abbrev pub invariant-ends : goal.invariant-ends
invariant-ends g l =
    (g.S.NonZeroInxGenericStack.room l.stack ≡ g.S.NonZeroInxGenericStack.room l.fn.stack)
    × (g.S.NonZeroInxGenericStack.limit l.stack ≡ g.S.NonZeroInxGenericStack.limit l.fn.stack)
    × ((kept : List (Option (ℕ × g.row.T.Denot))) (spare : ℕ) → length kept ≡ l.fn.len
    → map g.X.EntrySlot.entry (g.S.NonZeroInxGenericStack.items l.fn.stack) ≡ kept ++ replicate spare None
    → (left : ℕ) × (map g.X.EntrySlot.entry (g.S.NonZeroInxGenericStack.items l.stack) ≡ kept ++ replicate left None))

abbrev pub decreases-ends : goal.decreases-ends
decreases-ends g l = length (g.S.NonZeroInxGenericStack.items l.stack)
