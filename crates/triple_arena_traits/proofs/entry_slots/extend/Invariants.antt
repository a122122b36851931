use Rattle.std.proofs.Common.{◌≡◌, ◌≤◌, ◌++◌, ◌-◌, length, map, take, replicate, None}
use Rattle.triple_arena_traits.proofs.entry_slots.extend.Given as goal

abbrev pub invariant-gap : goal.invariant-gap
invariant-gap g l =
    (g.S.NonZeroInxGenericStack.room l.stack ≡ g.S.NonZeroInxGenericStack.room l.fn.stack)
    × (g.S.NonZeroInxGenericStack.limit l.stack ≡ g.S.NonZeroInxGenericStack.limit l.fn.stack)
    × (length (g.S.NonZeroInxGenericStack.items l.fn.stack) ≤ length (g.S.NonZeroInxGenericStack.items l.stack))
    × (length (g.S.NonZeroInxGenericStack.items l.stack) - length (g.S.NonZeroInxGenericStack.items l.fn.stack) ≤ l.len - length (g.S.NonZeroInxGenericStack.items l.fn.stack))
    × (map g.X.EntrySlot.entry (g.S.NonZeroInxGenericStack.items l.stack)
    ≡ map g.X.EntrySlot.entry (g.S.NonZeroInxGenericStack.items l.fn.stack) ++ replicate (length (g.S.NonZeroInxGenericStack.items l.stack) - length (g.S.NonZeroInxGenericStack.items l.fn.stack)) None)
    × (take (length (g.S.NonZeroInxGenericStack.items l.fn.stack)) (g.S.NonZeroInxGenericStack.items l.stack) ≡ g.S.NonZeroInxGenericStack.items l.fn.stack)

abbrev pub decreases-gap : goal.decreases-gap
decreases-gap g l = l.len - length (g.S.NonZeroInxGenericStack.items l.stack)
