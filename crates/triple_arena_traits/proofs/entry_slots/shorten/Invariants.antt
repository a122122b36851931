use Rattle.std.proofs.Common.{◌≡◌, length, map, take}
use Rattle.triple_arena_traits.proofs.Shortening.{Pops}
use Rattle.triple_arena_traits.proofs.entry_slots.shorten.Given as goal

abbrev pub invariant-pops : goal.invariant-pops
invariant-pops g l =
    (g.S.NonZeroInxGenericStack.room l.stack ≡ g.S.NonZeroInxGenericStack.room l.fn.stack)
    × (g.S.NonZeroInxGenericStack.limit l.stack ≡ g.S.NonZeroInxGenericStack.limit l.fn.stack)
    × Pops l.len (map g.X.EntrySlot.entry (g.S.NonZeroInxGenericStack.items l.fn.stack)) (map g.X.EntrySlot.entry (g.S.NonZeroInxGenericStack.items l.stack))
    × (g.S.NonZeroInxGenericStack.items l.stack ≡ take (length (g.S.NonZeroInxGenericStack.items l.stack)) (g.S.NonZeroInxGenericStack.items l.fn.stack))

abbrev pub decreases-pops : goal.decreases-pops
decreases-pops g l = length (g.S.NonZeroInxGenericStack.items l.stack)
