use Rattle.std.proofs.Common.{◌≡◌, ◌+◌, map, drop}
use Rattle.triple_arena_traits.specs.Entries.{entry_count}
use Rattle.triple_arena_traits.proofs.entry_slots.count_live.Given as goal

abbrev pub invariant-count : goal.invariant-count
invariant-count g l =
    l.count + entry_count (drop l.slot-index (map g.X.EntrySlot.entry (g.S.NonZeroInxGenericStack.items l.stack)))
    ≡ entry_count (map g.X.EntrySlot.entry (g.S.NonZeroInxGenericStack.items l.stack))
