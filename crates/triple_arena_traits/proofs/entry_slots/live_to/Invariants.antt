use Rattle.std.proofs.Common.{◌≡◌, ℕ, ◌≤◌, ◌<◌, length, map, None}
use Rattle.std.specs.Int.NonZero.{non_zero_usize_get}
use Rattle.triple_arena_traits.specs.Entries.{entry_in}
use Rattle.triple_arena_traits.proofs.entry_slots.live_to.Given as goal

abbrev pub invariant-down : goal.invariant-down
invariant-down g l =
    (l.at ≤ length (g.S.NonZeroInxGenericStack.items l.stack)) × (l.at ≤ non_zero_usize_get l.fn.to)
    × ((i : ℕ) → i ≤ non_zero_usize_get l.fn.to → l.at < i → entry_in (map g.X.EntrySlot.entry (g.S.NonZeroInxGenericStack.items l.stack)) i ≡ None)

abbrev pub decreases-down : goal.decreases-down
decreases-down g l = l.at
