use Rattle.std.proofs.Common.{◌≡◌, ℕ, ◌≤◌, ◌-◌, length, map, None}
use Rattle.std.specs.Int.NonZero.{non_zero_usize_get}
use Rattle.triple_arena_traits.specs.Entries.{entry_in}
use Rattle.triple_arena_traits.proofs.entry_slots.live_from.Given as goal

abbrev pub invariant-up : goal.invariant-up
invariant-up g l =
    (non_zero_usize_get l.fn.from - 1 ≤ l.at)
    × ((i : ℕ) → non_zero_usize_get l.fn.from ≤ i → i ≤ l.at → entry_in (map g.X.EntrySlot.entry (g.S.NonZeroInxGenericStack.items l.stack)) i ≡ None)

abbrev pub decreases-up : goal.decreases-up
decreases-up g l = length (g.S.NonZeroInxGenericStack.items l.stack) - l.at
