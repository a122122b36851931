use Rattle.std.proofs.Common.{◌≡◌, ◌≤◌, ◌+◌, ◌*◌, ℕ, length}
use Rattle.std.specs.Int.NonZero.{non_zero_usize_get}
use Rattle.std.specs.Option.{option_map}
use Rattle.triple_arena_traits.specs.ArenaState.{ArenaState}
use Rattle.triple_arena_traits.specs.FreeList.{without_free_end}
use Rattle.triple_arena_slots.specs.Layout.{Shows}
use Rattle.triple_arena_slots.proofs.slots.Slots.remove_free_end.Given as goal

abbrev pub invariant-pops : goal.invariant-pops
invariant-pops g l =
    (g.S.NonZeroInxGenericStack.room l.self.slots.stack ≡ g.S.NonZeroInxGenericStack.room l.fn.self.slots.stack)
    × (g.S.NonZeroInxGenericStack.limit l.self.slots.stack ≡ g.S.NonZeroInxGenericStack.limit l.fn.self.slots.stack)
    × (l.self.slots.steps.count + 4 * length (g.S.NonZeroInxGenericStack.items l.self.slots.stack) ≤ l.fn.self.slots.steps.count + 4 * length (g.S.NonZeroInxGenericStack.items l.fn.self.slots.stack))
    × (l.fn.self.slots.steps.count ≤ l.self.slots.steps.count)
    × (length (g.S.NonZeroInxGenericStack.items l.self.slots.stack) ≤ length (g.S.NonZeroInxGenericStack.items l.fn.self.slots.stack))
    × ((s : ArenaState g.row.T.Denot) (len : ℕ) → Shows g.P.Gen.PtrGen.number (g.S.NonZeroInxGenericStack.items l.fn.self.slots.stack) (option_map non_zero_usize_get l.fn.self.root) len s
    → (t : ArenaState g.row.T.Denot) × Shows g.P.Gen.PtrGen.number (g.S.NonZeroInxGenericStack.items l.self.slots.stack) (option_map non_zero_usize_get l.self.root) len t × (without_free_end t ≡ without_free_end s))

abbrev pub decreases-pops : goal.decreases-pops
decreases-pops g l = length (g.S.NonZeroInxGenericStack.items l.self.slots.stack)
