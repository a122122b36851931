use Rattle.std.proofs.Common.{◌≡◌, ◌≤◌, length, map}
use Rattle.std.specs.Int.NonZero.{non_zero_usize_get}
use Rattle.std.specs.Option.{option_map}
use Rattle.triple_arena_slots.proofs.Linking.{LinkedBehind}
use Rattle.triple_arena_slots.proofs.slots.Slots.link.Given as goal

abbrev pub invariant-links : goal.invariant-links
invariant-links g l =
    (g.S.NonZeroInxGenericStack.room l.self.slots.stack ≡ g.S.NonZeroInxGenericStack.room l.fn.self.slots.stack)
    × (g.S.NonZeroInxGenericStack.limit l.self.slots.stack ≡ g.S.NonZeroInxGenericStack.limit l.fn.self.slots.stack)
    × (length (g.S.NonZeroInxGenericStack.items l.self.slots.stack) ≡ length (g.S.NonZeroInxGenericStack.items l.fn.self.slots.stack))
    × (l.fn.self.slots.steps.count ≤ l.self.slots.steps.count)
    × (l.at ≤ length l.free)
    × LinkedBehind g.P.Gen.PtrGen.number (g.S.NonZeroInxGenericStack.items l.fn.self.slots.stack) (g.S.NonZeroInxGenericStack.items l.self.slots.stack) (map non_zero_usize_get l.free) l.at (option_map non_zero_usize_get l.self.root)

abbrev pub decreases-links : goal.decreases-links
decreases-links g l = l.at
