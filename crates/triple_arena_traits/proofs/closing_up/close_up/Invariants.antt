use Rattle.std.proofs.Common.{◌≡◌, length, map}
use Rattle.std.specs.Option.{option_map}
use Rattle.triple_arena_traits.specs.Moves.{MoveTurn}
use Rattle.triple_arena_traits.proofs.Compressing.{CompactAt}
use Rattle.triple_arena_traits.proofs.closing_up.close_up.Given as goal

abbrev pub invariant-moves : goal.invariant-moves
invariant-moves g l =
    goal.F-IsAlwaysCallable g l.f
    × (g.S.NonZeroInxGenericStack.room l.stack ≡ g.S.NonZeroInxGenericStack.room l.initial.stack)
    × (g.S.NonZeroInxGenericStack.limit l.stack ≡ g.S.NonZeroInxGenericStack.limit l.initial.stack)
    × (length (g.S.NonZeroInxGenericStack.items l.stack) ≡ length (g.S.NonZeroInxGenericStack.items l.initial.stack))
    × CompactAt g.P.Ptr.numbers (MoveTurn g.P.Ptr.numbers (goal.F-step g)) (option_map g.P.Gen.PtrGen.number l.initial.generation) l.initial.f
    (map g.X.EntrySlot.entry (g.S.NonZeroInxGenericStack.items l.initial.stack)) (map g.X.EntrySlot.entry (g.S.NonZeroInxGenericStack.items l.stack)) l.f l.at l.to
