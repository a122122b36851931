use Rattle.std.proofs.Common.{◌≡◌, map}
use Rattle.triple_arena_ptr.specs.Numbers.{greatest_index}
use Rattle.triple_arena_traits.specs.Entries.{entry_count}
use Rattle.triple_arena_traits.specs.Walks.{steps_left}
use Rattle.triple_arena_traits.proofs.CopyLemmas.{Copied}
use Rattle.triple_arena_traits.proofs.copying.copy_entries.Given as goal

abbrev pub invariant-walk : goal.invariant-walk
invariant-walk g l =
    goal.M-IsAlwaysCallable g l.f
    × (g.S.NonZeroInxGenericStack.room l.stack ≡ g.S.NonZeroInxGenericStack.room l.initial.stack)
    × (g.S.NonZeroInxGenericStack.limit l.stack ≡ g.S.NonZeroInxGenericStack.limit l.initial.stack)
    × Copied g.P.Ptr.numbers (goal.M-step g) l.initial.f (g.A.ArenaStates.slots l.source) (g.A.ArenaTrait.stand l.advancer) l.f
    (map g.X.EntrySlot.entry (g.S.NonZeroInxGenericStack.items l.stack))
    × (l.count ≡ entry_count (map g.X.EntrySlot.entry (g.S.NonZeroInxGenericStack.items l.stack)))

abbrev pub decreases-walk : goal.decreases-walk
decreases-walk g l = steps_left (greatest_index g.P.Inx.PtrInx.greatest) (g.A.ArenaTrait.stand l.advancer)
