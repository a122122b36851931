use Rattle.std.proofs.Common.{◌≡◌, map}
use Rattle.triple_arena_ptr.specs.Numbers.{greatest_index}
use Rattle.triple_arena_traits.specs.Walks.{steps_left}
use Rattle.triple_arena_traits.proofs.TransferLemmas.{Transferred}
use Rattle.triple_arena_traits.proofs.transferring.transfer_entries.Given as goal

abbrev pub invariant-walk : goal.invariant-walk
invariant-walk g l =
    goal.M-IsAlwaysCallable g l.f
    × (g.S.NonZeroInxGenericStack.room l.stack ≡ g.S.NonZeroInxGenericStack.room l.initial.stack)
    × (g.S.NonZeroInxGenericStack.limit l.stack ≡ g.S.NonZeroInxGenericStack.limit l.initial.stack)
    × Transferred g.Q.Ptr.numbers g.P.Ptr.numbers (goal.M-step g) g.A.ArenaStates.slots g.A.ArenaStates.fits g.A.ArenaStates.removes g.A.ArenaStates.ending_wraps g.Q.Gen.PtrGen.generations g.met.A.ArenaLaws.slots_removed
    (greatest_index g.Q.Inx.PtrInx.greatest) (g.P.Gen.PtrGen.number l.fn.generation)
    l.initial.f l.initial.source l.f l.source (g.A.ArenaTrait.stand l.advancer) (map g.X.EntrySlot.entry (g.S.NonZeroInxGenericStack.items l.stack))

abbrev pub decreases-walk : goal.decreases-walk
decreases-walk g l = steps_left (greatest_index g.Q.Inx.PtrInx.greatest) (g.A.ArenaTrait.stand l.advancer)
