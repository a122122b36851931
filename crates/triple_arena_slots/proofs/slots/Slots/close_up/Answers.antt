use Rattle.triple_arena_slots.proofs.Compaction.{closed_shows}
use Rattle.triple_arena_slots.proofs.slots.Slots.close_up.Goals as goal

pub returns-clause-moved : goal.returns-clause-moved
returns-clause-moved g c = λ s len shows.
    let m = rw c.uncounted_stack_mut.ensures.value at c.close_up.ensures.moved in
    closed_shows g.P.Ptr.numbers (goal.F-step g) g.P.Gen.PtrGen.number (g.S.NonZeroInxGenericStack.items c.args.self.now.slots.stack) (g.S.NonZeroInxGenericStack.items c.close_up.new.stack) _ len s (g.P.Gen.PtrGen.number c.args.generation) c.args.f m.0 shows m.1 m.2
