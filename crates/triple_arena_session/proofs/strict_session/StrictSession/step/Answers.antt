use Rattle.triple_arena_session.proofs.Soundness.{sound_over}
use Rattle.triple_arena_session.proofs.StrictLaws.{StrictStepIsStores, StrictStepIsQuiet, StrictStepKeepsHistory, StrictStepKeepsSound, ExhaustedWhere, ExhaustedKeeps}
use Rattle.triple_arena_session.proofs.strict_session.StrictSession.step.Goals as goal

pub returns-clause-exhausted : goal.returns-clause-exhausted
returns-clause-exhausted g c = rw (← c.self.view_is) (ExhaustedWhere g.S.NonZeroInxGenericStack.kind g.S.NonZeroInxGenericStack.has_memory g.P.Gen.PtrGen.generations c.self.inside.body c.args.command c.answer.result c.answer.new.self c.answer.ensures)

pub returns-clause-unchanged : goal.returns-clause-unchanged
returns-clause-unchanged g c = rw (← c.self.view_is) (ExhaustedKeeps g.S.NonZeroInxGenericStack.kind g.S.NonZeroInxGenericStack.has_memory g.P.Gen.PtrGen.generations c.self.inside.body c.args.command c.answer.result c.answer.new.self c.answer.ensures)

pub returns-clause-quiet : goal.returns-clause-quiet
returns-clause-quiet g c =
    StrictStepIsQuiet g.S.NonZeroInxGenericStack.kind g.S.NonZeroInxGenericStack.has_memory g.P.Gen.PtrGen.generations c.self.inside.body c.args.command c.answer.result c.answer.new.self c.answer.ensures

pub returns-clause-store : goal.returns-clause-store
returns-clause-store g c =
    rw (← c.self.view_is) (λ counts. (StrictStepIsStores g.S.NonZeroInxGenericStack.kind g.S.NonZeroInxGenericStack.has_memory g.P.Gen.PtrGen.generations counts c.self.inside.body c.args.command c.answer.result c.answer.new.self (record { sound = sound_over g.S.NonZeroInxGenericStack.kind c.self.inside.body (c.self.invariant counts) c.tell_arena_over_stack.ensures.over; within = c.tell_arena_over_stack.ensures.within }) c.answer.ensures).step)

pub invariant_of-self : goal.invariant_of-self
invariant_of-self g c counts =
    StrictStepKeepsSound g.S.NonZeroInxGenericStack.kind g.S.NonZeroInxGenericStack.has_memory g.P.Gen.PtrGen.generations counts c.self.inside.body c.tell_arena_over_stack.ensures.over c.tell_arena_over_stack.ensures.within (c.self.invariant counts) c.args.command c.answer.result c.answer.new.self c.answer.ensures

pub returns-clause-stays : goal.returns-clause-stays
returns-clause-stays g c =
    rw (← c.self.view_is) (record {
      arena = c.tell_arena_over_stack.ensures.over;
      within = c.tell_arena_over_stack.ensures.within;
      was_sound = c.self.invariant;
      begun = rw c.self.view_is c.tell_begun.ensures;
      sound = invariant_of-self g c;
    })

pub returns-clause-history : goal.returns-clause-history
returns-clause-history g c =
    rw (← c.self.view_is) (λ counts. StrictStepKeepsHistory g.S.NonZeroInxGenericStack.kind g.S.NonZeroInxGenericStack.has_memory g.P.Gen.PtrGen.generations counts c.self.inside.body c.args.command c.answer.result c.answer.new.self c.tell_arena_over_stack.ensures.over c.answer.ensures)
