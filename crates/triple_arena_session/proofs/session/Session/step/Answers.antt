use Rattle.std.proofs.Common.{subst}
use Rattle.triple_arena_session.specs.SessionRun.{IsStep}
use Rattle.triple_arena_session.proofs.Soundness.{sound_over}
use Rattle.triple_arena_session.proofs.Continuing.{StepGoesOn}
use Rattle.triple_arena_session.proofs.StoreLaws.{StepIsStores}
use Rattle.triple_arena_session.proofs.StrictSteps.{NeverExhausted}
use Rattle.triple_arena_session.proofs.session.Session.step.Goals as goal

pub returns-clause-store : goal.returns-clause-store
returns-clause-store g c =
    rw (← c.self.view_is) (λ counts sound quiet. (StepIsStores g.S.NonZeroInxGenericStack.kind g.S.NonZeroInxGenericStack.has_memory g.P.Gen.PtrGen.generations counts c.self.inside.body c.args.command c.answer.result c.answer.new.self (sound_over g.S.NonZeroInxGenericStack.kind c.self.inside.body sound c.tell_arena_over_stack.ensures.over) c.answer.ensures).step quiet)

pub returns-clause-sound : goal.returns-clause-sound
returns-clause-sound g c =
    rw (← c.self.view_is) (λ counts sound quiet. ((StepIsStores g.S.NonZeroInxGenericStack.kind g.S.NonZeroInxGenericStack.has_memory g.P.Gen.PtrGen.generations counts c.self.inside.body c.args.command c.answer.result c.answer.new.self (sound_over g.S.NonZeroInxGenericStack.kind c.self.inside.body sound c.tell_arena_over_stack.ensures.over) c.answer.ensures).sound quiet).table)

pub returns-clause-calls : goal.returns-clause-calls
returns-clause-calls g c =
    rw (← c.self.view_is) (λ counts quiet. (StepGoesOn g.S.NonZeroInxGenericStack.kind g.P.Gen.PtrGen.generations g.S.NonZeroInxGenericStack.has_memory c.self.inside.body c.args.command c.answer.result c.answer.new.self c.tell_arena_over_stack.ensures.over c.answer.ensures).calls (counts, quiet))

pub returns-clause-at_wrap : goal.returns-clause-at_wrap
returns-clause-at_wrap g c =
    rw (← c.self.view_is) (λ counts sound. (StepIsStores g.S.NonZeroInxGenericStack.kind g.S.NonZeroInxGenericStack.has_memory g.P.Gen.PtrGen.generations counts c.self.inside.body c.args.command c.answer.result c.answer.new.self (sound_over g.S.NonZeroInxGenericStack.kind c.self.inside.body sound c.tell_arena_over_stack.ensures.over) c.answer.ensures).answers)

pub returns-clause-never : goal.returns-clause-never
returns-clause-never g c is =
    let kind = g.S.NonZeroInxGenericStack.kind in
    let has_memory = g.S.NonZeroInxGenericStack.has_memory in
    let generations = g.P.Gen.PtrGen.generations in
    let s = c.self.inside.body in
    let t = c.answer.new.self in
    NeverExhausted generations kind has_memory s t c.args.command (subst (λ r. IsStep kind has_memory generations s c.args.command r t) is c.answer.ensures)
