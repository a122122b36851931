use Rattle.std.proofs.Common.{length, take, subst}
use Rattle.std.proofs.lemmas.Result.{IfOk-weaker}
use Rattle.triple_arena_commands.specs.laws.RunLaws.{IsRun-front}
use Rattle.triple_arena_commands.specs.Runs.{IsRun}
use Rattle.triple_arena_session.specs.SessionRun.{IsStep}
use Rattle.triple_arena_session.proofs.Soundness.{sound_over}
use Rattle.triple_arena_session.proofs.Continuing.{StepGoesOn, StepsKeepHistories}
use Rattle.triple_arena_session.proofs.StoreRunLaws.{RunAnswersAsStore, RunIsStores, RunIsUnseen}
use Rattle.triple_arena_session.proofs.LastSteps.{RunEndsAsStore}
use Rattle.triple_arena_session.proofs.StrictSteps.{RunNeverExhausted}
use Rattle.triple_arena_session.proofs.session.Session.run.Goals as goal

pub returns-clause-store : goal.returns-clause-store
returns-clause-store g c =
    rw (← c.self.view_is) (λ counts sound. IfOk-weaker c.run_commands.result _ _ (λ replies ran. RunAnswersAsStore g.S.NonZeroInxGenericStack.kind g.S.NonZeroInxGenericStack.has_memory g.P.Gen.PtrGen.generations counts c.self.inside.body c.args.commands.now replies.items c.run_commands.new.self (sound_over g.S.NonZeroInxGenericStack.kind c.self.inside.body sound c.tell_arena_over_stack.ensures.over) ran) c.run_commands.ensures.ran)

pub returns-clause-ends : goal.returns-clause-ends
returns-clause-ends g c =
    rw (← c.self.view_is) (λ counts sound. IfOk-weaker c.run_commands.result _ _ (λ replies ran.
    let Step = IsStep g.S.NonZeroInxGenericStack.kind g.S.NonZeroInxGenericStack.has_memory g.P.Gen.PtrGen.generations in
    let answered = take (length replies.items) c.args.commands.now in
    let over = sound_over g.S.NonZeroInxGenericStack.kind c.self.inside.body sound c.tell_arena_over_stack.ensures.over in
    let quietly = RunIsStores g.S.NonZeroInxGenericStack.kind g.S.NonZeroInxGenericStack.has_memory g.P.Gen.PtrGen.generations counts c.self.inside.body c.args.commands.now replies.items c.run_commands.new.self over ran in
    record {
      shows = λ quiet. (quietly quiet).0;
      sound = λ quiet. (quietly quiet).1.table;
      at_wrap = λ before last is quiet. RunEndsAsStore g.S.NonZeroInxGenericStack.kind g.S.NonZeroInxGenericStack.has_memory g.P.Gen.PtrGen.generations counts c.self.inside.body answered before last c.run_commands.new.self over
          (subst (λ rs. IsRun Step c.self.inside.body answered rs c.run_commands.new.self) is ran.0) quiet;
    }) c.run_commands.ensures.ran)

pub returns-clause-goes_on : goal.returns-clause-goes_on
returns-clause-goes_on g c =
    rw (← c.self.view_is) (IfOk-weaker c.run_commands.result _ _ (λ replies ran.
    let Step = IsStep g.S.NonZeroInxGenericStack.kind g.S.NonZeroInxGenericStack.has_memory g.P.Gen.PtrGen.generations in
    let answered = take (length replies.items) c.args.commands.now in
    let keeps = StepsKeepHistories g.S.NonZeroInxGenericStack.kind g.P.Gen.PtrGen.generations Step (StepGoesOn g.S.NonZeroInxGenericStack.kind g.P.Gen.PtrGen.generations g.S.NonZeroInxGenericStack.has_memory) in
    let over = c.tell_arena_over_stack.ensures.over in
    record {
      calls = λ counts. keeps counts c.self.inside.body answered replies.items c.run_commands.new.self over;
      fronts = λ counts count.
          let front = IsRun-front Step c.self.inside.body c.run_commands.new.self answered replies.items count ran.0 in
          (front.0, front.1, keeps counts c.self.inside.body (take count answered) (take count replies.items) front.0 over);
      never = RunNeverExhausted g.P.Gen.PtrGen.generations g.S.NonZeroInxGenericStack.kind g.S.NonZeroInxGenericStack.has_memory c.self.inside.body c.run_commands.new.self answered replies.items ran.0;
    }) c.run_commands.ensures.ran)

pub returns-clause-unseen : goal.returns-clause-unseen
returns-clause-unseen g c =
    rw (← c.self.view_is) (λ counts sound. IfOk-weaker c.run_commands.result _ _ (λ replies ran. RunIsUnseen g.S.NonZeroInxGenericStack.kind g.S.NonZeroInxGenericStack.has_memory g.P.Gen.PtrGen.generations counts c.self.inside.body c.args.commands.now replies.items c.run_commands.new.self (sound_over g.S.NonZeroInxGenericStack.kind c.self.inside.body sound c.tell_arena_over_stack.ensures.over) ran) c.run_commands.ensures.ran)

pub returns-clause-ran : goal.returns-clause-ran
returns-clause-ran g c = rw (← c.self.view_is) c.run_commands.ensures.ran

pub returns-clause-arena : goal.returns-clause-arena
returns-clause-arena g c = rw (← c.self.view_is) c.tell_arena_over_stack.ensures.over
