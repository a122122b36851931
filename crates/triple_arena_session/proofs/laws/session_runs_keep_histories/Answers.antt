use Rattle.std.proofs.Common.{[]}
use Rattle.triple_arena_traits.specs.Histories.{begun_with}
use Rattle.triple_arena_traits.specs.laws.HistoryLaws.{Fits-empty}
use Rattle.triple_arena_session.specs.SessionRun.{IsStep}
use Rattle.triple_arena_session.proofs.Continuing.{StepGoesOn, OverAfterRun, StepsKeepHistories}
use Rattle.triple_arena_session.proofs.laws.session_runs_keep_histories.Goals as goal

pub returns-clause-calls : goal.returns-clause-calls
returns-clause-calls g c counts s t commands replies over =
    StepsKeepHistories g.S.NonZeroInxGenericStack.kind g.P.Gen.PtrGen.generations (IsStep g.S.NonZeroInxGenericStack.kind g.S.NonZeroInxGenericStack.has_memory g.P.Gen.PtrGen.generations) (StepGoesOn g.S.NonZeroInxGenericStack.kind g.P.Gen.PtrGen.generations g.S.NonZeroInxGenericStack.has_memory) counts s commands replies t over

pub returns-clause-arena : goal.returns-clause-arena
returns-clause-arena g c s t commands replies over run =
    OverAfterRun g.S.NonZeroInxGenericStack.kind g.P.Gen.PtrGen.generations (IsStep g.S.NonZeroInxGenericStack.kind g.S.NonZeroInxGenericStack.has_memory g.P.Gen.PtrGen.generations) (StepGoesOn g.S.NonZeroInxGenericStack.kind g.P.Gen.PtrGen.generations g.S.NonZeroInxGenericStack.has_memory) s commands replies t over run

pub returns-clause-given_once : goal.returns-clause-given_once
returns-clause-given_once g c counts s t commands replies over none run quiet =
    (StepsKeepHistories g.S.NonZeroInxGenericStack.kind g.P.Gen.PtrGen.generations (IsStep g.S.NonZeroInxGenericStack.kind g.S.NonZeroInxGenericStack.has_memory g.P.Gen.PtrGen.generations) (StepGoesOn g.S.NonZeroInxGenericStack.kind g.P.Gen.PtrGen.generations g.S.NonZeroInxGenericStack.has_memory) counts s commands replies t over run quiet (begun_with []) (Fits-empty s.arena none)).given_once
