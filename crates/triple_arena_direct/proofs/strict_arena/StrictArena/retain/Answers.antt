use Rattle.std.proofs.Common.{[], refl, sym, ap, ◌∙◌, is_some, true≢false}
use Rattle.triple_arena_direct.specs.StrictCalls.{to_retain}
use Rattle.triple_arena_direct.proofs.StrictAnswers.{step_refused}
use Rattle.triple_arena_direct.proofs.StrictDone.{ending_none}
use Rattle.triple_arena_direct.proofs.strict_arena.StrictArena.retain.Goals as goal

pub returns-then-is_exhausted_for_any-clause-rest : goal.returns-then-is_exhausted_for_any-clause-rest
returns-then-is_exhausted_for_any-clause-rest g c =
    record {
      kept = λ q live. refl;
      limit = refl;
      same_capacity = refl;
      gone_for_good = λ counts q live none. absurd (true≢false (sym live ∙ ap is_some none));
    }

pub returns-then-is_exhausted_for_any-clause-call : goal.returns-then-is_exhausted_for_any-clause-call
returns-then-is_exhausted_for_any-clause-call g c = (
  [],
  ending_none g.S.NonZeroInxGenericStack.kind g.P.Gen.PtrGen.generations c.args.self.now (to_retain [])
      (step_refused c.args.self.now _ _ _ (sym c.is_exhausted_for_any.ensures.value ∙ c.if-is_exhausted_for_any.true)),
)
