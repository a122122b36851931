use Rattle.std.proofs.Common.{◌+◌, subst, sym, ap, ◌∙◌}
use Rattle.std.proofs.lemmas.List.{length_push}
use Rattle.triple_arena_commands.specs.laws.RunLaws.{IsRun-more, RunsToWrap-wrapped, TellsOfNoWrap-push}
use Rattle.triple_arena_session.specs.SessionLayout.{IsStepStrictIf}
use Rattle.triple_arena_session.proofs.session_body.SessionBody.run_commands.Goals as goal

pub returns-then-wrapped-clause-ran : goal.returns-then-wrapped-clause-ran
returns-then-wrapped-clause-ran g c =
    let step = subst (λ command. IsStepStrictIf g.A.SessionArena.strict g.S.NonZeroInxGenericStack.kind g.S.NonZeroInxGenericStack.has_memory g.P.Gen.PtrGen.generations c.commands.self command c.answer-reply.result c.answer-reply.new.self) c.command-item.is c.answer-reply.ensures in
    rw c.push_reserved.ensures.items (RunsToWrap-wrapped (IsStepStrictIf g.A.SessionArena.strict g.S.NonZeroInxGenericStack.kind g.S.NonZeroInxGenericStack.has_memory g.P.Gen.PtrGen.generations) c.args.self.now c.commands.self c.answer-reply.new.self c.args.commands.now c.commands.command-index c.command-item.result c.commands.replies.items c.answer-reply.result c.commands-test.true c.commands.invariant.count c.commands.invariant.ran step c.commands.invariant.told (sym c.tells_of_wrap-wrapped.ensures ∙ c.if-wrapped.true))

pub commands-preserved : goal.commands-preserved
commands-preserved g c =
    let step = subst (λ command. IsStepStrictIf g.A.SessionArena.strict g.S.NonZeroInxGenericStack.kind g.S.NonZeroInxGenericStack.has_memory g.P.Gen.PtrGen.generations c.commands.self command c.answer-reply.result c.answer-reply.new.self) c.command-item.is c.answer-reply.ensures in
    record {
      ran = rw c.push_reserved.ensures.items (IsRun-more (IsStepStrictIf g.A.SessionArena.strict g.S.NonZeroInxGenericStack.kind g.S.NonZeroInxGenericStack.has_memory g.P.Gen.PtrGen.generations) c.args.self.now c.commands.self c.answer-reply.new.self c.args.commands.now c.commands.command-index c.command-item.result c.commands.replies.items c.answer-reply.result c.commands-test.true c.commands.invariant.ran step);
      told = rw c.push_reserved.ensures.items (TellsOfNoWrap-push c.commands.replies.items c.answer-reply.result c.commands.invariant.told (sym c.tells_of_wrap-wrapped.ensures ∙ c.if-wrapped.false));
      count = rw c.push_reserved.ensures.items (length_push c.commands.replies.items c.answer-reply.result ∙ ap (λ n. n + 1) c.commands.invariant.count);
      room = rw c.push_reserved.ensures.capacity c.commands.invariant.room;
    }
