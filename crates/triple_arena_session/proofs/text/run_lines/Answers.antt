use Rattle.std.proofs.Common.{rules, sym, ◌∙◌, ◌≡◌, ◌∷◌, [], drop, refl}
use Rattle.triple_arena_commands.specs.Lines.{lines_of}
use Rattle.triple_arena_commands.specs.TextRun.{AnswersLines}
use Rattle.triple_arena_commands.specs.laws.TextLaws.{AnswersLines-nil, AnswersLines-line, RunsThrough-last, RunsThrough-wrapped, front-drop}
use Rattle.triple_arena_session.specs.SessionLayout.{IsStepStrictIf}
use Rattle.triple_arena_session.proofs.LineLaws.{AnswersLines-empty, AnswersLines-one, AnswersToWrap-one, StopsAtLine-malformed, StopsAtReply-unwritten}
use Rattle.triple_arena_session.proofs.text.run_lines.Goals.{then-not-is_empty+in-Some+in-Ok+else-tells_of_wrap+in-Line-1, then-not-is_empty+in-Some+in-Ok+else-tells_of_wrap+in-Given-1, else-not-is_empty}
use Rattle.triple_arena_session.proofs.text.run_lines.Goals as goal

pub lines-init : goal.lines-init
lines-init g c = record { ran = AnswersLines-nil _ _ _; left = refl; room = search rules }

pub returns-in_default : goal.returns-in_default
returns-in_default g c =
    StopsAtLine-malformed _ _ c.lines.before _ _ (sym c.lines.invariant.left ∙ c.split_first.ensures.parts) _ _ _ _ c.lines.invariant.ran (search (rules, c.if-not-is_empty.true)) (sym c.parse_command.ensures ∙ c.in_default.is)

pub returns-in_default-write_reply_in : goal.returns-in_default-write_reply_in
returns-in_default-write_reply_in g c =
    StopsAtReply-unwritten _ _ c.in-Some.command c.answer-reply.result _ _ (search (rules, c.if-not-is_empty.true)) (sym c.parse_command.ensures ∙ c.in-Some.is) c.answer-reply.ensures _ c.lines.before _ (sym c.lines.invariant.left ∙ c.split_first.ensures.parts) _ _ _ _ c.lines.invariant.ran c.in_default-write_reply_in.ensures.err

pub returns-then-tells_of_wrap : goal.returns-then-tells_of_wrap
returns-then-tells_of_wrap g c =
    RunsThrough-wrapped _ _ c.lines.before _ _ (sym c.lines.invariant.left ∙ c.split_first.ensures.parts) _ _ _ _ _ _ c.lines.invariant.ran
    (AnswersToWrap-one _ _ c.in-Some.command c.answer-reply.result _ _ (search (rules, c.if-not-is_empty.true)) (sym c.parse_command.ensures ∙ c.in-Some.is) c.answer-reply.ensures _ _ (sym c.tells_of_wrap.ensures ∙ c.if-tells_of_wrap.true) c.in-Ok.ensures.ok)

pub returns-in-None : goal.returns-in-None
returns-in-None g c =
    let answered : AnswersLines (IsStepStrictIf g.A.SessionArena.strict g.S.NonZeroInxGenericStack.kind g.S.NonZeroInxGenericStack.has_memory g.P.Gen.PtrGen.generations) (c.split_first.result.0.now ∷ []) c.lines.session c.if-not-is_empty.session (g.W.Write.contents c.lines.output) (g.W.Write.contents c.if-not-is_empty.output) = elim c.if-not-is_empty.branch [
      | then-not-is_empty+in-Some+in-Ok+else-tells_of_wrap+in-Line-1 w ↦ rw (w.session-is, w.output-is) (AnswersLines-one _ _ w.in-Some.command w.answer-reply.result _ _ (search (rules, w.if-not-is_empty.true)) (sym w.parse_command.ensures ∙ w.in-Some.is) w.answer-reply.ensures _ _ (sym w.tells_of_wrap.ensures ∙ w.if-tells_of_wrap.false) w.in-Ok.ensures.ok)
      | then-not-is_empty+in-Some+in-Ok+else-tells_of_wrap+in-Given-1 w ↦ rw (w.session-is, w.output-is) (AnswersLines-one _ _ w.in-Some.command w.answer-reply.result _ _ (search (rules, w.if-not-is_empty.true)) (sym w.parse_command.ensures ∙ w.in-Some.is) w.answer-reply.ensures _ _ (sym w.tells_of_wrap.ensures ∙ w.if-tells_of_wrap.false) w.in-Ok.ensures.ok)
      | else-not-is_empty w ↦ rw (w.session-is, w.output-is) (AnswersLines-empty _ _ _ _ (search (rules, w.if-not-is_empty.false)))
    ] in
    let left : drop c.lines.before (lines_of c.args.text.now) ≡ c.split_first.result.0.now ∷ [] = search (rules, c.lines.invariant.left, c.split_first.ensures.parts) in
    RunsThrough-last _ _ c.lines.before _ _ left _ _ _ _ _ _ c.lines.invariant.ran refl answered

pub lines-preserved : goal.lines-preserved
lines-preserved g c =
    let answered : AnswersLines (IsStepStrictIf g.A.SessionArena.strict g.S.NonZeroInxGenericStack.kind g.S.NonZeroInxGenericStack.has_memory g.P.Gen.PtrGen.generations) (c.split_first.result.0.now ∷ []) c.lines.session c.if-not-is_empty.session (g.W.Write.contents c.lines.output) (g.W.Write.contents c.if-not-is_empty.output) = elim c.if-not-is_empty.branch [
      | then-not-is_empty+in-Some+in-Ok+else-tells_of_wrap+in-Line-1 w ↦ rw (w.session-is, w.output-is) (AnswersLines-one _ _ w.in-Some.command w.answer-reply.result _ _ (search (rules, w.if-not-is_empty.true)) (sym w.parse_command.ensures ∙ w.in-Some.is) w.answer-reply.ensures _ _ (sym w.tells_of_wrap.ensures ∙ w.if-tells_of_wrap.false) w.in-Ok.ensures.ok)
      | then-not-is_empty+in-Some+in-Ok+else-tells_of_wrap+in-Given-1 w ↦ rw (w.session-is, w.output-is) (AnswersLines-one _ _ w.in-Some.command w.answer-reply.result _ _ (search (rules, w.if-not-is_empty.true)) (sym w.parse_command.ensures ∙ w.in-Some.is) w.answer-reply.ensures _ _ (sym w.tells_of_wrap.ensures ∙ w.if-tells_of_wrap.false) w.in-Ok.ensures.ok)
      | else-not-is_empty w ↦ rw (w.session-is, w.output-is) (AnswersLines-empty _ _ _ _ (search (rules, w.if-not-is_empty.false)))
    ] in
    let left : drop c.lines.before (lines_of c.args.text.now) ≡ c.split_first.result.0.now ∷ lines_of c.in-Some-after.next.now = search (rules, c.lines.invariant.left, c.split_first.ensures.parts) in
    record {
      ran = AnswersLines-line _ _ c.lines.before _ _ left _ _ _ _ _ _ c.lines.invariant.ran answered;
      left = sym (front-drop _ c.lines.before _ _ left).1;
      room = search rules;
    }
