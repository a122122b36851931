use Rattle.std.proofs.Common.{◌≡◌, ◌+◌, ◌≤◌, length, take, drop}
use Rattle.triple_arena_commands.specs.Lines.{lines_of}
use Rattle.triple_arena_commands.specs.TextRun.{AnswersLines}
use Rattle.triple_arena_session.specs.SessionLayout.{IsStepStrictIf}
use Rattle.triple_arena_session.proofs.text.run_lines.Given as goal

abbrev pub invariant-lines : goal.invariant-lines
invariant-lines g l = record {
  ran : AnswersLines (IsStepStrictIf g.A.SessionArena.strict g.S.NonZeroInxGenericStack.kind g.S.NonZeroInxGenericStack.has_memory g.P.Gen.PtrGen.generations) (take l.before (lines_of l.text)) l.initial.session l.session (g.W.Write.contents l.initial.output) (g.W.Write.contents l.output);
  left : lines_of l.rest ≡ drop l.before (lines_of l.text);
  room : l.before + length l.rest ≤ length l.text;
}

abbrev pub decreases-lines : goal.decreases-lines
decreases-lines g l = length l.rest
