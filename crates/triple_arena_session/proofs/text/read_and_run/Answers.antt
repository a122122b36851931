use Rattle.triple_arena_session.proofs.StrictTextLaws.{StrictLinesKeepSound}
use Rattle.triple_arena_session.proofs.text.read_and_run.Goals as goal

pub returns-clause-kept : goal.returns-clause-kept
returns-clause-kept g c strict counts sound =
    StrictLinesKeepSound g.A.SessionArena.strict g.S.NonZeroInxGenericStack.kind g.S.NonZeroInxGenericStack.has_memory g.P.Gen.PtrGen.generations c.args.session.now c.run_lines.new.session (g.W.Write.contents c.args.output.now) (g.W.Write.contents c.run_lines.new.output) c.as_slice.result.now c.run_lines.result strict counts c.tell_arena_over_stack.ensures.over c.tell_arena_over_stack.ensures.within sound c.run_lines.ensures
