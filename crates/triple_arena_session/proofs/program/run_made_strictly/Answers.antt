use Rattle.triple_arena_stack.specs.StackKind.{made_room, made_limit}
use Rattle.triple_arena_session.specs.KindRun.{first_session}
use Rattle.triple_arena_session.proofs.StrictTextLaws.{RunsStrictly-not_begun}
use Rattle.triple_arena_session.proofs.program.run_made_strictly.Goals as goal

pub returns-in-Err : goal.returns-in-Err
returns-in-Err g c =
    let kind = g.S.NonZeroInxGenericStack.kind in
    RunsStrictly-not_begun kind g.S.NonZeroInxGenericStack.has_memory (first_session (made_room kind c.args.slots) (made_limit kind c.args.slots)) (g.R.Read.remaining c.args.input.now) c.flush_after.result.0 _ _ c.flush_after.ensures
