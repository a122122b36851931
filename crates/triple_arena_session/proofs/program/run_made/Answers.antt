use Rattle.triple_arena_commands.specs.laws.TextLaws.{IsFlushedRun-not_begun}
use Rattle.triple_arena_session.proofs.program.run_made.Goals as goal

pub returns-in-Err : goal.returns-in-Err
returns-in-Err g c = (_, IsFlushedRun-not_begun _ (g.R.Read.remaining c.args.input.now) c.flush_after.result.0 _ _ _ c.flush_after.ensures)
