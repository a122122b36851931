use Rattle.triple_arena_commands.specs.laws.TextLaws.{IsFlushedRun-after}
use Rattle.triple_arena_session.proofs.Soundness.{sound_over}
use Rattle.triple_arena_session.proofs.StoreTextLaws.{FlushedIsStores, FlushedLeavesStore}
use Rattle.triple_arena_session.proofs.text.run_text_and_flush.Goals as goal

pub returns-clause-store : goal.returns-clause-store
returns-clause-store g c =
    let ran = IsFlushedRun-after _ (g.R.Read.remaining c.args.input.now) c.read_and_run-outcome.result c.flush_after.result.0 _ _ _ _ _ c.read_and_run-outcome.ensures.run c.flush_after.ensures in
    rw (← c.session.view_is) (λ counts sound. FlushedIsStores g.S.NonZeroInxGenericStack.kind g.S.NonZeroInxGenericStack.has_memory g.P.Gen.PtrGen.generations counts c.session.inside.body c.read_and_run-outcome.new.session (sound_over g.S.NonZeroInxGenericStack.kind c.session.inside.body sound c.read_and_run-outcome.ensures.over) _ _ (g.R.Read.remaining c.args.input.now) c.flush_after.result.0 ran)

pub returns-clause-leaves : goal.returns-clause-leaves
returns-clause-leaves g c =
    let ran = IsFlushedRun-after _ (g.R.Read.remaining c.args.input.now) c.read_and_run-outcome.result c.flush_after.result.0 _ _ _ _ _ c.read_and_run-outcome.ensures.run c.flush_after.ensures in
    rw (← c.session.view_is) (λ counts sound. FlushedLeavesStore g.S.NonZeroInxGenericStack.kind g.S.NonZeroInxGenericStack.has_memory g.P.Gen.PtrGen.generations counts c.session.inside.body c.read_and_run-outcome.new.session (sound_over g.S.NonZeroInxGenericStack.kind c.session.inside.body sound c.read_and_run-outcome.ensures.over) _ _ (g.R.Read.remaining c.args.input.now) c.flush_after.result.0 ran)

pub returns-clause-run : goal.returns-clause-run
returns-clause-run g c =
    rw (← c.session.view_is) (IsFlushedRun-after _ (g.R.Read.remaining c.args.input.now) c.read_and_run-outcome.result c.flush_after.result.0 _ _ _ _ _ c.read_and_run-outcome.ensures.run c.flush_after.ensures)
