use Rattle.std.proofs.Common.{refl}
use Rattle.triple_arena_commands.specs.laws.TextLaws.{IsFlushedRun-after}
use Rattle.triple_arena_session.proofs.Soundness.{sound_over}
use Rattle.triple_arena_session.proofs.StrictTextLaws.{StrictFlushedIsWhole, StrictFlushedIsStores}
use Rattle.triple_arena_session.proofs.strict_text.run_text_strict_and_flush.Goals as goal

pub returns-clause-run : goal.returns-clause-run
returns-clause-run g c =
    let ran = IsFlushedRun-after _ (g.R.Read.remaining c.args.input.now) c.read_and_run-outcome.result c.flush_after.result.0 _ _ _ _ _ c.read_and_run-outcome.ensures.run c.flush_after.ensures in
    rw (← c.session.view_is) (StrictFlushedIsWhole g.S.NonZeroInxGenericStack.kind g.S.NonZeroInxGenericStack.has_memory g.P.Gen.PtrGen.generations c.session.inside.body c.read_and_run-outcome.new.session _ _ (g.R.Read.remaining c.args.input.now) c.flush_after.result.0 ran)

pub returns-clause-store : goal.returns-clause-store
returns-clause-store g c =
    let ran = IsFlushedRun-after _ (g.R.Read.remaining c.args.input.now) c.read_and_run-outcome.result c.flush_after.result.0 _ _ _ _ _ c.read_and_run-outcome.ensures.run c.flush_after.ensures in
    rw (← c.session.view_is) (λ counts. (StrictFlushedIsStores g.S.NonZeroInxGenericStack.kind g.S.NonZeroInxGenericStack.has_memory g.P.Gen.PtrGen.generations c.session.inside.body c.read_and_run-outcome.new.session _ _ counts
    (record { sound = sound_over g.S.NonZeroInxGenericStack.kind c.session.inside.body (c.session.invariant counts) c.read_and_run-outcome.ensures.over; within = c.read_and_run-outcome.ensures.within }) (g.R.Read.remaining c.args.input.now) c.flush_after.result.0 ran).1)

pub returns-clause-stays : goal.returns-clause-stays
returns-clause-stays g c =
    rw (← c.session.view_is) (record {
      arena = c.read_and_run-outcome.ensures.over;
      within = c.read_and_run-outcome.ensures.within;
      was_sound = c.session.invariant;
      begun = rw c.session.view_is c.tell_begun.ensures;
      sound = λ counts. c.read_and_run-outcome.ensures.kept refl counts (c.session.invariant counts);
    })
