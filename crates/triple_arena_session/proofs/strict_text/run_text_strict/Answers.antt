use Rattle.std.proofs.Common.{refl}
use Rattle.triple_arena_session.proofs.Soundness.{sound_over}
use Rattle.triple_arena_session.proofs.StrictTextLaws.{StrictTextIsWhole, StrictTextIsStores}
use Rattle.triple_arena_session.proofs.strict_text.run_text_strict.Goals as goal

pub returns-clause-run : goal.returns-clause-run
returns-clause-run g c =
    rw (← c.session.view_is) (StrictTextIsWhole g.S.NonZeroInxGenericStack.kind g.S.NonZeroInxGenericStack.has_memory g.P.Gen.PtrGen.generations c.session.inside.body c.read_and_run.new.session (g.W.Write.contents c.args.output.now) _ (g.R.Read.remaining c.args.input.now) c.read_and_run.result c.read_and_run.ensures.run)

pub returns-clause-store : goal.returns-clause-store
returns-clause-store g c =
    rw (← c.session.view_is) (λ counts. (StrictTextIsStores g.S.NonZeroInxGenericStack.kind g.S.NonZeroInxGenericStack.has_memory g.P.Gen.PtrGen.generations c.session.inside.body c.read_and_run.new.session (g.W.Write.contents c.args.output.now) _ counts
    (record { sound = sound_over g.S.NonZeroInxGenericStack.kind c.session.inside.body (c.session.invariant counts) c.read_and_run.ensures.over; within = c.read_and_run.ensures.within }) (g.R.Read.remaining c.args.input.now) c.read_and_run.result c.read_and_run.ensures.run).1)

pub returns-clause-stays : goal.returns-clause-stays
returns-clause-stays g c =
    rw (← c.session.view_is) (record {
      arena = c.read_and_run.ensures.over;
      within = c.read_and_run.ensures.within;
      was_sound = c.session.invariant;
      begun = rw c.session.view_is c.tell_begun.ensures;
      sound = λ counts. c.read_and_run.ensures.kept refl counts (c.session.invariant counts);
    })
