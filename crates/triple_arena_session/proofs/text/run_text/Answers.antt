use Rattle.triple_arena_session.proofs.Soundness.{sound_over}
use Rattle.triple_arena_session.proofs.StoreTextLaws.{TextIsStores, TextLeavesStore}
use Rattle.triple_arena_session.proofs.text.run_text.Goals as goal

pub returns-clause-store : goal.returns-clause-store
returns-clause-store g c =
    rw (← c.session.view_is) (λ counts sound. TextIsStores g.S.NonZeroInxGenericStack.kind g.S.NonZeroInxGenericStack.has_memory g.P.Gen.PtrGen.generations counts c.session.inside.body c.read_and_run.new.session (sound_over g.S.NonZeroInxGenericStack.kind c.session.inside.body sound c.read_and_run.ensures.over) (g.W.Write.contents c.args.output.now) _ (g.R.Read.remaining c.args.input.now) c.read_and_run.result c.read_and_run.ensures.run)

pub returns-clause-leaves : goal.returns-clause-leaves
returns-clause-leaves g c =
    rw (← c.session.view_is) (λ counts sound. TextLeavesStore g.S.NonZeroInxGenericStack.kind g.S.NonZeroInxGenericStack.has_memory g.P.Gen.PtrGen.generations counts c.session.inside.body c.read_and_run.new.session (sound_over g.S.NonZeroInxGenericStack.kind c.session.inside.body sound c.read_and_run.ensures.over) (g.W.Write.contents c.args.output.now) _ (g.R.Read.remaining c.args.input.now) c.read_and_run.result c.read_and_run.ensures.run)

pub returns-clause-run : goal.returns-clause-run
returns-clause-run g c = rw (← c.session.view_is) c.read_and_run.ensures.run
