use Rattle.triple_arena_session.proofs.Soundness.{sound_over, over_of}
use Rattle.triple_arena_session.proofs.StoreRunLaws.{QuietRunIsStores}
use Rattle.triple_arena_session.proofs.LastSteps.{RunEndsAsStore}
use Rattle.triple_arena_session.proofs.laws.session_runs_as_store.Goals as goal

pub returns-clause-store : goal.returns-clause-store
returns-clause-store g c counts s t commands replies over sound run quiet =
    (QuietRunIsStores g.S.NonZeroInxGenericStack.kind g.S.NonZeroInxGenericStack.has_memory g.P.Gen.PtrGen.generations counts s commands replies t (sound_over g.S.NonZeroInxGenericStack.kind s sound over) run quiet).0

pub returns-clause-sound : goal.returns-clause-sound
returns-clause-sound g c counts s t commands replies over sound run quiet =
    let after = (QuietRunIsStores g.S.NonZeroInxGenericStack.kind g.S.NonZeroInxGenericStack.has_memory g.P.Gen.PtrGen.generations counts s commands replies t (sound_over g.S.NonZeroInxGenericStack.kind s sound over) run quiet).1 in
    (over_of g.S.NonZeroInxGenericStack.kind t after, after.table)

pub returns-clause-at_wrap : goal.returns-clause-at_wrap
returns-clause-at_wrap g c counts s t commands before last over sound run quiet =
    RunEndsAsStore g.S.NonZeroInxGenericStack.kind g.S.NonZeroInxGenericStack.has_memory g.P.Gen.PtrGen.generations counts s commands before last t (sound_over g.S.NonZeroInxGenericStack.kind s sound over) run quiet
