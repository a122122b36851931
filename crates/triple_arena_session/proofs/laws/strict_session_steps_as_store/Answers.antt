use Rattle.triple_arena_session.proofs.Soundness.{sound_over}
use Rattle.triple_arena_session.proofs.StrictLaws.{StrictStepIsStores, StrictStepIsQuiet, StrictStepKeepsHistory}
use Rattle.triple_arena_session.proofs.laws.strict_session_steps_as_store.Goals as goal

pub returns-clause-store : goal.returns-clause-store
returns-clause-store g c counts s t command reply over within sound step =
    (StrictStepIsStores g.S.NonZeroInxGenericStack.kind g.S.NonZeroInxGenericStack.has_memory g.P.Gen.PtrGen.generations counts s command reply t (record { sound = sound_over g.S.NonZeroInxGenericStack.kind s sound over; within = within }) step).step

pub returns-clause-sound : goal.returns-clause-sound
returns-clause-sound g c counts s t command reply over within sound step =
    let after = (StrictStepIsStores g.S.NonZeroInxGenericStack.kind g.S.NonZeroInxGenericStack.has_memory g.P.Gen.PtrGen.generations counts s command reply t (record { sound = sound_over g.S.NonZeroInxGenericStack.kind s sound over; within = within }) step).sound in
    ((after.sound.well_formed, after.sound.of_kind), after.within, after.sound.table)

pub returns-clause-quiet : goal.returns-clause-quiet
returns-clause-quiet g c s t command reply step =
    StrictStepIsQuiet g.S.NonZeroInxGenericStack.kind g.S.NonZeroInxGenericStack.has_memory g.P.Gen.PtrGen.generations s command reply t step

pub returns-clause-history : goal.returns-clause-history
returns-clause-history g c counts s t command reply over step = StrictStepKeepsHistory g.S.NonZeroInxGenericStack.kind g.S.NonZeroInxGenericStack.has_memory g.P.Gen.PtrGen.generations counts s command reply t over step
