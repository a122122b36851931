use Rattle.std.proofs.Common.{[]}
use Rattle.triple_arena_traits.specs.Histories.{begun_with}
use Rattle.triple_arena_traits.specs.laws.HistoryLaws.{Fits-empty}
use Rattle.triple_arena_session.proofs.Soundness.{sound_over}
use Rattle.triple_arena_session.proofs.StrictLaws.{StrictRunIsStores, StrictRunIsQuiet, StrictRunKeepsHistory, StrictRunIsUnseen}
use Rattle.triple_arena_session.proofs.laws.strict_session_runs_as_store.Goals as goal

pub returns-clause-store : goal.returns-clause-store
returns-clause-store g c counts s t commands replies over within sound run =
    (StrictRunIsStores g.S.NonZeroInxGenericStack.kind g.S.NonZeroInxGenericStack.has_memory g.P.Gen.PtrGen.generations counts s commands replies t (record { sound = sound_over g.S.NonZeroInxGenericStack.kind s sound over; within = within }) run).stores

pub returns-clause-sound : goal.returns-clause-sound
returns-clause-sound g c counts s t commands replies over within sound run =
    let after = (StrictRunIsStores g.S.NonZeroInxGenericStack.kind g.S.NonZeroInxGenericStack.has_memory g.P.Gen.PtrGen.generations counts s commands replies t (record { sound = sound_over g.S.NonZeroInxGenericStack.kind s sound over; within = within }) run).sound in
    ((after.sound.well_formed, after.sound.of_kind), after.within, after.sound.table)

pub returns-clause-quiet : goal.returns-clause-quiet
returns-clause-quiet g c s t commands replies run =
    StrictRunIsQuiet g.S.NonZeroInxGenericStack.kind g.S.NonZeroInxGenericStack.has_memory g.P.Gen.PtrGen.generations s commands replies t run

pub returns-clause-history : goal.returns-clause-history
returns-clause-history g c counts s t commands replies over run = StrictRunKeepsHistory g.S.NonZeroInxGenericStack.kind g.S.NonZeroInxGenericStack.has_memory g.P.Gen.PtrGen.generations counts s commands replies t over run

pub returns-clause-given_once : goal.returns-clause-given_once
returns-clause-given_once g c counts s t commands replies over none run =
    (StrictRunKeepsHistory g.S.NonZeroInxGenericStack.kind g.S.NonZeroInxGenericStack.has_memory g.P.Gen.PtrGen.generations counts s commands replies t over run (begun_with []) (Fits-empty s.arena none)).given_once

pub returns-clause-unseen : goal.returns-clause-unseen
returns-clause-unseen g c counts s t commands replies over within sound run named enough other =
    StrictRunIsUnseen g.S.NonZeroInxGenericStack.kind g.S.NonZeroInxGenericStack.has_memory g.P.Gen.PtrGen.generations counts s commands replies t (record { sound = sound_over g.S.NonZeroInxGenericStack.kind s sound over; within = within }) run named enough other
