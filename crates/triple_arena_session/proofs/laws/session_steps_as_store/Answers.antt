use Rattle.std.proofs.Common.{◌≡◌, true}
use Rattle.triple_arena_session.specs.Shown.{IsSound}
use Rattle.triple_arena_session.proofs.Soundness.{sound_over}
use Rattle.triple_arena_session.proofs.Continuing.{StepGoesOn}
use Rattle.triple_arena_session.proofs.StoreLaws.{StepIsStores}
use Rattle.triple_arena_session.proofs.StrictSteps.{NeverExhausted}
use Rattle.triple_arena_session.proofs.laws.session_steps_as_store.Goals as goal

pub returns-clause-steps : goal.returns-clause-steps
returns-clause-steps g c s t command reply over step =
    let kind = g.S.NonZeroInxGenericStack.kind in
    let has_memory = g.S.NonZeroInxGenericStack.has_memory in
    let generations = g.P.Gen.PtrGen.generations in
    let on = StepGoesOn kind generations has_memory s command reply t over step in
    let stores = λ (counts : generations.counting ≡ true) (sound : IsSound s). StepIsStores kind has_memory generations counts s command reply t (sound_over kind s sound over) step in
    record {
      arena = on.over;
      calls = λ counts quiet. on.calls (counts, quiet);
      store = λ counts sound quiet. (stores counts sound).step quiet;
      sound = λ counts sound quiet. ((stores counts sound).sound quiet).table;
      at_wrap = λ counts sound. (stores counts sound).answers;
    }

pub returns-clause-never : goal.returns-clause-never
returns-clause-never g c s t command step = NeverExhausted g.P.Gen.PtrGen.generations g.S.NonZeroInxGenericStack.kind g.S.NonZeroInxGenericStack.has_memory s t command step
