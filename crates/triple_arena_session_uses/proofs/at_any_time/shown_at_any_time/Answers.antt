use Rattle.std.proofs.Common.{refl}
use Rattle.std.proofs.lemmas.Result.{IfOk-weaker}
use Rattle.triple_arena_session_uses.proofs.at_any_time.shown_at_any_time.Goals as goal

pub returns-clause-between : goal.returns-clause-between
returns-clause-between c =
    IfOk-weaker c.run.result _ _ (λ replies on. λ count quiet.
    let front = on.fronts refl count in (
      front.0,
      front.1,
      c.session_runs_as_store.ensures.store refl c.args.session.now front.0 _ _ c.run.ensures.arena c.requires.sound front.1 quiet,
      (c.session_runs_as_store.ensures.sound refl c.args.session.now front.0 _ _ c.run.ensures.arena c.requires.sound front.1 quiet).1,
    )) c.run.ensures.goes_on
