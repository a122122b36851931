use Rattle.std.proofs.Common.{refl}
use Rattle.std.proofs.lemmas.Result.{IfOk-weaker}
use Rattle.triple_arena_session_uses.proofs.audit.audited.Goals as goal

pub returns-clause-once : goal.returns-clause-once
returns-clause-once c =
    IfOk-weaker c.run.result _ _ (λ replies on. λ count quiet.
    let front = on.fronts refl count in
    (front.0, (front.1, c.session_runs_keep_histories.ensures.given_once refl c.args.session.now front.0 _ _ c.run.ensures.arena c.requires.empty front.1 quiet))) c.run.ensures.goes_on
