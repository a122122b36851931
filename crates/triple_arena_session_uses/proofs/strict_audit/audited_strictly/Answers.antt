use Rattle.std.proofs.Common.{refl}
use Rattle.std.proofs.lemmas.Result.{IfOk-weaker}
use Rattle.triple_arena.specs.Walks.{keys}
use Rattle.triple_arena.specs.Histories.{begun_with}
use Rattle.triple_arena_session_uses.proofs.strict_audit.audited_strictly.Goals as goal

pub returns-clause-new : goal.returns-clause-new
returns-clause-new c =
    IfOk-weaker c.run.result _ _ (λ replies fresh.
    (fresh.0, (fresh.1 (begun_with (keys c.args.session.now.arena.slots)) (c.run.ensures.stays.begun refl)).given_once)) (c.run.ensures.history refl)
