use Rattle.std.proofs.Common.{get_or, ap, sym, ◌∙◌, arith}
use Rattle.triple_arena_base.proofs.RecastSteps.{err_is, step_ok, step_err}
use Rattle.triple_arena_base.proofs.recast_impls.recast_slice.Goals as goal

pub returns-in_err-recast-clause-after : goal.returns-in_err-recast-clause-after
returns-in_err-recast-clause-after g c =
    (step_err g.T.Recast.held g.T.Recast.refill g.met.T.Recast.refill_held (g.R.Recaster.image c.args.recaster.now) c.loop-x.items _ c.loop-x.x-index
    (get_or c.loop-x.items c.loop-x.x-index c.x-item.result) c.recast.new.self _ (omega arith) (ap (λ z. get_or c.loop-x.items c.loop-x.x-index z) c.x-item.is)
    c.loop-x.invariant.0 c.loop-x.invariant.1 c.recast.ensures.after _ (sym c.recast.ensures.answer ∙ c.in_err-recast.was)).0

pub returns-in_err-recast-clause-answer : goal.returns-in_err-recast-clause-answer
returns-in_err-recast-clause-answer g c =
    let e = (step_err g.T.Recast.held g.T.Recast.refill g.met.T.Recast.refill_held (g.R.Recaster.image c.args.recaster.now) c.loop-x.items _ c.loop-x.x-index
    (get_or c.loop-x.items c.loop-x.x-index c.x-item.result) c.recast.new.self _ (omega arith) (ap (λ z. get_or c.loop-x.items c.loop-x.x-index z) c.x-item.is)
    c.loop-x.invariant.0 c.loop-x.invariant.1 c.recast.ensures.after _ (sym c.recast.ensures.answer ∙ c.in_err-recast.was)).1 in
    err_is c.from_residual.result c.in_err-recast.field-0.0 c.from_residual.ensures.1 ∙ e

pub loop-x-preserved : goal.loop-x-preserved
loop-x-preserved g c =
    step_ok g.T.Recast.held g.T.Recast.refill g.met.T.Recast.refill_held (g.R.Recaster.image c.args.recaster.now) c.loop-x.items _ c.loop-x.x-index
    (get_or c.loop-x.items c.loop-x.x-index c.x-item.result) c.recast.new.self _ (omega arith) (ap (λ z. get_or c.loop-x.items c.loop-x.x-index z) c.x-item.is)
    c.loop-x.invariant.0 c.loop-x.invariant.1 c.recast.ensures.after (sym c.recast.ensures.answer ∙ c.in_ok-recast.was)
