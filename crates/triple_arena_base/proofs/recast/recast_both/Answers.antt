use Rattle.std.proofs.Common.{ap, sym, ◌∙◌}
use Rattle.triple_arena_base.specs.HeldPairs.{both_ok, both_err}
use Rattle.triple_arena_base.proofs.RecastSteps.{err_is}
use Rattle.triple_arena_base.proofs.recast.recast_both.Goals as goal

pub returns-in_err-recast-clause-first : goal.returns-in_err-recast-clause-first
returns-in_err-recast-clause-first g c =
    c.recast.ensures.after
    ∙ ap (λ parts. parts.0) (sym (both_err g.A.Recast.held g.A.Recast.refill g.B.Recast.held g.B.Recast.refill g.met.B.Recast.refill_held (g.R.Recaster.image c.args.recaster.now) (c.args.first.now, c.args.second.now) _ (sym c.recast.ensures.answer ∙ c.in_err-recast.was)).0)

pub returns-in_err-recast-clause-second : goal.returns-in_err-recast-clause-second
returns-in_err-recast-clause-second g c =
    ap (λ parts. parts.1) (sym (both_err g.A.Recast.held g.A.Recast.refill g.B.Recast.held g.B.Recast.refill g.met.B.Recast.refill_held (g.R.Recaster.image c.args.recaster.now) (c.args.first.now, c.args.second.now) _ (sym c.recast.ensures.answer ∙ c.in_err-recast.was)).0)

pub returns-in_err-recast-clause-answer : goal.returns-in_err-recast-clause-answer
returns-in_err-recast-clause-answer g c =
    err_is c.from_residual.result c.in_err-recast.field-0.0 c.from_residual.ensures.1
    ∙ sym (both_err g.A.Recast.held g.A.Recast.refill g.B.Recast.held g.B.Recast.refill g.met.B.Recast.refill_held (g.R.Recaster.image c.args.recaster.now) (c.args.first.now, c.args.second.now) _ (sym c.recast.ensures.answer ∙ c.in_err-recast.was)).1

pub returns-clause-first : goal.returns-clause-first
returns-clause-first g c =
    c.recast.ensures.after
    ∙ ap (λ parts. parts.0) (sym (both_ok g.A.Recast.held g.A.Recast.refill g.B.Recast.held g.B.Recast.refill (g.R.Recaster.image c.args.recaster.now) (c.args.first.now, c.args.second.now) (sym c.recast.ensures.answer ∙ c.in_ok-recast.was)).0)

pub returns-clause-second : goal.returns-clause-second
returns-clause-second g c =
    c.recast-2.ensures.after
    ∙ ap (λ parts. parts.1) (sym (both_ok g.A.Recast.held g.A.Recast.refill g.B.Recast.held g.B.Recast.refill (g.R.Recaster.image c.args.recaster.now) (c.args.first.now, c.args.second.now) (sym c.recast.ensures.answer ∙ c.in_ok-recast.was)).0)

pub returns-clause-answer : goal.returns-clause-answer
returns-clause-answer g c =
    c.recast-2.ensures.answer
    ∙ sym (both_ok g.A.Recast.held g.A.Recast.refill g.B.Recast.held g.B.Recast.refill (g.R.Recaster.image c.args.recaster.now) (c.args.first.now, c.args.second.now) (sym c.recast.ensures.answer ∙ c.in_ok-recast.was)).1
