use Rattle.std.proofs.Common.{ap, sym, ◌∙◌}
use Rattle.triple_arena_base.specs.HeldPairs.{held_both, refill_both, both_refill_held, both_ok, both_err}
use Rattle.triple_arena_base.proofs.RecastSteps.{err_is}
use Rattle.triple_arena_recasting.proofs.three_parts.recast_three.Goals as goal

pub returns-in_err-recast-clause-first : goal.returns-in_err-recast-clause-first
returns-in_err-recast-clause-first g c =
    let held = held_both g.B.Recast.held g.B.Recast.refill g.C.Recast.held g.C.Recast.refill in
    let refill = refill_both g.B.Recast.held g.B.Recast.refill g.C.Recast.held g.C.Recast.refill in
    let err = both_err g.A.Recast.held g.A.Recast.refill held refill (both_refill_held g.B.Recast.held g.B.Recast.refill g.C.Recast.held g.C.Recast.refill g.met.B.Recast.refill_held g.met.C.Recast.refill_held)
    (g.R.Recaster.image c.args.recaster.now) (c.args.first.now, (c.args.second.now, c.args.third.now)) _ (sym c.recast.ensures.answer ∙ c.in_err-recast.was) in
    c.recast.ensures.after ∙ ap (λ parts. parts.0) (sym err.0)

pub returns-in_err-recast-clause-second : goal.returns-in_err-recast-clause-second
returns-in_err-recast-clause-second g c =
    let held = held_both g.B.Recast.held g.B.Recast.refill g.C.Recast.held g.C.Recast.refill in
    let refill = refill_both g.B.Recast.held g.B.Recast.refill g.C.Recast.held g.C.Recast.refill in
    let err = both_err g.A.Recast.held g.A.Recast.refill held refill (both_refill_held g.B.Recast.held g.B.Recast.refill g.C.Recast.held g.C.Recast.refill g.met.B.Recast.refill_held g.met.C.Recast.refill_held)
    (g.R.Recaster.image c.args.recaster.now) (c.args.first.now, (c.args.second.now, c.args.third.now)) _ (sym c.recast.ensures.answer ∙ c.in_err-recast.was) in
    ap (λ parts. parts.1.0) (sym err.0)

pub returns-in_err-recast-clause-third : goal.returns-in_err-recast-clause-third
returns-in_err-recast-clause-third g c =
    let held = held_both g.B.Recast.held g.B.Recast.refill g.C.Recast.held g.C.Recast.refill in
    let refill = refill_both g.B.Recast.held g.B.Recast.refill g.C.Recast.held g.C.Recast.refill in
    let err = both_err g.A.Recast.held g.A.Recast.refill held refill (both_refill_held g.B.Recast.held g.B.Recast.refill g.C.Recast.held g.C.Recast.refill g.met.B.Recast.refill_held g.met.C.Recast.refill_held)
    (g.R.Recaster.image c.args.recaster.now) (c.args.first.now, (c.args.second.now, c.args.third.now)) _ (sym c.recast.ensures.answer ∙ c.in_err-recast.was) in
    ap (λ parts. parts.1.1) (sym err.0)

pub returns-in_err-recast-clause-answer : goal.returns-in_err-recast-clause-answer
returns-in_err-recast-clause-answer g c =
    let held = held_both g.B.Recast.held g.B.Recast.refill g.C.Recast.held g.C.Recast.refill in
    let refill = refill_both g.B.Recast.held g.B.Recast.refill g.C.Recast.held g.C.Recast.refill in
    let err = both_err g.A.Recast.held g.A.Recast.refill held refill (both_refill_held g.B.Recast.held g.B.Recast.refill g.C.Recast.held g.C.Recast.refill g.met.B.Recast.refill_held g.met.C.Recast.refill_held)
    (g.R.Recaster.image c.args.recaster.now) (c.args.first.now, (c.args.second.now, c.args.third.now)) _ (sym c.recast.ensures.answer ∙ c.in_err-recast.was) in
    err_is c.from_residual.result c.in_err-recast.field-0.0 c.from_residual.ensures.1 ∙ sym err.1

pub returns-clause-first : goal.returns-clause-first
returns-clause-first g c =
    let held = held_both g.B.Recast.held g.B.Recast.refill g.C.Recast.held g.C.Recast.refill in
    let refill = refill_both g.B.Recast.held g.B.Recast.refill g.C.Recast.held g.C.Recast.refill in
    let ok = both_ok g.A.Recast.held g.A.Recast.refill held refill (g.R.Recaster.image c.args.recaster.now) (c.args.first.now, (c.args.second.now, c.args.third.now)) (sym c.recast.ensures.answer ∙ c.in_ok-recast.was) in
    c.recast.ensures.after ∙ ap (λ parts. parts.0) (sym ok.0)

pub returns-clause-second : goal.returns-clause-second
returns-clause-second g c =
    let held = held_both g.B.Recast.held g.B.Recast.refill g.C.Recast.held g.C.Recast.refill in
    let refill = refill_both g.B.Recast.held g.B.Recast.refill g.C.Recast.held g.C.Recast.refill in
    let ok = both_ok g.A.Recast.held g.A.Recast.refill held refill (g.R.Recaster.image c.args.recaster.now) (c.args.first.now, (c.args.second.now, c.args.third.now)) (sym c.recast.ensures.answer ∙ c.in_ok-recast.was) in
    c.recast_both.ensures.first ∙ ap (λ parts. parts.1.0) (sym ok.0)

pub returns-clause-third : goal.returns-clause-third
returns-clause-third g c =
    let held = held_both g.B.Recast.held g.B.Recast.refill g.C.Recast.held g.C.Recast.refill in
    let refill = refill_both g.B.Recast.held g.B.Recast.refill g.C.Recast.held g.C.Recast.refill in
    let ok = both_ok g.A.Recast.held g.A.Recast.refill held refill (g.R.Recaster.image c.args.recaster.now) (c.args.first.now, (c.args.second.now, c.args.third.now)) (sym c.recast.ensures.answer ∙ c.in_ok-recast.was) in
    c.recast_both.ensures.second ∙ ap (λ parts. parts.1.1) (sym ok.0)

pub returns-clause-answer : goal.returns-clause-answer
returns-clause-answer g c =
    let held = held_both g.B.Recast.held g.B.Recast.refill g.C.Recast.held g.C.Recast.refill in
    let refill = refill_both g.B.Recast.held g.B.Recast.refill g.C.Recast.held g.C.Recast.refill in
    let ok = both_ok g.A.Recast.held g.A.Recast.refill held refill (g.R.Recaster.image c.args.recaster.now) (c.args.first.now, (c.args.second.now, c.args.third.now)) (sym c.recast.ensures.answer ∙ c.in_ok-recast.was) in
    c.recast_both.ensures.answer ∙ sym ok.1
