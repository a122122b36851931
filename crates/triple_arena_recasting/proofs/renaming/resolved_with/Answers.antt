use Rattle.std.specs.Result.{IfErr}
use Rattle.std.proofs.Common.{rules, sym, ◌∙◌}
use Rattle.triple_arena_base.specs.Held.{held_all}
use Rattle.triple_arena_traits.specs.Entries.{look_up, entry_count}
use Rattle.triple_arena_traits.specs.Walks.{values}
use Rattle.triple_arena_recasting.specs.Renaming.{first_unresolved, Refuses}
use Rattle.triple_arena_recasting.specs.laws.RenamingLaws.{first_before, first_behind}
use Rattle.triple_arena_recasting.proofs.Resolving.{all_resolved, one_unresolved, holder_stays, refuses_more}
use Rattle.triple_arena_recasting.proofs.renaming.resolved_with.Goals as goal

pub returns-in_err-all-clause-refusal : goal.returns-in_err-all-clause-refusal
returns-in_err-all-clause-refusal g c unlimited =
    let refused = c.in_err-all.ensures.refusal unlimited in
    let slots = g.A.ArenaStates.slots c.args.this.now in
    let first = first_unresolved g.P.Ptr.numbers slots (held_all g.T.Recast.held (values slots)) in
    let refuses : IfErr c.from_residual.result (Refuses (entry_count slots) first) = search rules in
    refuses_more (entry_count slots) first _ (first_before g.P.Ptr.numbers slots (held_all g.T.Recast.held (values slots)) (g.H.Recast.held c.args.holder.now)) c.from_residual.result refuses

pub returns-in-Err-clause-refusal : goal.returns-in-Err-clause-refusal
returns-in-Err-clause-refusal g c unlimited =
    let slots = g.A.ArenaStates.slots c.args.this.now in
    let held = g.H.Recast.held c.args.holder.now in
    first_behind g.P.Ptr.numbers slots (held_all g.T.Recast.held (values slots)) held c.in_ok-all.ensures.resolved
    ∙ one_unresolved g.P.Ptr.numbers slots (λ p. look_up c.in_ok-all.all.slots (g.P.Ptr.numbers p)) c.in_ok-all.ensures.own held c.in-Err.p (sym c.in-Err.ensures.answer)

pub returns-in-Err-clause-holder_unchanged : goal.returns-in-Err-clause-holder_unchanged
returns-in-Err-clause-holder_unchanged g c =
    let slots = g.A.ArenaStates.slots c.args.this.now in
    holder_stays g.P.Ptr.numbers slots g.H.Recast.held g.H.Recast.refill g.met.H.Recast.refill_held (λ p. look_up c.in_ok-all.all.slots (g.P.Ptr.numbers p)) c.in_ok-all.ensures.own c.args.holder.now c.recast.new.self c.recast.ensures.after

pub returns-in-Ok-clause-holder_unchanged : goal.returns-in-Ok-clause-holder_unchanged
returns-in-Ok-clause-holder_unchanged g c =
    let slots = g.A.ArenaStates.slots c.args.this.now in
    holder_stays g.P.Ptr.numbers slots g.H.Recast.held g.H.Recast.refill g.met.H.Recast.refill_held (λ p. look_up c.in_ok-all.all.slots (g.P.Ptr.numbers p)) c.in_ok-all.ensures.own c.args.holder.now c.recast.new.self c.recast.ensures.after

pub returns-in-Ok-clause-resolved : goal.returns-in-Ok-clause-resolved
returns-in-Ok-clause-resolved g c =
    let slots = g.A.ArenaStates.slots c.args.this.now in
    let held = g.H.Recast.held c.args.holder.now in
    first_behind g.P.Ptr.numbers slots (held_all g.T.Recast.held (values slots)) held c.in_ok-all.ensures.resolved
    ∙ all_resolved g.P.Ptr.numbers slots (λ p. look_up c.in_ok-all.all.slots (g.P.Ptr.numbers p)) c.in_ok-all.ensures.own held (sym c.in-Ok.ensures.answer)
