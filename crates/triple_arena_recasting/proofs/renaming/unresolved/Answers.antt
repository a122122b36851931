use Rattle.std.proofs.Common.{Option, refl, ap, ◌∙◌}
use Rattle.std.specs.Option.{option_map}
use Rattle.std.specs.Result.{result_err}
use Rattle.triple_arena_traits.specs.Entries.{look_up}
use Rattle.triple_arena_recasting.proofs.Resolving.{holder_stays, answer_error}
use Rattle.triple_arena_recasting.proofs.renaming.unresolved.Goals as goal

pub returns-clause-first : goal.returns-clause-first
returns-clause-first g c =
    let slots = g.A.ArenaStates.slots c.args.this.now in
    let image : g.row.P.Denot → Option g.row.P.Denot = λ p. option_map (λ _. p) (look_up slots (g.P.Ptr.numbers p)) in
    c.err.ensures.value ∙ ap result_err c.recast.ensures.answer ∙ answer_error g.P.Ptr.numbers slots image (λ p. refl) (g.H.Recast.held c.args.holder.now)

pub returns-clause-unchanged : goal.returns-clause-unchanged
returns-clause-unchanged g c =
    let slots = g.A.ArenaStates.slots c.args.this.now in
    holder_stays g.P.Ptr.numbers slots g.H.Recast.held g.H.Recast.refill g.met.H.Recast.refill_held (λ p. option_map (λ _. p) (look_up slots (g.P.Ptr.numbers p))) (λ p. refl) c.args.holder.now c.recast.new.self c.recast.ensures.after
