use Rattle.std.proofs.Common.{◌∙◌, refl, sym, ap}
use Rattle.triple_arena_base.specs.Held.{recast_answer}
use Rattle.triple_arena_direct_arena.specs.DirectState.{direct_with_value}
use Rattle.triple_arena_traits.specs.Walks.{keys, values}
use Rattle.triple_arena_traits.specs.Recasting.{recast_values}
use Rattle.triple_arena_traits.proofs.RecastSlots.{held_from, recast_refills, written_state}
use Rattle.triple_arena_direct_arena.proofs.recasting.DirectArenaRecast.recast.Goals as goal

pub returns-clause-after : goal.returns-clause-after
returns-clause-after g c =
    let s = c.args.self.now in
    let image = g.R.Recaster.image c.args.recaster.now in
    c.recast_entries.ensures.after
    ∙ written_state (λ s. s.slots) (λ s xs. record s { slots = xs }) direct_with_value (λ s. refl) (λ s i v. refl) (λ s xs. refl) (λ s xs ys. refl)
    (keys s.slots) (recast_values g.T.Recast.held g.T.Recast.refill image (values s.slots)) s
    ∙ ap (λ xs. record s { slots = xs }) (recast_refills g.T.Recast.held g.T.Recast.refill image s.slots)

pub returns-clause-answer : goal.returns-clause-answer
returns-clause-answer g c =
    c.recast_entries.ensures.answer
    ∙ ap (recast_answer (g.R.Recaster.image c.args.recaster.now)) (sym (held_from g.T.Recast.held g.T.Recast.refill 1 c.args.self.now.slots))
