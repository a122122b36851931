use Rattle.std.proofs.Common.{◌≡◌}
use Rattle.triple_arena_base.specs.Held.{held_all}
use Rattle.triple_arena_traits.specs.HeldSlots.{held_slots}
use Rattle.triple_arena_traits.specs.Walks.{values}
use Rattle.triple_arena_recasting.specs.laws.RenamingLaws.{front_resolved, held_resolve, held_values}
use Rattle.triple_arena_recasting.proofs.Relations.{stray_beside}
use Rattle.triple_arena_recasting.proofs.renaming_laws.relations_resolve.Goals as goal

pub returns-clause-all : goal.returns-clause-all
returns-clause-all g c = λ slots holders none.
    held_resolve g.U.Recast.held g.P.Ptr.numbers slots holders
    (front_resolved g.P.Ptr.numbers slots (held_all g.T.Recast.held (values slots)) (held_all g.U.Recast.held (values holders)) none).1

pub returns-clause-all_with : goal.returns-clause-all_with
returns-clause-all_with g c = λ slots holders none.
    let same : held_slots g.U.Recast.held g.U.Recast.refill holders ≡ held_all g.U.Recast.held (values holders) =
    held_values g.P.Ptr.numbers (λ p. p) g.U.Recast.held g.U.Recast.refill g.met.U.Recast.held_refill 1 holders in
    returns-clause-all g c slots holders (rw same at none)

pub returns-clause-stray_with : goal.returns-clause-stray_with
returns-clause-stray_with g c = λ nothing slots holders refusal refuses.
    let same : held_slots g.U.Recast.held g.U.Recast.refill holders ≡ held_all g.U.Recast.held (values holders) =
    held_values g.P.Ptr.numbers (λ p. p) g.U.Recast.held g.U.Recast.refill g.met.U.Recast.held_refill 1 holders in
    stray_beside g.T.Recast.held nothing g.P.Ptr.numbers g.U.Recast.held slots holders (values slots) refusal (rw same at refuses)
