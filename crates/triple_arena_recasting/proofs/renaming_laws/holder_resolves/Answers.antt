use Rattle.triple_arena_base.specs.Held.{held_all}
use Rattle.triple_arena_traits.specs.Walks.{values}
use Rattle.triple_arena_recasting.specs.laws.ImageLaws.{three_resolved}
use Rattle.triple_arena_recasting.specs.laws.RenamingLaws.{held_resolve, resolved_live}
use Rattle.triple_arena_recasting.proofs.renaming_laws.holder_resolves.Goals as goal

pub returns-clause-all : goal.returns-clause-all
returns-clause-all g c = λ slots holders holder none.
    held_resolve g.U.Recast.held g.P.Ptr.numbers slots holders
    (three_resolved g.P.Ptr.numbers slots (held_all g.T.Recast.held (values slots)) (held_all g.U.Recast.held (values holders)) (g.H.Recast.held holder) none).1

pub returns-clause-holder : goal.returns-clause-holder
returns-clause-holder g c = λ slots holders holder none p.
    resolved_live g.P.Ptr.numbers slots (g.H.Recast.held holder) p
    (three_resolved g.P.Ptr.numbers slots (held_all g.T.Recast.held (values slots)) (held_all g.U.Recast.held (values holders)) (g.H.Recast.held holder) none).2
