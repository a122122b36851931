use Rattle.triple_arena_recasting.specs.laws.RenamingLaws.{held_resolve, refuses_stray, held_values}
use Rattle.triple_arena_recasting.proofs.renaming_laws.arenas_resolve.Goals as goal

pub returns-clause-all : goal.returns-clause-all
returns-clause-all g c = λ slots holders none. held_resolve g.U.Recast.held g.P.Ptr.numbers slots holders none

pub returns-clause-stray : goal.returns-clause-stray
returns-clause-stray g c = λ slots holders refusal refuses. refuses_stray g.U.Recast.held g.P.Ptr.numbers slots holders refusal refuses

pub returns-clause-same : goal.returns-clause-same
returns-clause-same g c = λ holders. held_values g.P.Ptr.numbers (λ p. p) g.U.Recast.held g.U.Recast.refill g.met.U.Recast.held_refill 1 holders
