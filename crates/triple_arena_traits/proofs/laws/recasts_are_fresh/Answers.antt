use Rattle.triple_arena_traits.specs.laws.HistoryLaws.{Continues-refilled}
use Rattle.triple_arena_traits.specs.laws.ValueLaws.{IsWellFormed-refilled}
use Rattle.triple_arena_traits.proofs.laws.recasts_are_fresh.Goals as goal

pub returns-clause-history : goal.returns-clause-history
returns-clause-history g c = Continues-refilled g.T.Recast.held g.T.Recast.refill

pub returns-clause-well_formed : goal.returns-clause-well_formed
returns-clause-well_formed g c = IsWellFormed-refilled g.T.Recast.held g.T.Recast.refill
