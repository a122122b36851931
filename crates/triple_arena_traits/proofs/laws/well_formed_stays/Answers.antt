use Rattle.triple_arena_traits.specs.laws.StepLaws.{with_value_stays, invalidated_stays, removed_stays, cleared_stays, reallocated_stays, with_limit_stays, IsWellFormed-laid_out, IsWellFormed-tidied}
use Rattle.triple_arena_traits.specs.laws.ValueLaws.{IsWellFormed-kept}
use Rattle.triple_arena_traits.specs.laws.WellFormedLaws.{IsWellFormed-empty, IsWellFormed-inserted, IsWellFormed-counter}
use Rattle.triple_arena_traits.proofs.FreeEnd.{IsWellFormed-without_free_end}
use Rattle.triple_arena_traits.specs.laws.EntryLaws.{well_formed-grown}
use Rattle.triple_arena_traits.proofs.laws.well_formed_stays.Goals as goal

pub returns-clause-new : goal.returns-clause-new
returns-clause-new g c = IsWellFormed-empty

pub returns-clause-inserted : goal.returns-clause-inserted
returns-clause-inserted g c = IsWellFormed-inserted

pub returns-clause-with_value : goal.returns-clause-with_value
returns-clause-with_value g c = with_value_stays

pub returns-clause-invalidated : goal.returns-clause-invalidated
returns-clause-invalidated g c = invalidated_stays

pub returns-clause-removed : goal.returns-clause-removed
returns-clause-removed g c = removed_stays

pub returns-clause-cleared : goal.returns-clause-cleared
returns-clause-cleared g c = cleared_stays

pub returns-clause-tidied : goal.returns-clause-tidied
returns-clause-tidied g c = IsWellFormed-tidied

pub returns-clause-without_free_end : goal.returns-clause-without_free_end
returns-clause-without_free_end g c = IsWellFormed-without_free_end

pub returns-clause-reallocated : goal.returns-clause-reallocated
returns-clause-reallocated g c = reallocated_stays

pub returns-clause-with_limit : goal.returns-clause-with_limit
returns-clause-with_limit g c = with_limit_stays

pub returns-clause-grown : goal.returns-clause-grown
returns-clause-grown g c = well_formed-grown

pub returns-clause-counter : goal.returns-clause-counter
returns-clause-counter g c = IsWellFormed-counter

pub returns-clause-with_values_of : goal.returns-clause-with_values_of
returns-clause-with_values_of g c = IsWellFormed-kept

pub returns-clause-laid_out : goal.returns-clause-laid_out
returns-clause-laid_out g c = IsWellFormed-laid_out
