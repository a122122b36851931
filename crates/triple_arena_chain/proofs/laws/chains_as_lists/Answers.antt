use Rattle.triple_arena_chain.specs.laws.RunLaws.{inserted_after, inserted_elsewhere, removed_run, moved_run}
use Rattle.triple_arena_chain.proofs.Joints.{inserted_before}
use Rattle.triple_arena_chain.proofs.laws.chains_as_lists.Goals as goal

pub returns-clause-inserted : goal.returns-clause-inserted
returns-clause-inserted g c = inserted_after

pub returns-clause-others : goal.returns-clause-others
returns-clause-others g c = inserted_elsewhere

pub returns-clause-removed : goal.returns-clause-removed
returns-clause-removed g c = removed_run

pub returns-clause-moved : goal.returns-clause-moved
returns-clause-moved g c = moved_run

pub returns-clause-inserted_before : goal.returns-clause-inserted_before
returns-clause-inserted_before g c = inserted_before
