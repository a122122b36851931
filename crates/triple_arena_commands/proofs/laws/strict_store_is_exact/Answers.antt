use Rattle.triple_arena_commands.specs.laws.StrictStoreLaws.{ExhaustedExactly, StrictIsStores, StrictCounts, StrictIsQuiet}
use Rattle.triple_arena_commands.proofs.laws.strict_store_is_exact.Goals as goal

pub returns-clause-exhausted : goal.returns-clause-exhausted
returns-clause-exhausted g c = ExhaustedExactly

pub returns-clause-stores : goal.returns-clause-stores
returns-clause-stores g c = StrictIsStores

pub returns-clause-quiet : goal.returns-clause-quiet
returns-clause-quiet g c = StrictIsQuiet

pub returns-clause-counted : goal.returns-clause-counted
returns-clause-counted g c = StrictCounts
