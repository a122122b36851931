use Rattle.triple_arena_commands.proofs.StoreExactly.{NextIsGiven, EndedStays}
use Rattle.triple_arena_commands.proofs.laws.names_are_new.Goals as goal

pub returns-clause-next : goal.returns-clause-next
returns-clause-next g c = NextIsGiven

pub returns-clause-ended : goal.returns-clause-ended
returns-clause-ended g c = EndedStays
