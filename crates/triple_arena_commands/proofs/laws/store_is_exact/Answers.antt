use Rattle.triple_arena_commands.proofs.StoreExactly.{FullExactly, FoundExactly, NothingExactly, UnresolvedExactly, RepliesExactly}
use Rattle.triple_arena_commands.proofs.laws.store_is_exact.Goals as goal

pub returns-clause-full : goal.returns-clause-full
returns-clause-full g c = FullExactly

pub returns-clause-found : goal.returns-clause-found
returns-clause-found g c = FoundExactly

pub returns-clause-nothing : goal.returns-clause-nothing
returns-clause-nothing g c = NothingExactly

pub returns-clause-unresolved : goal.returns-clause-unresolved
returns-clause-unresolved g c = UnresolvedExactly

pub returns-clause-replies : goal.returns-clause-replies
returns-clause-replies g c = RepliesExactly
