use Rattle.std.proofs.Common.{◌≡◌, refl, subst}
use Rattle.triple_arena_stack.specs.Capacity.{IsWithin}
use Rattle.triple_arena_chain.specs.Chains.{chains_in}
use Rattle.triple_arena_chain.proofs.chains.Chains.capacity.Goals as goal

pub returns-clause-arena : goal.returns-clause-arena
returns-clause-arena g c = subst (λ s. s ≡ chains_in g.P.Ptr.numbers g.A.ArenaStates.slots g.A.ArenaStates.capacity g.A.ArenaStates.limit s.arena) c.self.view_is refl

pub returns-clause-allowed : goal.returns-clause-allowed
returns-clause-allowed g c = subst (λ s. IsWithin s.limit c.capacity.result) c.self.view_is c.capacity.ensures.allowed
