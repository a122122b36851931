use Rattle.std.proofs.Common.{subst}
use Rattle.triple_arena_chain.specs.Chains.{nodes, IsLinked}
use Rattle.triple_arena_chain.proofs.chains.Chains.len.Goals as goal

pub returns-clause-linked : goal.returns-clause-linked
returns-clause-linked g c = subst (λ s. IsLinked (nodes s)) c.self.view_is c.self.invariant
