use Rattle.std.proofs.Common.{subst}
use Rattle.triple_arena_chain.specs.Chains.{nodes, value_at, chains_in}
use Rattle.triple_arena_chain.specs.Endings.{EndsEntry}
use Rattle.triple_arena_chain.specs.Room.{KeepsRoom, TellsValue}
use Rattle.triple_arena_chain.specs.laws.LinkLaws.{linked_removed}
use Rattle.triple_arena_chain.proofs.chains.Chains.remove.Goals as goal

pub invariant_of-self : goal.invariant_of-self
invariant_of-self g c = linked_removed _ _ _ c.self.invariant c.unlink.ensures.removed

pub returns-clause-answer : goal.returns-clause-answer
returns-clause-answer g c = subst (λ s. TellsValue (g.A.ArenaStates.ending_wraps s.arena) (value_at (nodes s) (g.P.Ptr.numbers c.args.p)) c.unlink.result) c.self.view_is c.unlink.ensures.answer

pub returns-clause-ended : goal.returns-clause-ended
returns-clause-ended g c =
    subst (λ s. EndsEntry g.A.ArenaStates.removes g.A.ArenaStates.with_value g.A.ArenaStates.fits g.P.Gen.PtrGen.generations (g.A.ArenaStates.ending_wraps s.arena) s.arena (g.P.Ptr.numbers c.args.p) c.unlink.new.arena)
    c.self.view_is c.unlink.ensures.ended

pub returns-clause-room : goal.returns-clause-room
returns-clause-room g c = subst (λ s. KeepsRoom s (chains_in g.P.Ptr.numbers g.A.ArenaStates.slots g.A.ArenaStates.capacity g.A.ArenaStates.limit c.unlink.new.arena)) c.self.view_is c.unlink.ensures.room
