use Rattle.std.proofs.Common.{◌≤◌, IsSome}
use Rattle.triple_arena_chain.specs.Chains.{nodes}
use Rattle.triple_arena_chain.specs.Endings.{EndsEntries}
use Rattle.triple_arena_chain.specs.Room.{KeepsRoom}
use Rattle.triple_arena_chain.proofs.Thinning.{IsThinned}
use Rattle.triple_arena_chain.proofs.chains.Chains.remove_chain.Given as goal

abbrev pub invariant-chain : goal.invariant-chain
invariant-chain g l = record {
  thin : IsThinned (nodes l.fn.self) (g.P.Ptr.numbers l.p) (nodes l.self);
  there : IsSome (nodes l.self (g.P.Ptr.numbers l.p));
  fewer : l.self.len ≤ l.all;
  room : KeepsRoom l.fn.self l.self;
  ended : EndsEntries g.A.ArenaStates.removes g.A.ArenaStates.with_value g.A.ArenaStates.fits g.P.Gen.PtrGen.generations g.A.ArenaStates.ending_wraps l.fn.self.arena l.wrapped l.self.arena;
}

abbrev pub decreases-chain : goal.decreases-chain
decreases-chain g l = l.self.len
