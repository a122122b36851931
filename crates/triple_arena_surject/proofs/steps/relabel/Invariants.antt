use Rattle.std.proofs.Common.{◌≡◌, []}
use Rattle.triple_arena.specs.Histories.{Continues}
use Rattle.triple_arena_chain.specs.Chains.{nodes}
use Rattle.triple_arena_surject.proofs.Relabelling.{IsPart}
use Rattle.triple_arena_surject.proofs.steps.relabel.Given as goal

abbrev pub invariant-round : goal.invariant-round
invariant-round g l = record {
  part : IsPart g.P.Ptr.numbers (nodes l.fn.keys) (nodes l.keys) l.count (g.P.Ptr.numbers l.fn.from) (g.P.Ptr.numbers l.at) l.set l.turn;
  len : l.keys.len ≡ l.fn.keys.len;
  capacity : l.keys.capacity ≡ l.fn.keys.capacity;
  limit : l.keys.limit ≡ l.fn.keys.limit;
  history : Continues g.A.ArenaStates.fits l.fn.keys.arena [] l.keys.arena;
}
