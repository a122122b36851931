use Rattle.std.proofs.Common.{◌≡◌, length, map}
use Rattle.triple_arena_chain.specs.Chains.{nodes}
use Rattle.triple_arena_surject.proofs.Relabelling.{IsAlong}
use Rattle.triple_arena_surject.proofs.steps.ring.Given as goal

abbrev pub invariant-walk : goal.invariant-walk
invariant-walk g l = record {
  along : IsAlong g.P.Ptr.numbers (nodes l.keys) l.count (g.P.Ptr.numbers l.fn.from) (g.P.Ptr.numbers l.at) (map g.P.Ptr.numbers l.all.items);
  count : length l.all.items ≡ l.turn;
}
