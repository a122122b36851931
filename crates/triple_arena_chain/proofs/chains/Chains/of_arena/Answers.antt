use Rattle.triple_arena.specs.Entries.{look_up}
use Rattle.std.proofs.Common.{refl}
use Rattle.triple_arena_chain.specs.Chains.{node_slots}
use Rattle.triple_arena_chain.proofs.Emptied.{none_in_empty, nothing_linked}
use Rattle.triple_arena_chain.proofs.chains.Chains.of_arena.Goals as goal

pub invariant_of-result : goal.invariant_of-result
invariant_of-result g c =
    let slots = g.A.ArenaStates.slots c.args.arena in
    nothing_linked (look_up (node_slots g.P.Ptr.numbers slots)) (none_in_empty g.P.Ptr.numbers slots c.requires)

pub returns-clause-empty : goal.returns-clause-empty
returns-clause-empty g c = record {
  none = none_in_empty g.P.Ptr.numbers (g.A.ArenaStates.slots c.args.arena) c.requires;
  len = c.requires;
  capacity = refl;
  limit = refl;
}
