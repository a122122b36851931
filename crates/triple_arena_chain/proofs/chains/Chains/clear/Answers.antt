use Rattle.std.proofs.Common.{ap, ◌∙◌}
use Rattle.triple_arena.specs.Entries.{look_up}
use Rattle.triple_arena_chain.specs.Chains.{ChainState, node_slots}
use Rattle.triple_arena_chain.proofs.Emptied.{none_read, nothing_linked}
use Rattle.triple_arena_chain.proofs.chains.Chains.clear.Goals as goal

pub invariant_of-self : goal.invariant_of-self
invariant_of-self g c =
    let slots = g.A.ArenaStates.slots c.clear.new.self in
    nothing_linked (look_up (node_slots g.P.Ptr.numbers slots)) (none_read g.P.Ptr.numbers slots c.clear.ensures.gone)

pub returns-clause-empty : goal.returns-clause-empty
returns-clause-empty g c =
    let old = c.self.inside.arena in
    let new = c.clear.new.self in
    record {
      none = none_read g.P.Ptr.numbers (g.A.ArenaStates.slots new) c.clear.ensures.gone;
      len = g.met.A.ArenaLaws.len_cleared old new c.clear.ensures.done;
      capacity = g.met.A.ArenaLaws.capacity_cleared old new c.clear.ensures.done ∙ ap (λ (s : ChainState g.row.A.Denot g.row.T.Denot). s.capacity) c.self.view_is;
      limit = g.met.A.ArenaLaws.limit_cleared old new c.clear.ensures.done ∙ ap (λ (s : ChainState g.row.A.Denot g.row.T.Denot). s.limit) c.self.view_is;
    }
