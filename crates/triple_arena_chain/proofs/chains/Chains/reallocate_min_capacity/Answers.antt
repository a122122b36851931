use Rattle.std.proofs.Common.{◌≡◌, sym, ap, ◌∙◌, subst}
use Rattle.std.specs.Prelude.{OnErr}
use Rattle.triple_arena.specs.Entries.{look_up, KeepsEntries}
use Rattle.triple_arena_chain.specs.Chains.{ChainState, node_slots, chains_in}
use Rattle.triple_arena_chain.specs.Room.{KeepsNodes}
use Rattle.triple_arena_chain.specs.laws.ResultLaws.{on_either}
use Rattle.triple_arena_chain.proofs.Emptied.{kept_nodes, linked_same}
use Rattle.triple_arena_chain.proofs.chains.Chains.reallocate_min_capacity.Goals as goal
use Rattle.triple_arena_chain.proofs.chains.Chains.reallocate_min_capacity.Goals.{in-Ok, in-Err-BeyondMaxCapacity, in-Err-AllocError}

pub invariant_of-self : goal.invariant_of-self
invariant_of-self g c =
    let old = c.self.inside.arena in
    let new = c.reallocate_min_capacity.new.self in
    let call = c.reallocate_min_capacity.ensures in
    let keeps : KeepsEntries (g.A.ArenaStates.slots old) (g.A.ArenaStates.slots new) =
    on_either _ _ _ c.reallocate_min_capacity.result call.done call.refused (g.met.A.ArenaTrait.slots_reallocated old c.args.min_capacity new) (g.met.A.ArenaLaws.slots_tidied old c.args.min_capacity new) in
    linked_same (look_up (node_slots g.P.Ptr.numbers (g.A.ArenaStates.slots old))) (look_up (node_slots g.P.Ptr.numbers (g.A.ArenaStates.slots new))) (kept_nodes g.P.Ptr.numbers _ _ keeps) c.self.invariant

pub returns-clause-entries : goal.returns-clause-entries
returns-clause-entries g c =
    let old = c.self.inside.arena in
    let new = c.reallocate_min_capacity.new.self in
    let call = c.reallocate_min_capacity.ensures in
    let keeps : KeepsEntries (g.A.ArenaStates.slots old) (g.A.ArenaStates.slots new) =
    on_either _ _ _ c.reallocate_min_capacity.result call.done call.refused (g.met.A.ArenaTrait.slots_reallocated old c.args.min_capacity new) (g.met.A.ArenaLaws.slots_tidied old c.args.min_capacity new) in
    subst (λ s. KeepsNodes s (chains_in g.P.Ptr.numbers g.A.ArenaStates.slots g.A.ArenaStates.capacity g.A.ArenaStates.limit new)) c.self.view_is (record {
      found = kept_nodes g.P.Ptr.numbers (g.A.ArenaStates.slots old) (g.A.ArenaStates.slots new) keeps;
      len = on_either _ _ _ c.reallocate_min_capacity.result call.done call.refused (g.met.A.ArenaTrait.len_reallocated old c.args.min_capacity new) (g.met.A.ArenaLaws.len_tidied old c.args.min_capacity new);
      limit = on_either _ _ _ c.reallocate_min_capacity.result call.done call.refused (g.met.A.ArenaTrait.limit_reallocated old c.args.min_capacity new) (g.met.A.ArenaLaws.limit_tidied old c.args.min_capacity new);
    })

pub returns-clause-capacity : goal.returns-clause-capacity
returns-clause-capacity g c =
    let old = c.self.inside.arena in
    let new = c.reallocate_min_capacity.new.self in
    let refused = c.reallocate_min_capacity.ensures.refused in
    let stays : g.A.ArenaStates.tidies old c.args.min_capacity new → g.A.ArenaStates.capacity new ≡ c.args.self.now.capacity =
    λ tidied. g.met.A.ArenaLaws.capacity_tidied old c.args.min_capacity new tidied ∙ ap (λ (s : ChainState g.row.A.Denot g.row.T.Denot). s.capacity) c.self.view_is in
    elim c.match-reallocate_min_capacity.branch [
      | in-Ok w ↦ subst (λ r. OnErr r (g.A.ArenaStates.capacity new ≡ c.args.self.now.capacity)) (sym w.result-is) tt
      | in-Err-BeyondMaxCapacity w ↦ subst (λ r. OnErr r (g.A.ArenaStates.capacity new ≡ c.args.self.now.capacity)) (sym w.result-is) (stays (subst (λ r. OnErr r (g.A.ArenaStates.tidies old c.args.min_capacity new)) w.in-Err-BeyondMaxCapacity.is refused))
      | in-Err-AllocError w ↦ subst (λ r. OnErr r (g.A.ArenaStates.capacity new ≡ c.args.self.now.capacity)) (sym w.result-is) (stays (subst (λ r. OnErr r (g.A.ArenaStates.tidies old c.args.min_capacity new)) w.in-Err-AllocError.is refused))
    ]
