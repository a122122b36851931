use Rattle.std.proofs.Common.{false, ◌<◌, refl, sym, subst}
use Rattle.triple_arena.specs.Entries.{look_up, entry_count}
use Rattle.triple_arena_chain.specs.Chains.{node_slots, IsLinked}
use Rattle.triple_arena_chain.proofs.Moving.{linked_moved, is_moved, packed, maps_chains, only_memory}
use Rattle.triple_arena_chain.specs.laws.ResultLaws.{if_refused, on_err}
use Rattle.triple_arena_chain.proofs.chains.Chains.compress.Goals as goal

pub invariant_of-self : goal.invariant_of-self
invariant_of-self g c =
    subst (λ a. IsLinked (look_up (node_slots g.P.Ptr.numbers (g.A.ArenaStates.slots a)))) (sym (on_err _ c.compress_recast.result c.compress_recast.ensures.refused c.in_default.not-Ok)) c.self.invariant

pub invariant_of-self-2 : goal.invariant_of-self-2
invariant_of-self-2 g c =
    let numbers = g.P.Ptr.numbers in
    let old = g.A.ArenaStates.slots c.self.inside.arena in
    let new = g.A.ArenaStates.slots c.compress_recast.new.this in
    let rename = g.A.CompactArenaTrait.rank c.self.inside.arena false in
    let is = c.in-Ok.ensures.compacted in
    linked_moved (look_up (node_slots numbers old)) rename (look_up (node_slots numbers new)) c.self.invariant
    (is_moved numbers g.P.Recast.held g.P.Recast.refill g.met.P.Ptr.holds_itself g.met.P.Ptr.refills rename old new is.ranked is.found)

pub returns-clause-map : goal.returns-clause-map
returns-clause-map g c =
    let numbers = g.P.Ptr.numbers in
    let old = g.A.ArenaStates.slots c.self.inside.arena in
    let rename = g.A.CompactArenaTrait.rank c.self.inside.arena false in
    let map = c.in-Ok.ensures.map in
    rw (← c.self.view_is) (record {
      tells = map.tells;
      maps = maps_chains numbers g.P.Recast.held g.P.Recast.refill g.met.P.Ptr.holds_itself g.met.P.Ptr.refills numbers rename old _ map.maps;
    })

pub returns-clause-kept : goal.returns-clause-kept
returns-clause-kept g c =
    let numbers = g.P.Ptr.numbers in
    let old = g.A.ArenaStates.slots c.self.inside.arena in
    let new = g.A.ArenaStates.slots c.compress_recast.new.this in
    let rename = g.A.CompactArenaTrait.rank c.self.inside.arena false in
    let is = c.in-Ok.ensures.compacted in
    rw (← c.self.view_is) (record {
      moved = is_moved numbers g.P.Recast.held g.P.Recast.refill g.met.P.Ptr.holds_itself g.met.P.Ptr.refills rename old new is.ranked is.found;
      ranked = is.ranked;
      packed = packed numbers g.P.Recast.held g.P.Recast.refill g.met.P.Ptr.holds_itself g.met.P.Ptr.refills rename old new is.ranked (g.met.A.CompactArenaTrait.ranked c.self.inside.arena false) c.compress_recast.ensures.size.len;
      history = is.history refl;
      begun = is.begun;
    })

pub returns-in_default-clause-refusal : goal.returns-in_default-clause-refusal
returns-in_default-clause-refusal g c =
    let old = g.A.ArenaStates.slots c.self.inside.arena in
    let some : 0 < entry_count old =
    if_refused _ _ c.compress_recast.result c.compress_recast.ensures.refusal c.in_default.not-Ok
    (λ refusal refuses. only_memory g.P.Ptr.numbers g.P.Recast.held g.P.Recast.refill g.met.P.Ptr.holds_itself g.met.P.Ptr.refills old c.self.invariant refusal (c.arenas_resolve.ensures.stray old old refusal refuses)) in
    (refl, subst (λ s. 0 < s.len) c.self.view_is some)
