use Rattle.std.proofs.Common.{None, sym, subst}
use Rattle.std.specs.Prelude.{[], ◌∷◌, IfOk, OnOk}
use Rattle.triple_arena.specs.Entries.{look_up}
use Rattle.triple_arena.specs.Histories.{insertion, Continues}
use Rattle.triple_arena_chain.specs.Chains.{node_slots, chains_in, IsLinked}
use Rattle.triple_arena_chain.specs.Room.{HasOneMore, DependsOnRoom}
use Rattle.triple_arena_chain.specs.laws.LinkLaws.{linked_inserted, between_none}
use Rattle.triple_arena_chain.specs.laws.ResultLaws.{either_way}
use Rattle.triple_arena_chain.proofs.chains.Chains.insert_new.Goals as goal

pub invariant_of-self : goal.invariant_of-self
invariant_of-self g c =
    let old = look_up (node_slots g.P.Ptr.numbers (g.A.ArenaStates.slots c.self.inside.arena)) in
    let new = look_up (node_slots g.P.Ptr.numbers (g.A.ArenaStates.slots c.insert_between.new.arena)) in
    either_way _ _ (IsLinked new) c.insert_between.result c.insert_between.ensures.inserted c.insert_between.ensures.refused
    (λ q done. linked_inserted old None None (g.P.Ptr.numbers q) c.args.value new c.self.invariant (between_none old) done)
    (λ same. subst (λ a. IsLinked (look_up (node_slots g.P.Ptr.numbers (g.A.ArenaStates.slots a)))) (sym same) c.self.invariant)

pub returns-clause-size : goal.returns-clause-size
returns-clause-size g c =
    subst (λ s. OnOk c.insert_between.result (HasOneMore g.A.ArenaStates.capacity g.A.ArenaInsertTrait.grown s (chains_in g.P.Ptr.numbers g.A.ArenaStates.slots g.A.ArenaStates.capacity g.A.ArenaStates.limit c.insert_between.new.arena))) c.self.view_is c.insert_between.ensures.size

pub returns-clause-room : goal.returns-clause-room
returns-clause-room g c = subst (λ s. DependsOnRoom g.A.ArenaTrait.has_memory _ s c.insert_between.result) c.self.view_is c.insert_between.ensures.room

pub returns-clause-history : goal.returns-clause-history
returns-clause-history g c =
    subst (λ s. IfOk c.insert_between.result (λ q. Continues g.A.ArenaStates.fits s.arena (insertion (g.P.Ptr.numbers q) ∷ []) c.insert_between.new.arena)) c.self.view_is c.insert_between.ensures.history
