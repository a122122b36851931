use Rattle.std.proofs.Common.{rules, ◌≡◌, IsSome, sym, subst}
use Rattle.std.specs.Option.{option_map}
use Rattle.std.specs.Prelude.{[], ◌∷◌, IfOk, OnOk}
use Rattle.triple_arena_ptr.specs.Numbers.{greatest_index}
use Rattle.triple_arena.specs.Entries.{look_up}
use Rattle.triple_arena.specs.Histories.{insertion, Continues}
use Rattle.triple_arena_chain.specs.Chains.{nodes, node_slots, chains_in, place_at, place_before, place_after, IsLinked, IsThere, IsBetween}
use Rattle.triple_arena_chain.specs.Room.{HasOneMore, DependsOnRoom}
use Rattle.triple_arena_chain.specs.laws.LinkLaws.{place_before_there, place_after_there, place_between, linked_inserted}
use Rattle.triple_arena_chain.specs.laws.ResultLaws.{either_way}
use Rattle.triple_arena_chain.proofs.chains.Chains.insert.Goals as goal

pub insert_between-requires-clause-prev : goal.insert_between-requires-clause-prev
insert_between-requires-clause-prev g c κs within =
    let numbers = g.P.Ptr.numbers in
    let linked : IsLinked (nodes c.args.self.now) = subst (λ s. IsLinked (nodes s)) c.self.view_is c.self.invariant in
    let there : IsSome (nodes c.args.self.now (place_at numbers c.args.place)) = search rules in
    let before : option_map numbers c.in-Some.prev ≡ place_before numbers (nodes c.args.self.now) c.args.place = search rules in
    subst (λ s. IsThere (nodes s) (option_map numbers c.in-Some.prev)) (sym c.self.view_is)
    (subst (IsThere (nodes c.args.self.now)) (sym before) (place_before_there numbers (nodes c.args.self.now) linked c.args.place there))

pub insert_between-requires-clause-next : goal.insert_between-requires-clause-next
insert_between-requires-clause-next g c κs within =
    let numbers = g.P.Ptr.numbers in
    let linked : IsLinked (nodes c.args.self.now) = subst (λ s. IsLinked (nodes s)) c.self.view_is c.self.invariant in
    let there : IsSome (nodes c.args.self.now (place_at numbers c.args.place)) = search rules in
    let after : option_map numbers c.in-Some.next ≡ place_after numbers (nodes c.args.self.now) c.args.place = search rules in
    subst (λ s. IsThere (nodes s) (option_map numbers c.in-Some.next)) (sym c.self.view_is)
    (subst (IsThere (nodes c.args.self.now)) (sym after) (place_after_there numbers (nodes c.args.self.now) linked c.args.place there))

pub invariant_of-self : goal.invariant_of-self
invariant_of-self g c =
    let numbers = g.P.Ptr.numbers in
    let prev = option_map numbers c.in-Some.prev in
    let next = option_map numbers c.in-Some.next in
    let linked : IsLinked (nodes c.args.self.now) = subst (λ s. IsLinked (nodes s)) c.self.view_is c.self.invariant in
    let there : IsSome (nodes c.args.self.now (place_at numbers c.args.place)) = search rules in
    let before : option_map numbers c.in-Some.prev ≡ place_before numbers (nodes c.args.self.now) c.args.place = search rules in
    let after : option_map numbers c.in-Some.next ≡ place_after numbers (nodes c.args.self.now) c.args.place = search rules in
    let between : IsBetween (nodes c.args.self.now) prev next =
    subst (λ at. IsBetween (nodes c.args.self.now) at next) (sym before) (subst (IsBetween (nodes c.args.self.now) (place_before numbers (nodes c.args.self.now) c.args.place)) (sym after)
    (place_between numbers (nodes c.args.self.now) linked c.args.place there)) in
    let old = look_up (node_slots numbers (g.A.ArenaStates.slots c.self.inside.arena)) in
    let new = look_up (node_slots numbers (g.A.ArenaStates.slots c.insert_between.new.arena)) in
    let fits : IsBetween old prev next = subst (λ s. IsBetween (nodes s) prev next) (sym c.self.view_is) between in
    either_way _ _ (IsLinked new) c.insert_between.result c.insert_between.ensures.inserted c.insert_between.ensures.refused
    (λ q done. linked_inserted old prev next (numbers q) c.args.value new c.self.invariant fits done)
    (λ same. subst (λ a. IsLinked (look_up (node_slots numbers (g.A.ArenaStates.slots a)))) (sym same) c.self.invariant)

pub returns-in-Some-clause-size : goal.returns-in-Some-clause-size
returns-in-Some-clause-size g c =
    subst (λ s. OnOk c.insert_between.result (HasOneMore g.A.ArenaStates.capacity g.A.ArenaInsertTrait.grown s (chains_in g.P.Ptr.numbers g.A.ArenaStates.slots g.A.ArenaStates.capacity g.A.ArenaStates.limit c.insert_between.new.arena))) c.self.view_is c.insert_between.ensures.size

pub returns-in-Some-clause-room : goal.returns-in-Some-clause-room
returns-in-Some-clause-room g c = λ there. subst (λ s. DependsOnRoom g.A.ArenaTrait.has_memory (greatest_index g.P.Inx.PtrInx.greatest) s c.insert_between.result) c.self.view_is c.insert_between.ensures.room

pub returns-in-Some-clause-history : goal.returns-in-Some-clause-history
returns-in-Some-clause-history g c =
    subst (λ s. IfOk c.insert_between.result (λ q. Continues g.A.ArenaStates.fits s.arena (insertion (g.P.Ptr.numbers q) ∷ []) c.insert_between.new.arena)) c.self.view_is c.insert_between.ensures.history
