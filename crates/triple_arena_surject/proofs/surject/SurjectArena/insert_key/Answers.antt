use Rattle.std.proofs.Common.{◌≡◌, ◌+◌, ◌≤◌, [], ◌∷◌, sym, ap, ◌∙◌, subst, refl, arith}
use Rattle.std.specs.Option.{option_map}
use Rattle.triple_arena.specs.Entries.{look_up, entry_count}
use Rattle.triple_arena.specs.Histories.{insertion, Continues}
use Rattle.triple_arena_chain.specs.Chains.{Node, nodes, IsRefusedRoom}
use Rattle.triple_arena_chain.specs.declared.place.ChainError.{ChainError}
use Rattle.triple_arena_chain.specs.declared.place.ChainError.TheVariants as chain
use Rattle.triple_arena_surject.specs.declared.member.Member.{Member}
use Rattle.triple_arena_surject.specs.declared.member.Shared.{Shared}
use Rattle.triple_arena_surject.specs.declared.refusal.SurjectError.TheVariants as surject
use Rattle.triple_arena_surject.specs.Rings.{counts}
use Rattle.triple_arena_surject.specs.Surject.{told_of_chains}
use Rattle.triple_arena_surject.proofs.Rounds.{no_more_keys, labelled_there}
use Rattle.triple_arena_surject.proofs.Sound.{sound_added}
use Rattle.triple_arena_surject.proofs.Leaving.{counted_with}
use Rattle.triple_arena_surject.proofs.States.{read, shared_there, found_there, never}
use Rattle.triple_arena_surject.proofs.Changes.{added_key}
use Rattle.triple_arena_surject.proofs.surject.SurjectArena.insert_key.Goals as goal

-- a want of room isn't told as a missing entry
told_room : (e : ChainError) → IsRefusedRoom e → told_of_chains e ≡ surject.NoEntry → ⊥
told_room chain.NoEntry refused told = refused
told_room chain.Taken refused told = refused
told_room chain.NoRoom refused told = absurd (cc)
told_room chain.NoMemory refused told = absurd (cc)

pub overflow_add-count : goal.overflow_add-count
overflow_add-count g c =
    let keys = c.self.inside.keys in
    let name = g.P.Ptr.numbers c.in-Some.set in
    let counted = c.size_of-count.ensures (shared_there (g.B.ArenaStates.slots c.self.inside.sets) c.self.invariant (g.P.Ptr.numbers c.args.p) name (sym c.in-Some.ensures)) in
    let few : c.size_of-count.result ≤ entry_count keys.slots = no_more_keys g.P.Ptr.numbers (nodes keys) c.len-len.ensures.linked name c.size_of-count.result keys.slots (λ q. refl)
    (c.self.invariant.rings name c.size_of-count.result counted) in
    omega (arith, few, c.len-len.ensures.counted, c.in-Ok.ensures.size.len, c.len-more.ensures.value)

pub invariant_of-self : goal.invariant_of-self
invariant_of-self g c =
    let slots = g.B.ArenaStates.slots c.self.inside.sets in
    let p = g.P.Ptr.numbers c.args.p in
    let name = g.P.Ptr.numbers c.in-Some.set in
    let done = c.in-Ok.ensures.inserted in
    let there = shared_there slots c.self.invariant p name (sym c.in-Some.ensures) in
    sound_added g.P.Ptr.numbers (nodes c.self.inside.keys) (nodes c.insert.new.self) (counts slots) (counts (g.B.ArenaStates.slots c.count_keys.new.sets)) c.self.invariant
    (g.P.Ptr.numbers c.in-Ok.q) (record { key = c.args.key; set = c.in-Some.set }) done.free (ap (option_map (λ (node : Node (Member g.row.P.Denot g.row.K.Denot)). node.value)) done.found) done.values
    (λ d other. ap (option_map (λ (s : Shared g.row.V.Denot). s.keys)) (c.count_keys.ensures.others d other))
    c.len-len.ensures.linked p c.size_of-count.result done (sym c.in-Some.ensures) (c.size_of-count.ensures there)
    (ap (option_map (λ (s : Shared g.row.V.Denot). s.keys)) c.count_keys.ensures.there ∙ counted_with (c.size_of-count.result + 1) (look_up slots name) c.size_of-count.result (c.size_of-count.ensures there))

pub returns-in-Ok-clause-added : goal.returns-in-Ok-clause-added
returns-in-Ok-clause-added g c =
    let numbers = g.P.Ptr.numbers in
    let sets = c.count_keys.new.sets in
    added_key (read numbers _ c.self.inside.keys (g.B.ArenaStates.slots c.self.inside.sets) _ _ c.args.self.now c.self.view_is)
    (read numbers _ c.insert.new.self (g.B.ArenaStates.slots sets) (g.B.ArenaStates.capacity sets) (g.B.ArenaStates.limit sets) _ refl)
    (numbers c.args.p) (numbers c.in-Ok.q) (record { key = c.args.key; set = c.in-Some.set }) (c.size_of-count.result + 1)
    c.in-Ok.ensures.inserted (sym c.in-Some.ensures) c.count_keys.ensures.there c.count_keys.ensures.others

pub returns-in-Ok-clause-history : goal.returns-in-Ok-clause-history
returns-in-Ok-clause-history g c = subst (λ s. Continues g.A.ArenaStates.fits s.arena (insertion (g.P.Ptr.numbers c.in-Ok.q) ∷ []) c.insert.new.self.arena) c.self.view_is c.in-Ok.ensures.history

pub returns-in-Ok-clause-no_entry : goal.returns-in-Ok-clause-no_entry
returns-in-Ok-clause-no_entry g c =
    let is = read g.P.Ptr.numbers _ c.self.inside.keys (g.B.ArenaStates.slots c.self.inside.sets) _ _ c.args.self.now c.self.view_is in
    never c.args.self.now (g.P.Ptr.numbers c.args.p) _ _ (found_there is (g.P.Ptr.numbers c.args.p) (g.P.Ptr.numbers c.in-Some.set) (sym c.in-Some.ensures)) (λ e. absurd (cc))

pub returns-in-Err-clause-no_entry : goal.returns-in-Err-clause-no_entry
returns-in-Err-clause-no_entry g c =
    let p = g.P.Ptr.numbers c.args.p in
    let name = g.P.Ptr.numbers c.in-Some.set in
    let is = read g.P.Ptr.numbers _ c.self.inside.keys (g.B.ArenaStates.slots c.self.inside.sets) _ _ c.args.self.now c.self.view_is in
    let refused = (c.in-Err.ensures.room (labelled_there g.P.Ptr.numbers (nodes c.self.inside.keys) p name (sym c.in-Some.ensures))).refusal in
    never c.args.self.now p _ _ (found_there is p name (sym c.in-Some.ensures)) (λ e. told_room c.in-Err.refusal refused (sym c.told_of_chains.ensures ∙ (cc)))
