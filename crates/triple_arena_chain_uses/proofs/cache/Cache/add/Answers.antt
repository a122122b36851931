use Rattle.std.specs.Prelude.{List, ◌∷◌}
use Rattle.std.proofs.Common.{suc, ◌≡◌, ℕ, ◌-◌, ◌<◌, nat_eq, Option, Some, None, Err, length, take, sym, ap, ◌∙◌, subst}
use Rattle.std.specs.HashMap.{get, Updates}
use Rattle.std.specs.Map.{lookup}
use Rattle.std.specs.Option.{option_map}
use Rattle.triple_arena_chain.specs.Pointers.{Pointer}
use Rattle.triple_arena_chain.specs.Chains.{ChainState, nodes, after_at}
use Rattle.triple_arena_chain_uses.specs.Cache.{CacheState, uses_from, place_in, IsOrder}
use Rattle.triple_arena_chain_uses.proofs.Caching.{memory_refused, on_ok, placed_in, take_all, bare_there, fresh_place, grown, grown_entries}
use Rattle.triple_arena_chain_uses.proofs.Turning.{same_places}
use Rattle.triple_arena_chain_uses.proofs.cache.Cache.add.Goals as goal

abbrev numbers : ℕ × ℕ → Pointer
numbers p = (suc p.0, suc p.1)

pub invariant_of-self : goal.invariant_of-self
invariant_of-self g c = (c.self.invariant.0, same_places (nodes c.self.inside.uses) c.self.inside.uses.len (numbers c.self.inside.bare) (place_in numbers c.self.inside.places) (place_in numbers c.reserve.new.self) c.self.inside.most c.self.invariant.0 c.self.invariant.1 (λ k. ap (option_map numbers) (c.reserve.ensures.entries.2 k)), c.self.invariant.2)

kept_order : {A T : Type 0} (old new : ChainState A (Option (ℕ × T))) → new ≡ old → (bare : Pointer) (place : ℕ → Option Pointer) (most : ℕ) (order : List Pointer)
    → IsOrder (nodes old) old.len bare place most order → old.limit ≡ None → ((order : List Pointer) × IsOrder (nodes new) new.len bare place most order × (new.limit ≡ None))
kept_order {A = A} {T = T} old new same bare place most order is unlimited =
    subst (λ (u : ChainState A (Option (ℕ × T))). (order : List Pointer) × IsOrder (nodes u) u.len bare place most order × (u.limit ≡ None)) (sym same) (order, is, unlimited)

pub invariant_of-self-in-Err : goal.invariant_of-self-in-Err
invariant_of-self-in-Err g c =
    kept_order c.self.inside.uses c.insert.new.self c.in-Err.ensures.refused (numbers c.self.inside.bare) (place_in numbers c.reserve.new.self) c.self.inside.most c.self.invariant.0
    (same_places (nodes c.self.inside.uses) c.self.inside.uses.len (numbers c.self.inside.bare) (place_in numbers c.self.inside.places) (place_in numbers c.reserve.new.self) c.self.inside.most c.self.invariant.0 c.self.invariant.1 (λ k. ap (option_map numbers) (c.reserve.ensures.entries.2 k))) c.self.invariant.2

pub invariant_of-self-in-Ok : goal.invariant_of-self-in-Ok
invariant_of-self-in-Ok g c =
    let is = same_places (nodes c.self.inside.uses) c.self.inside.uses.len (numbers c.self.inside.bare) (place_in numbers c.self.inside.places) (place_in numbers c.reserve.new.self) c.self.inside.most c.self.invariant.0 c.self.invariant.1 (λ k. ap (option_map numbers) (c.reserve.ensures.entries.2 k)) in
    let fresh : lookup (nat_eq c.args.key) (uses_from c.self.inside.uses.len (nodes c.self.inside.uses) (after_at (nodes c.self.inside.uses) (numbers c.self.inside.bare))) ≡ None = subst (λ (s : CacheState g.row.T.Denot). lookup (nat_eq c.args.key) s.entries ≡ None) (sym c.self.view_is) c.requires.fresh in
    let room : length (uses_from c.self.inside.uses.len (nodes c.self.inside.uses) (after_at (nodes c.self.inside.uses) (numbers c.self.inside.bare))) < c.self.inside.most = subst (λ (s : CacheState g.row.T.Denot). length s.entries < s.most) (sym c.self.view_is) c.requires.room in
    let updates = on_ok (Updates nat_eq c.reserve.new.self c.insert-placed.new.self c.args.key (Some c.in-Ok.q)) c.insert-placed.result c.unwrap-was_at.result c.unwrap-was_at.ensures c.insert-placed.ensures.updates in
    let turns =
    grown (nodes c.self.inside.uses) c.self.inside.uses.len (numbers c.self.inside.bare) (place_in numbers c.reserve.new.self) c.self.inside.most c.self.invariant.0 is c.args.key c.args.value
    (fresh_place (nodes c.self.inside.uses) c.self.inside.uses.len (numbers c.self.inside.bare) (place_in numbers c.reserve.new.self) c.self.inside.most c.self.invariant.0 is c.args.key fresh)
    (numbers c.in-Ok.q) (nodes c.insert.new.self) c.insert.new.self.len c.in-Ok.ensures.inserted c.in-Ok.ensures.size.len room
    (place_in numbers c.insert-placed.new.self) (λ r. placed_in numbers c.args.key r c.in-Ok.q (get nat_eq c.reserve.new.self r) (get nat_eq c.insert-placed.new.self r) (updates.0 r)) in
    (turns.0, turns.1, c.in-Ok.ensures.size.limit ∙ c.self.invariant.2)

pub returns-in-Ok-clause-put : goal.returns-in-Ok-clause-put
returns-in-Ok-clause-put g c =
    let is = same_places (nodes c.self.inside.uses) c.self.inside.uses.len (numbers c.self.inside.bare) (place_in numbers c.self.inside.places) (place_in numbers c.reserve.new.self) c.self.inside.most c.self.invariant.0 c.self.invariant.1 (λ k. ap (option_map numbers) (c.reserve.ensures.entries.2 k)) in
    let fresh : lookup (nat_eq c.args.key) (uses_from c.self.inside.uses.len (nodes c.self.inside.uses) (after_at (nodes c.self.inside.uses) (numbers c.self.inside.bare))) ≡ None = subst (λ (s : CacheState g.row.T.Denot). lookup (nat_eq c.args.key) s.entries ≡ None) (sym c.self.view_is) c.requires.fresh in
    let room : length (uses_from c.self.inside.uses.len (nodes c.self.inside.uses) (after_at (nodes c.self.inside.uses) (numbers c.self.inside.bare))) < c.self.inside.most = subst (λ (s : CacheState g.row.T.Denot). length s.entries < s.most) (sym c.self.view_is) c.requires.room in
    let updates = on_ok (Updates nat_eq c.reserve.new.self c.insert-placed.new.self c.args.key (Some c.in-Ok.q)) c.insert-placed.result c.unwrap-was_at.result c.unwrap-was_at.ensures c.insert-placed.ensures.updates in
    let put = grown_entries (nodes c.self.inside.uses) c.self.inside.uses.len (numbers c.self.inside.bare) (place_in numbers c.reserve.new.self) c.self.inside.most c.self.invariant.0 is c.args.key c.args.value
    (fresh_place (nodes c.self.inside.uses) c.self.inside.uses.len (numbers c.self.inside.bare) (place_in numbers c.reserve.new.self) c.self.inside.most c.self.invariant.0 is c.args.key fresh)
    (numbers c.in-Ok.q) (nodes c.insert.new.self) c.insert.new.self.len c.in-Ok.ensures.inserted c.in-Ok.ensures.size.len room
    (place_in numbers c.insert-placed.new.self) (λ r. placed_in numbers c.args.key r c.in-Ok.q (get nat_eq c.reserve.new.self r) (get nat_eq c.insert-placed.new.self r) (updates.0 r)) in
    subst (λ (s : CacheState g.row.T.Denot). uses_from c.insert.new.self.len (nodes c.insert.new.self) (after_at (nodes c.insert.new.self) (numbers c.self.inside.bare)) ≡ (c.args.key, c.args.value) ∷ take (s.most - 1) s.entries) c.self.view_is
    (put ∙ ap (λ es. (c.args.key, c.args.value) ∷ es) (sym (take_all (uses_from c.self.inside.uses.len (nodes c.self.inside.uses) (after_at (nodes c.self.inside.uses) (numbers c.self.inside.bare))) c.self.inside.most room)))

pub returns-in-Err-clause-refusal : goal.returns-in-Err-clause-refusal
returns-in-Err-clause-refusal g c =
    let there = bare_there (nodes c.self.inside.uses) c.self.inside.uses.len (numbers c.self.inside.bare) (place_in numbers c.self.inside.places) c.self.inside.most c.self.invariant.0 c.self.invariant.1 in
    memory_refused c.self.inside.uses.capacity c.self.inside.uses.limit c.self.inside.uses.len (Err c.in-Err.refusal) c.self.invariant.2 (c.in-Err.ensures.room there).refusal (c.in-Err.ensures.room there).no_room
