use Rattle.std.specs.Prelude.{◌∷◌, option_copied}
use Rattle.std.proofs.Common.{suc, ◌≡◌, ◌⊎◌, ℕ, ◌+◌, nat_eq, is_some, IsSome, Some, None, inl, inr, sym, ap, ◌∙◌, subst, arith}
use Rattle.std.specs.HashMap.{get}
use Rattle.std.specs.Map.{lookup, remove_entry}
use Rattle.std.specs.Option.{option_map}
use Rattle.triple_arena_chain.specs.Pointers.{Pointer}
use Rattle.triple_arena_chain.specs.Chains.{nodes, value_at, after_at, IsInserted, IsRemoved}
use Rattle.triple_arena_chain_uses.specs.Cache.{CacheState, uses_from, place_in, exchanged}
use Rattle.triple_arena_chain_uses.proofs.Caching.{on_ok, if_ok, surely_ok, replaced_in, has_place, place_there, fresh_place, bare_stays, pair_of_key, pair_is_this, some_of_map, turned, turned_entries}
use Rattle.triple_arena_chain_uses.proofs.Ordering.{value_looked_up}
use Rattle.triple_arena_chain_uses.proofs.Turning.{same_places}
use Rattle.triple_arena_chain_uses.proofs.cache.Cache.give_way.Goals as goal

abbrev numbers : ℕ × ℕ → Pointer
numbers p = (suc p.0, suc p.1)

pub invariant_of-self : goal.invariant_of-self
invariant_of-self g c = (
  c.self.invariant.0,
  same_places (nodes c.self.inside.uses) c.self.inside.uses.len (numbers c.self.inside.bare) (place_in numbers c.self.inside.places) (place_in numbers c.have_place.new.places) c.self.inside.most c.self.invariant.0 c.self.invariant.1
      (λ k. ap (option_map numbers) (c.have_place.ensures.same k)),
  c.self.invariant.2,
)

pub unwrap-at-requires : goal.unwrap-at-requires
unwrap-at-requires g c =
    let is = same_places (nodes c.self.inside.uses) c.self.inside.uses.len (numbers c.self.inside.bare) (place_in numbers c.self.inside.places) (place_in numbers c.have_place.new.places) c.self.inside.most c.self.invariant.0 c.self.invariant.1 (λ k. ap (option_map numbers) (c.have_place.ensures.same k)) in
    let some : IsSome (get nat_eq c.have_place.new.places c.args.gone) =
    some_of_map numbers (get nat_eq c.have_place.new.places c.args.gone) (has_place (nodes c.self.inside.uses) c.self.inside.uses.len (numbers c.self.inside.bare) (place_in numbers c.have_place.new.places) c.self.inside.most c.self.invariant.0 is c.args.gone (subst (λ (s : CacheState g.row.T.Denot). IsSome (lookup (nat_eq c.args.gone) s.entries)) (sym c.self.view_is) c.requires.there)) in
    some_of_map (λ x. x.now) c.get-place.result (subst IsSome (sym c.get-place.ensures.value) some)

pub unwrap-told-requires : goal.unwrap-told-requires
unwrap-told-requires g c =
    let is = same_places (nodes c.self.inside.uses) c.self.inside.uses.len (numbers c.self.inside.bare) (place_in numbers c.self.inside.places) (place_in numbers c.have_place.new.places) c.self.inside.most c.self.invariant.0 c.self.invariant.1 (λ k. ap (option_map numbers) (c.have_place.ensures.same k)) in
    let p = numbers c.unwrap-at.result.now in
    let at : place_in numbers c.have_place.new.places c.args.gone ≡ Some p = ap (option_map numbers) (sym c.get-place.ensures.value ∙ ap option_copied c.unwrap-at.ensures) in
    surely_ok (nodes c.self.inside.uses p ≡ None) c.remove-taken.result c.remove-taken.ensures.refusal c.remove-taken.ensures.no_entry (place_there (nodes c.self.inside.uses) c.self.inside.uses.len (numbers c.self.inside.bare) (place_in numbers c.have_place.new.places) c.self.inside.most c.self.invariant.0 is c.args.gone p at)

pub unwrap-had-requires : goal.unwrap-had-requires
unwrap-had-requires g c =
    let is = same_places (nodes c.self.inside.uses) c.self.inside.uses.len (numbers c.self.inside.bare) (place_in numbers c.self.inside.places) (place_in numbers c.have_place.new.places) c.self.inside.most c.self.invariant.0 c.self.invariant.1 (λ k. ap (option_map numbers) (c.have_place.ensures.same k)) in
    let p = numbers c.unwrap-at.result.now in
    let at : place_in numbers c.have_place.new.places c.args.gone ≡ Some p = ap (option_map numbers) (sym c.get-place.ensures.value ∙ ap option_copied c.unwrap-at.ensures) in
    let pair_is =
    pair_of_key (nodes c.self.inside.uses) c.self.inside.uses.len (numbers c.self.inside.bare) (place_in numbers c.have_place.new.places) c.self.inside.most c.self.invariant.0 is c.args.gone p at c.allow-pair.result
    ((if_ok _ c.remove-taken.result c.unwrap-told.result c.unwrap-told.ensures c.remove-taken.ensures.answer).value ∙ ap Some (sym c.allow-pair.ensures)) in
    ap is_some pair_is

pub unwrap-q-requires : goal.unwrap-q-requires
unwrap-q-requires g c =
    let is = same_places (nodes c.self.inside.uses) c.self.inside.uses.len (numbers c.self.inside.bare) (place_in numbers c.self.inside.places) (place_in numbers c.have_place.new.places) c.self.inside.most c.self.invariant.0 c.self.invariant.1 (λ k. ap (option_map numbers) (c.have_place.ensures.same k)) in
    let p = numbers c.unwrap-at.result.now in
    let at : place_in numbers c.have_place.new.places c.args.gone ≡ Some p = ap (option_map numbers) (sym c.get-place.ensures.value ∙ ap option_copied c.unwrap-at.ensures) in
    let removed : IsRemoved (nodes c.self.inside.uses) p (nodes c.remove-taken.new.self) = on_ok _ c.remove-taken.result c.unwrap-told.result c.unwrap-told.ensures c.remove-taken.ensures.removed in
    let one : c.remove-taken.new.self.len + 1 ≡ c.self.inside.uses.len = on_ok _ c.remove-taken.result c.unwrap-told.result c.unwrap-told.ensures c.remove-taken.ensures.len in
    (c.insert-put.ensures.room (bare_stays (nodes c.self.inside.uses) c.self.inside.uses.len (numbers c.self.inside.bare) (place_in numbers c.have_place.new.places) c.self.inside.most c.self.invariant.0 is c.args.gone p at (nodes c.remove-taken.new.self) removed)).had_place (omega (arith, one, c.remove-taken.ensures.room.capacity, c.len-len.ensures.fits))

pub give_place-requires-clause-there : goal.give_place-requires-clause-there
give_place-requires-clause-there g c =
    let is = same_places (nodes c.self.inside.uses) c.self.inside.uses.len (numbers c.self.inside.bare) (place_in numbers c.self.inside.places) (place_in numbers c.have_place.new.places) c.self.inside.most c.self.invariant.0 c.self.invariant.1 (λ k. ap (option_map numbers) (c.have_place.ensures.same k)) in
    let some : IsSome (get nat_eq c.have_place.new.places c.args.gone) =
    some_of_map numbers (get nat_eq c.have_place.new.places c.args.gone) (has_place (nodes c.self.inside.uses) c.self.inside.uses.len (numbers c.self.inside.bare) (place_in numbers c.have_place.new.places) c.self.inside.most c.self.invariant.0 is c.args.gone (subst (λ (s : CacheState g.row.T.Denot). IsSome (lookup (nat_eq c.args.gone) s.entries)) (sym c.self.view_is) c.requires.there)) in
    some

pub invariant_of-self-2 : goal.invariant_of-self-2
invariant_of-self-2 g c =
    let is = same_places (nodes c.self.inside.uses) c.self.inside.uses.len (numbers c.self.inside.bare) (place_in numbers c.self.inside.places) (place_in numbers c.have_place.new.places) c.self.inside.most c.self.invariant.0 c.self.invariant.1 (λ k. ap (option_map numbers) (c.have_place.ensures.same k)) in
    let p = numbers c.unwrap-at.result.now in
    let at : place_in numbers c.have_place.new.places c.args.gone ≡ Some p = ap (option_map numbers) (sym c.get-place.ensures.value ∙ ap option_copied c.unwrap-at.ensures) in
    let removed : IsRemoved (nodes c.self.inside.uses) p (nodes c.remove-taken.new.self) = on_ok _ c.remove-taken.result c.unwrap-told.result c.unwrap-told.ensures c.remove-taken.ensures.removed in
    let one : c.remove-taken.new.self.len + 1 ≡ c.self.inside.uses.len = on_ok _ c.remove-taken.result c.unwrap-told.result c.unwrap-told.ensures c.remove-taken.ensures.len in
    let fresh : (c.args.key ≡ c.args.gone) ⊎ (place_in numbers c.have_place.new.places c.args.key ≡ None) =
    elim c.requires.fresh [
      | inl same ↦ inl same
      | inr none ↦ inr (fresh_place (nodes c.self.inside.uses) c.self.inside.uses.len (numbers c.self.inside.bare) (place_in numbers c.have_place.new.places) c.self.inside.most c.self.invariant.0 is c.args.key (subst (λ (s : CacheState g.row.T.Denot). lookup (nat_eq c.args.key) s.entries ≡ None) (sym c.self.view_is) none))
    ] in
    let put = if_ok (λ (q : ℕ × ℕ). IsInserted (nodes c.remove-taken.new.self) (Some (numbers c.self.inside.bare)) (after_at (nodes c.remove-taken.new.self) (numbers c.self.inside.bare)) (numbers q) (Some (c.args.key, c.exchange-first.result.0)) (nodes c.insert-put.new.self)) c.insert-put.result c.unwrap-q.result c.unwrap-q.ensures c.insert-put.ensures.inserted in
    let again : c.insert-put.new.self.len ≡ c.remove-taken.new.self.len + 1 = (on_ok _ c.insert-put.result c.unwrap-q.result c.unwrap-q.ensures c.insert-put.ensures.size).len in
    let turns = turned (nodes c.self.inside.uses) c.self.inside.uses.len (numbers c.self.inside.bare) (place_in numbers c.have_place.new.places) c.self.inside.most c.self.invariant.0 is c.args.gone p at (nodes c.remove-taken.new.self) c.remove-taken.new.self.len removed one c.args.key c.exchange-first.result.0 fresh (numbers c.unwrap-q.result) (nodes c.insert-put.new.self) c.insert-put.new.self.len put again
    (place_in numbers c.give_place.new.places) (λ r. replaced_in numbers c.args.gone c.args.key r c.unwrap-q.result (get nat_eq c.have_place.new.places r) (get nat_eq c.give_place.new.places r) (c.give_place.ensures r)) in
    let limit : c.insert-put.new.self.limit ≡ c.remove-taken.new.self.limit = (on_ok _ c.insert-put.result c.unwrap-q.result c.unwrap-q.ensures c.insert-put.ensures.size).limit in
    (turns.0, turns.1, limit ∙ c.remove-taken.ensures.room.limit ∙ c.self.invariant.2)

pub returns-clause-put : goal.returns-clause-put
returns-clause-put g c =
    let is = same_places (nodes c.self.inside.uses) c.self.inside.uses.len (numbers c.self.inside.bare) (place_in numbers c.self.inside.places) (place_in numbers c.have_place.new.places) c.self.inside.most c.self.invariant.0 c.self.invariant.1 (λ k. ap (option_map numbers) (c.have_place.ensures.same k)) in
    let p = numbers c.unwrap-at.result.now in
    let at : place_in numbers c.have_place.new.places c.args.gone ≡ Some p = ap (option_map numbers) (sym c.get-place.ensures.value ∙ ap option_copied c.unwrap-at.ensures) in
    let removed : IsRemoved (nodes c.self.inside.uses) p (nodes c.remove-taken.new.self) = on_ok _ c.remove-taken.result c.unwrap-told.result c.unwrap-told.ensures c.remove-taken.ensures.removed in
    let one : c.remove-taken.new.self.len + 1 ≡ c.self.inside.uses.len = on_ok _ c.remove-taken.result c.unwrap-told.result c.unwrap-told.ensures c.remove-taken.ensures.len in
    let pair_is =
    pair_of_key (nodes c.self.inside.uses) c.self.inside.uses.len (numbers c.self.inside.bare) (place_in numbers c.have_place.new.places) c.self.inside.most c.self.invariant.0 is c.args.gone p at c.allow-pair.result
    ((if_ok _ c.remove-taken.result c.unwrap-told.result c.unwrap-told.ensures c.remove-taken.ensures.answer).value ∙ ap Some (sym c.allow-pair.ensures)) in
    let fresh : (c.args.key ≡ c.args.gone) ⊎ (place_in numbers c.have_place.new.places c.args.key ≡ None) =
    elim c.requires.fresh [
      | inl same ↦ inl same
      | inr none ↦ inr (fresh_place (nodes c.self.inside.uses) c.self.inside.uses.len (numbers c.self.inside.bare) (place_in numbers c.have_place.new.places) c.self.inside.most c.self.invariant.0 is c.args.key (subst (λ (s : CacheState g.row.T.Denot). lookup (nat_eq c.args.key) s.entries ≡ None) (sym c.self.view_is) none))
    ] in
    let put = if_ok (λ (q : ℕ × ℕ). IsInserted (nodes c.remove-taken.new.self) (Some (numbers c.self.inside.bare)) (after_at (nodes c.remove-taken.new.self) (numbers c.self.inside.bare)) (numbers q) (Some (c.args.key, c.exchange-first.result.0)) (nodes c.insert-put.new.self)) c.insert-put.result c.unwrap-q.result c.unwrap-q.ensures c.insert-put.ensures.inserted in
    let again : c.insert-put.new.self.len ≡ c.remove-taken.new.self.len + 1 = (on_ok _ c.insert-put.result c.unwrap-q.result c.unwrap-q.ensures c.insert-put.ensures.size).len in
    let found = is.found c.args.gone p at in
    let same = pair_is_this c.args.gone found.1 c.unwrap-had.result (sym pair_is ∙ c.unwrap-had.ensures) in
    let parts : c.exchange-first.result ≡ exchanged c.args.value found.1 = c.exchange-first.ensures ∙ ap (λ x. exchanged c.args.value x.1) (sym same) in
    subst (λ (s : CacheState g.row.T.Denot). (had : g.row.T.Denot) × (lookup (nat_eq c.args.gone) s.entries ≡ Some had) × (c.exchange-first.result.1 ≡ (exchanged c.args.value had).1)
    × (uses_from c.insert-put.new.self.len (nodes c.insert-put.new.self) (after_at (nodes c.insert-put.new.self) (numbers c.self.inside.bare)) ≡ (c.args.key, (exchanged c.args.value had).0) ∷ remove_entry (nat_eq c.args.gone) s.entries)) c.self.view_is (
      found.1,
      value_looked_up (nodes c.self.inside.uses) c.self.inside.uses.len (numbers c.self.inside.bare) (place_in numbers c.have_place.new.places) c.self.inside.most c.self.invariant.0 is c.args.gone p at found.1 found.2,
      ap (λ x. x.1) parts,
      turned_entries (nodes c.self.inside.uses) c.self.inside.uses.len (numbers c.self.inside.bare) (place_in numbers c.have_place.new.places) c.self.inside.most c.self.invariant.0 is c.args.gone p at (nodes c.remove-taken.new.self) c.remove-taken.new.self.len removed one c.args.key c.exchange-first.result.0 fresh (numbers c.unwrap-q.result) (nodes c.insert-put.new.self) c.insert-put.new.self.len put again
          (place_in numbers c.give_place.new.places) (λ r. replaced_in numbers c.args.gone c.args.key r c.unwrap-q.result (get nat_eq c.have_place.new.places r) (get nat_eq c.give_place.new.places r) (c.give_place.ensures r))
          ∙ ap (λ x. (c.args.key, x.0) ∷ remove_entry (nat_eq c.args.gone) (uses_from c.self.inside.uses.len (nodes c.self.inside.uses) (after_at (nodes c.self.inside.uses) (numbers c.self.inside.bare)))) parts,
    )
