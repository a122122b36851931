use Rattle.std.specs.Prelude.{List, [], ◌∷◌, ◌++◌, MatchOption, IfSome}
use Rattle.std.proofs.Common.{suc, ◌≡◌, ◌-◌, ℕ, nat_eq, length, take, IsSome, Some, sym, ap, ◌∙◌, subst}
use Rattle.std.specs.Map.{lookup, remove_entry}
use Rattle.std.specs.Option.{option_map, option_and_then}
use Rattle.triple_arena_chain.specs.Pointers.{Pointer}
use Rattle.triple_arena_chain.specs.Chains.{nodes, before_at}
use Rattle.triple_arena_chain_uses.specs.Cache.{CacheState, place_in}
use Rattle.triple_arena_chain_uses.proofs.Caching.{oldest_told, oldest_goes, has_before, none_some}
use Rattle.triple_arena_chain_uses.proofs.cache.Cache.oldest.Goals as goal

abbrev numbers : ℕ × ℕ → Pointer
numbers p = (suc p.0, suc p.1)

pub returns-in-Some-clause-oldest : goal.returns-in-Some-clause-oldest
returns-in-Some-clause-oldest g c =
    let p = numbers c.in-Some.p in
    let before : before_at (nodes c.self.inside.uses) (numbers c.self.inside.bare) ≡ Some p = sym c.before-last.ensures ∙ ap (option_map numbers) c.in-Some.is in
    subst (λ (s : CacheState g.row.T.Denot). MatchOption c.key_of.result (s.entries ≡ []) (λ key. (newer : List (ℕ × g.row.T.Denot)) × (value : g.row.T.Denot) × (s.entries ≡ newer ++ (key, value) ∷ []))) c.self.view_is
    (oldest_told (nodes c.self.inside.uses) c.self.inside.uses.len (numbers c.self.inside.bare) (place_in numbers c.self.inside.places) c.self.inside.most c.self.invariant.0 c.self.invariant.1 p before c.key_of.result (c.key_of.ensures ∙ ap (λ v. option_map (λ (pair : ℕ × g.row.T.Denot). pair.0) (option_and_then (λ u. u) v)) c.get-pair.ensures))

pub returns-in-Some-clause-goes : goal.returns-in-Some-clause-goes
returns-in-Some-clause-goes g c =
    let p = numbers c.in-Some.p in
    let before : before_at (nodes c.self.inside.uses) (numbers c.self.inside.bare) ≡ Some p = sym c.before-last.ensures ∙ ap (option_map numbers) c.in-Some.is in
    subst (λ (s : CacheState g.row.T.Denot). IfSome c.key_of.result (λ key. IsSome (lookup (nat_eq key) s.entries) × (remove_entry (nat_eq key) s.entries ≡ take (length s.entries - 1) s.entries))) c.self.view_is
    (oldest_goes (nodes c.self.inside.uses) c.self.inside.uses.len (numbers c.self.inside.bare) (place_in numbers c.self.inside.places) c.self.inside.most c.self.invariant.0 c.self.invariant.1 p before c.key_of.result (c.key_of.ensures ∙ ap (λ v. option_map (λ (pair : ℕ × g.row.T.Denot). pair.0) (option_and_then (λ u. u) v)) c.get-pair.ensures))

pub returns-in-None-clause-oldest : goal.returns-in-None-clause-oldest
returns-in-None-clause-oldest g c = absurd (none_some (before_at (nodes c.self.inside.uses) (numbers c.self.inside.bare)) (sym c.before-last.ensures ∙ ap (option_map numbers) c.in-None.is) (has_before (nodes c.self.inside.uses) c.self.inside.uses.len (numbers c.self.inside.bare) (place_in numbers c.self.inside.places) c.self.inside.most c.self.invariant.0 c.self.invariant.1))
