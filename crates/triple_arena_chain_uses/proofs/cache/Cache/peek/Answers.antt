use Rattle.std.specs.Prelude.{option_copied}
use Rattle.std.proofs.Common.{suc, ◌≡◌, ℕ, nat_eq, None, sym, ap, ◌∙◌, subst}
use Rattle.std.specs.Map.{lookup}
use Rattle.std.specs.Option.{option_map, option_and_then}
use Rattle.triple_arena_chain.specs.Pointers.{Pointer}
use Rattle.triple_arena_chain.specs.Chains.{nodes}
use Rattle.triple_arena_chain_uses.specs.Cache.{CacheState, place_in}
use Rattle.triple_arena_chain_uses.proofs.Caching.{peeked, none_peeked}
use Rattle.triple_arena_chain_uses.proofs.cache.Cache.peek.Goals as goal

abbrev numbers : ℕ × ℕ → Pointer
numbers p = (suc p.0, suc p.1)

pub returns-in-Some : goal.returns-in-Some
returns-in-Some g c =
    subst (λ (s : CacheState g.row.T.Denot). option_copied c.value_of.result ≡ lookup (nat_eq c.args.key) s.entries) c.self.view_is
    (peeked (nodes c.self.inside.uses) c.self.inside.uses.len (numbers c.self.inside.bare) (place_in numbers c.self.inside.places) c.self.inside.most c.self.invariant.0 c.self.invariant.1
    c.args.key (numbers c.in-Some.p.now) (ap (option_map numbers) (sym c.in-Some.ensures.value)) (option_copied c.value_of.result)
    (c.value_of.ensures ∙ ap (λ o. option_map (λ (pair : ℕ × g.row.T.Denot). pair.1) (option_and_then (λ u. u) o)) c.get-pair.ensures))

pub returns-in-None : goal.returns-in-None
returns-in-None g c =
    subst (λ (s : CacheState g.row.T.Denot). None ≡ lookup (nat_eq c.args.key) s.entries) c.self.view_is
    (sym (none_peeked (nodes c.self.inside.uses) c.self.inside.uses.len (numbers c.self.inside.bare) (place_in numbers c.self.inside.places) c.self.inside.most c.self.invariant.0 c.self.invariant.1
    c.args.key (ap (option_map numbers) (sym c.in-None.ensures.value))))
