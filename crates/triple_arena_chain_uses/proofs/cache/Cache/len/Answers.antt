use Rattle.std.proofs.Common.{suc, ◌≡◌, ℕ, ◌-◌, ◌≤◌, length, subst, arith}
use Rattle.triple_arena_chain.specs.Pointers.{Pointer}
use Rattle.triple_arena_chain.specs.Chains.{nodes}
use Rattle.triple_arena_chain_uses.specs.Cache.{CacheState, place_in}
use Rattle.triple_arena_chain_uses.proofs.Caching.{counted_entries, entries_within}
use Rattle.triple_arena_chain_uses.proofs.cache.Cache.len.Goals as goal

abbrev numbers : ℕ × ℕ → Pointer
numbers p = (suc p.0, suc p.1)

pub returns-clause-value : goal.returns-clause-value
returns-clause-value g c =
    let all = counted_entries (nodes c.self.inside.uses) c.self.inside.uses.len (numbers c.self.inside.bare) (place_in numbers c.self.inside.places) c.self.inside.most c.self.invariant.0 c.self.invariant.1 in
    subst (λ (s : CacheState g.row.T.Denot). c.len.result - 1 ≡ length s.entries) c.self.view_is (omega (arith, all, c.len.ensures.value))

pub returns-clause-within : goal.returns-clause-within
returns-clause-within g c =
    subst (λ (s : CacheState g.row.T.Denot). length s.entries ≤ s.most) c.self.view_is
    (entries_within (nodes c.self.inside.uses) c.self.inside.uses.len (numbers c.self.inside.bare) (place_in numbers c.self.inside.places) c.self.inside.most c.self.invariant.0 c.self.invariant.1)
