use Rattle.std.proofs.Common.{suc, ◌≡◌, ℕ, ◌≤◌, ◌<◌, length, subst, arith}
use Rattle.triple_arena_chain.specs.Pointers.{Pointer}
use Rattle.triple_arena_chain.specs.Chains.{nodes}
use Rattle.triple_arena_chain_uses.specs.Cache.{CacheState, place_in}
use Rattle.triple_arena_chain_uses.proofs.Caching.{counted_entries, entries_within}
use Rattle.std.proofs.lemmas.Bool.{ltb-true, ltb-false}
use Rattle.triple_arena_chain_uses.proofs.cache.Cache.is_full.Goals as goal

abbrev numbers : ℕ × ℕ → Pointer
numbers p = (suc p.0, suc p.1)

pub returns-clause-full : goal.returns-clause-full
returns-clause-full g c = λ yes.
    let all = counted_entries (nodes c.self.inside.uses) c.self.inside.uses.len (numbers c.self.inside.bare) (place_in numbers c.self.inside.places) c.self.inside.most c.self.invariant.0 c.self.invariant.1 in
    let within = entries_within (nodes c.self.inside.uses) c.self.inside.uses.len (numbers c.self.inside.bare) (place_in numbers c.self.inside.places) c.self.inside.most c.self.invariant.0 c.self.invariant.1 in
    let more : c.self.inside.most < c.len.result = ltb-true c.self.inside.most c.len.result yes in
    subst (λ (s : CacheState g.row.T.Denot). length s.entries ≡ s.most) c.self.view_is (omega (arith, all, within, more, c.len.ensures.value))

pub returns-clause-room : goal.returns-clause-room
returns-clause-room g c = λ no.
    let all = counted_entries (nodes c.self.inside.uses) c.self.inside.uses.len (numbers c.self.inside.bare) (place_in numbers c.self.inside.places) c.self.inside.most c.self.invariant.0 c.self.invariant.1 in
    let less : c.len.result ≤ c.self.inside.most = ltb-false c.self.inside.most c.len.result no in
    subst (λ (s : CacheState g.row.T.Denot). length s.entries < s.most) c.self.view_is (omega (arith, all, less, c.len.ensures.value))

pub returns-clause-some : goal.returns-clause-some
returns-clause-some g c = subst (λ (s : CacheState g.row.T.Denot). 0 < s.most) c.self.view_is c.self.invariant.1.some
