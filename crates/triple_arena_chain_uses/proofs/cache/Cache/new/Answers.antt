use Rattle.std.specs.Prelude.{[]}
use Rattle.std.proofs.Common.{suc, ◌≡◌, ℕ, nat_eq, Err, ap, ◌∙◌, arith}
use Rattle.std.specs.Map.{lookup}
use Rattle.std.specs.Option.{option_map}
use Rattle.triple_arena_chain.specs.Pointers.{Pointer}
use Rattle.triple_arena_chain.specs.Chains.{nodes}
use Rattle.triple_arena_chain_uses.specs.Cache.{place_in}
use Rattle.triple_arena_chain_uses.proofs.Caching.{on_ok, new_order, memory_refused}
use Rattle.triple_arena_chain.specs.Chains.{IsJoined}
use Rattle.triple_arena_chain_uses.proofs.Ordering.{entries_read}
use Rattle.triple_arena_chain_uses.proofs.cache.Cache.new.Goals as goal

abbrev numbers : ℕ × ℕ → Pointer
numbers p = (suc p.0, suc p.1)

pub invariant_of-result : goal.invariant_of-result
invariant_of-result g c =
    let joined = on_ok (IsJoined (nodes c.insert_new.new.self) (numbers c.in-Ok.bare) (numbers c.in-Ok.bare) (nodes c.join-ring.new.self)) c.join-ring.result c.unwrap.result c.unwrap.ensures c.join-ring.ensures.joined in
    let one : c.join-ring.new.self.len ≡ 1 = omega (arith, c.join-ring.ensures.size.len, c.in-Ok.ensures.size.len, c.new-uses.ensures.empty.len) in
    let is = new_order (nodes c.insert_new.new.self) (numbers c.in-Ok.bare) (nodes c.new-uses.result) c.in-Ok.ensures.inserted (nodes c.join-ring.new.self) joined c.len-len.ensures.linked c.join-ring.new.self.len one
    (place_in numbers c.new-places.result) (λ k. ap (λ es. option_map numbers (lookup (nat_eq k) es)) c.new-places.ensures.empty) c.get.result (omega (arith, c.get.ensures.nonzero)) in
    ([], is, c.join-ring.ensures.size.same_limit ∙ c.in-Ok.ensures.size.limit ∙ c.new-uses.ensures.empty.limit)

pub returns-clause-made : goal.returns-clause-made
returns-clause-made g c =
    let joined = on_ok (IsJoined (nodes c.insert_new.new.self) (numbers c.in-Ok.bare) (numbers c.in-Ok.bare) (nodes c.join-ring.new.self)) c.join-ring.result c.unwrap.result c.unwrap.ensures c.join-ring.ensures.joined in
    let one : c.join-ring.new.self.len ≡ 1 = omega (arith, c.join-ring.ensures.size.len, c.in-Ok.ensures.size.len, c.new-uses.ensures.empty.len) in
    let is = new_order (nodes c.insert_new.new.self) (numbers c.in-Ok.bare) (nodes c.new-uses.result) c.in-Ok.ensures.inserted (nodes c.join-ring.new.self) joined c.len-len.ensures.linked c.join-ring.new.self.len one
    (place_in numbers c.new-places.result) (λ k. ap (λ es. option_map numbers (lookup (nat_eq k) es)) c.new-places.ensures.empty) c.get.result (omega (arith, c.get.ensures.nonzero)) in
    ap (λ es. record { entries = es; most = c.get.result }) (entries_read (nodes c.join-ring.new.self) c.join-ring.new.self.len (numbers c.in-Ok.bare) (place_in numbers c.new-places.result) c.get.result [] is)
    ∙ ap (λ m. record { entries = []; most = m }) c.get.ensures.value

pub returns-in-Err-clause-refusal : goal.returns-in-Err-clause-refusal
returns-in-Err-clause-refusal g c =
    memory_refused c.new-uses.result.capacity c.new-uses.result.limit c.new-uses.result.len (Err c.in-Err.refusal) c.new-uses.ensures.empty.limit c.in-Err.ensures.room.refusal c.in-Err.ensures.room.no_room
