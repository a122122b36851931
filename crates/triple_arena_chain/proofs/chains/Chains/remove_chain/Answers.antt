use Rattle.std.proofs.Common.{◌≡◌, ◌-◌, ◌||◌, not, IsSome, refl, sym, ap, subst, ◌∙◌, arith}
use Rattle.triple_arena_base.specs.Invalidation.{allowed_option, is_success_option}
use Rattle.triple_arena_chain.specs.Chains.{nodes}
use Rattle.triple_arena_chain.specs.Endings.{EndsEntries}
use Rattle.triple_arena_chain.specs.laws.NodeLaws.{value_there}
use Rattle.triple_arena_chain.specs.laws.TellingLaws.{allowed_told, wrap_told, none_ends, entry_ends_then}
use Rattle.triple_arena_chain.proofs.Thinning.{thinned_none, beside_there, still, one_less, none_left}
use Rattle.triple_arena_chain.proofs.chains.Chains.remove_chain.Goals as goal

pub chain-init : goal.chain-init
chain-init g c =
    let there : IsSome (nodes c.args.self.now (g.P.Ptr.numbers c.args.p)) = value_there (nodes c.args.self.now (g.P.Ptr.numbers c.args.p)) c.in-Some._value.now c.in-Some.ensures in
    record {
      thin = thinned_none (nodes c.args.self.now) (g.P.Ptr.numbers c.args.p);
      there = there;
      fewer = omega (arith, c.len-all.ensures.value);
      room = record { capacity = refl; limit = refl };
      ended = none_ends g.A.ArenaStates.with_value g.A.ArenaStates.removes g.A.ArenaStates.ending_wraps g.A.ArenaStates.fits g.P.Gen.PtrGen.generations c.args.self.now.arena;
    }

pub let_go-wrapped-requires-after_bounds : goal.let_go-wrapped-requires-after_bounds
let_go-wrapped-requires-after_bounds g c κs within = beside_there (nodes c.chain.self) (g.P.Ptr.numbers c.args.p) (g.P.Ptr.numbers c.in-Some-beside.q) c.in-Some-beside.ensures.linked c.in-Some-beside.ensures.some

pub chain-smaller : goal.chain-smaller
chain-smaller g c = omega (arith, c.let_go-wrapped.ensures.len)

pub chain-preserved : goal.chain-preserved
chain-preserved g c =
    let old = nodes c.args.self.now in
    let cur = nodes c.chain.self in
    let new = nodes c.let_go-wrapped.new.self in
    let p = g.P.Ptr.numbers c.args.p in
    let q = g.P.Ptr.numbers c.in-Some-beside.q in
    record {
      thin = one_less old cur p c.in-Some-beside.ensures.linked c.chain.invariant.thin q new c.in-Some-beside.ensures.some c.let_go-wrapped.ensures.removed;
      there = still cur q new c.in-Some-beside.ensures.linked c.let_go-wrapped.ensures.removed p c.chain.invariant.there (λ e. c.in-Some-beside.ensures.some.0 (sym e));
      fewer = omega (arith, c.let_go-wrapped.ensures.len, c.chain.invariant.fewer);
      room = record { capacity = c.let_go-wrapped.ensures.room.capacity ∙ c.chain.invariant.room.capacity; limit = c.let_go-wrapped.ensures.room.limit ∙ c.chain.invariant.room.limit };
      ended =
          entry_ends_then g.A.ArenaStates.with_value g.A.ArenaStates.removes g.A.ArenaStates.ending_wraps g.A.ArenaStates.fits g.P.Gen.PtrGen.generations c.args.self.now.arena c.chain.wrapped c.chain.self.arena q
          c.let_go-wrapped.result c.let_go-wrapped.new.self.arena c.let_go-wrapped.ensures.wrapped c.chain.invariant.ended c.let_go-wrapped.ensures.ended;
    }

pub returns-clause-removed : goal.returns-clause-removed
returns-clause-removed g c =
    let old = nodes c.args.self.now in
    let cur = nodes c.chain.self in
    let p = g.P.Ptr.numbers c.args.p in
    none_left old cur p c.in_default-beside.ensures.linked c.chain.invariant.thin (c.in_default-beside.ensures.none refl) (nodes c.let_go-wrapped-2.new.self) c.let_go-wrapped-2.ensures.removed

pub returns-clause-len : goal.returns-clause-len
returns-clause-len g c =
    let count : allowed_option c.telling.result ≡ c.len-all.result - c.len.result =
    ap allowed_option c.telling.ensures ∙ allowed_told (c.chain.wrapped || c.let_go-wrapped-2.result) (c.len-all.result - c.len.result) in
    omega (arith, count, c.let_go-wrapped-2.ensures.len, c.chain.invariant.fewer, c.len-all.ensures.value, c.len.ensures.value)

pub returns-clause-ended : goal.returns-clause-ended
returns-clause-ended g c =
    let wrap : (c.chain.wrapped || c.let_go-wrapped-2.result) ≡ not (is_success_option c.telling.result) =
    sym (ap (λ r. not (is_success_option r)) c.telling.ensures ∙ wrap_told (c.chain.wrapped || c.let_go-wrapped-2.result) (c.len-all.result - c.len.result)) in
    subst (λ w. EndsEntries g.A.ArenaStates.removes g.A.ArenaStates.with_value g.A.ArenaStates.fits g.P.Gen.PtrGen.generations g.A.ArenaStates.ending_wraps c.args.self.now.arena w c.let_go-wrapped-2.new.self.arena) wrap
    (entry_ends_then g.A.ArenaStates.with_value g.A.ArenaStates.removes g.A.ArenaStates.ending_wraps g.A.ArenaStates.fits g.P.Gen.PtrGen.generations c.args.self.now.arena c.chain.wrapped c.chain.self.arena (g.P.Ptr.numbers c.args.p)
    c.let_go-wrapped-2.result c.let_go-wrapped-2.new.self.arena c.let_go-wrapped-2.ensures.wrapped c.chain.invariant.ended c.let_go-wrapped-2.ensures.ended)

pub returns-clause-room : goal.returns-clause-room
returns-clause-room g c = record {
  capacity = c.let_go-wrapped-2.ensures.room.capacity ∙ c.chain.invariant.room.capacity;
  limit = c.let_go-wrapped-2.ensures.room.limit ∙ c.chain.invariant.room.limit;
}
