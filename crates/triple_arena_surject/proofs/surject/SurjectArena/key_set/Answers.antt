use Rattle.std.proofs.Common.{sym, ◌∙◌, subst}
use Rattle.triple_arena_chain.specs.Chains.{nodes}
use Rattle.triple_arena_chain.specs.laws.ResultLaws.{if_ok_1}
use Rattle.triple_arena_surject.specs.Surject.{AreKeys}
use Rattle.triple_arena_surject.proofs.Rounds.{ring_from}
use Rattle.triple_arena_surject.proofs.States.{read, shared_there, are_keys, no_keys, set_is}
use Rattle.triple_arena_surject.proofs.surject.SurjectArena.key_set.Goals as goal

pub ring-requires-clause-round : goal.ring-requires-clause-round
ring-requires-clause-round g c κs within =
    let numbers = g.P.Ptr.numbers in
    let p = numbers c.args.p in
    let name = numbers c.in-Some.set in
    let count = c.size_of-count.result in
    let there = shared_there (g.B.ArenaStates.slots c.self.inside.sets) c.self.invariant p name (sym c.in-Some.ensures) in
    let from = ring_from numbers (nodes c.self.inside.keys) c.len-len.ensures.linked name count (c.self.invariant.rings name count (c.size_of-count.ensures there)) p (sym c.in-Some.ensures) in
    (name, from.0, from.1)

pub returns-in-Some-clause-keys : goal.returns-in-Some-clause-keys
returns-in-Some-clause-keys g c =
    let p = g.P.Ptr.numbers c.args.p in
    let read_is = read g.P.Ptr.numbers _ c.self.inside.keys (g.B.ArenaStates.slots c.self.inside.sets) _ _ _ c.self.view_is in
    if_ok_1 _ _ c.ring.result c.ring.ensures
    (λ all is. subst (AreKeys c.args.self.now p) (sym is.3) (are_keys read_is c.len-len.ensures.linked p is.0 c.size_of-count.result is.1 is.2))

pub returns-in-None-clause-keys : goal.returns-in-None-clause-keys
returns-in-None-clause-keys g c =
    let p = g.P.Ptr.numbers c.args.p in
    rw c.new.ensures.items
    (no_keys c.args.self.now p (set_is (read g.P.Ptr.numbers _ c.self.inside.keys (g.B.ArenaStates.slots c.self.inside.sets) _ _ _ c.self.view_is) p ∙ sym c.in-None.ensures))
