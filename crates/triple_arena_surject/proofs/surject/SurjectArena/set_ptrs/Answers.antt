use Rattle.std.proofs.Common.{◌≡◌, ◌∷◌, length, sym, ap, ◌∙◌, subst}
use Rattle.triple_arena_chain.specs.Chains.{nodes}
use Rattle.triple_arena_surject.specs.Surject.{AreKeys}
use Rattle.triple_arena_surject.proofs.RingWalks.{along_round}
use Rattle.triple_arena_surject.proofs.Rounds.{ring_from}
use Rattle.triple_arena_surject.proofs.States.{read, shared_there, are_keys, no_keys, set_is}
use Rattle.triple_arena_surject.proofs.surject.SurjectArena.set_ptrs.Goals as goal

pub invariant_of-t-8 : goal.invariant_of-t-8
invariant_of-t-8 g c =
    let numbers = g.P.Ptr.numbers in
    let p = numbers c.args.p in
    let name = numbers c.in-Some.set in
    let found = nodes c.self.inside.keys in
    let count = c.size_of.result in
    let there = shared_there (g.B.ArenaStates.slots c.self.inside.sets) c.self.invariant p name (sym c.in-Some.ensures) in
    let from = ring_from numbers found c.len-len.ensures.linked name count (c.self.invariant.rings name count (c.size_of.ensures there)) p (sym c.in-Some.ensures) in
    ap length (along_round found p from.0 count from.1.run from.1.size) ∙ from.1.size

pub returns-in-Some : goal.returns-in-Some
returns-in-Some g c =
    let numbers = g.P.Ptr.numbers in
    let p = numbers c.args.p in
    let name = numbers c.in-Some.set in
    let found = nodes c.self.inside.keys in
    let count = c.size_of.result in
    let slots = g.B.ArenaStates.slots c.self.inside.sets in
    let there = shared_there slots c.self.invariant p name (sym c.in-Some.ensures) in
    let from = ring_from numbers found c.len-len.ensures.linked name count (c.self.invariant.rings name count (c.size_of.ensures there)) p (sym c.in-Some.ensures) in
    subst (AreKeys c.args.self.now p) (sym (along_round found p from.0 count from.1.run from.1.size))
    (are_keys (read numbers _ c.self.inside.keys slots _ _ c.args.self.now c.self.view_is) c.len-len.ensures.linked p name count from.0 from.1)

pub returns-in-None : goal.returns-in-None
returns-in-None g c =
    let p = g.P.Ptr.numbers c.args.p in
    no_keys c.args.self.now p (set_is (read g.P.Ptr.numbers _ c.self.inside.keys (g.B.ArenaStates.slots c.self.inside.sets) _ _ _ c.self.view_is) p ∙ sym c.in-None.ensures)
