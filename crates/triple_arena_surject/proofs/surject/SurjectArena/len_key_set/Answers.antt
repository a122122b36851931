use Rattle.std.proofs.Common.{rules, ◌≡◌, ◌≤◌, Some, refl, sym, ap, subst, arith}
use Rattle.std.specs.Option.{option_map}
use Rattle.triple_arena.specs.Entries.{look_up, entry_count}
use Rattle.triple_arena_chain.specs.Chains.{nodes}
use Rattle.triple_arena_surject.specs.declared.member.Shared.{Shared}
use Rattle.triple_arena_surject.proofs.Rounds.{no_more_keys}
use Rattle.triple_arena_surject.proofs.States.{read, no_share, has_keys, found_there}
use Rattle.triple_arena_surject.proofs.surject.SurjectArena.len_key_set.Goals as goal

pub returns-in-Some-clause-keys : goal.returns-in-Some-clause-keys
returns-in-Some-clause-keys g c =
    let slots = g.B.ArenaStates.slots c.self.inside.sets in
    let name = g.P.Ptr.numbers c.in_ok-set.set in
    let shared = c.in-Some.shared.now in
    let told : look_up slots name ≡ Some shared = search rules in
    has_keys (read g.P.Ptr.numbers _ c.self.inside.keys slots _ _ _ c.self.view_is) c.self.invariant c.len-len.ensures.linked (g.P.Ptr.numbers c.args.p) name shared (sym c.in_ok-set.ensures) told

pub returns-in-Some-clause-fits : goal.returns-in-Some-clause-fits
returns-in-Some-clause-fits g c =
    let keys = c.self.inside.keys in
    let name = g.P.Ptr.numbers c.in_ok-set.set in
    let shared = c.in-Some.shared.now in
    let told : look_up (g.B.ArenaStates.slots c.self.inside.sets) name ≡ Some shared = search rules in
    let few : shared.keys ≤ entry_count keys.slots = no_more_keys g.P.Ptr.numbers (nodes keys) c.len-len.ensures.linked name shared.keys keys.slots (λ q. refl)
    (c.self.invariant.rings name shared.keys (ap (option_map (λ (s : Shared g.row.V.Denot). s.keys)) told)) in
    subst (λ s. shared.keys ≤ s.len_keys) c.self.view_is (omega (arith, few, c.len-len.ensures.counted))

pub returns-in-None-clause-keys : goal.returns-in-None-clause-keys
returns-in-None-clause-keys g c =
    absurd (no_share (g.B.ArenaStates.slots c.self.inside.sets) c.self.invariant (g.P.Ptr.numbers c.args.p) (g.P.Ptr.numbers c.in_ok-set.set) (sym c.in_ok-set.ensures) (sym c.in-None.ensures.value))

pub returns-in-Some-clause-there : goal.returns-in-Some-clause-there
returns-in-Some-clause-there g c = λ _.
    found_there (read g.P.Ptr.numbers _ c.self.inside.keys (g.B.ArenaStates.slots c.self.inside.sets) _ _ _ c.self.view_is) (g.P.Ptr.numbers c.args.p) (g.P.Ptr.numbers c.in_ok-set.set) (sym c.in_ok-set.ensures)
