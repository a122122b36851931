use Rattle.std.proofs.Common.{false, IsSome, refl, sym, subst}
use Rattle.triple_arena_base.specs.Invalidation.{allowed_option}
use Rattle.triple_arena_chain.specs.Chains.{nodes}
use Rattle.triple_arena_surject.specs.Rings.{counts, IsSound}
use Rattle.triple_arena_surject.specs.Surject.{key_of}
use Rattle.triple_arena_chain.specs.laws.ResultLaws.{on_err}
use Rattle.triple_arena_surject.proofs.Options.{some_of_map}
use Rattle.triple_arena_surject.proofs.States.{read}
use Rattle.triple_arena_surject.proofs.Renaming.{sound_moved, renamed_state, maps_keys}
use Rattle.triple_arena_surject.proofs.surject.SurjectArena.compress.Goals as goal

pub invariant_of-self : goal.invariant_of-self
invariant_of-self g c =
    let slots = g.B.ArenaStates.slots c.self.inside.sets in
    subst (λ k. IsSound g.P.Ptr.numbers (nodes k) (counts slots)) (sym (on_err _ c.compress.result c.compress.ensures.refused c.in_default.not-Ok)) c.self.invariant

pub invariant_of-self-2 : goal.invariant_of-self-2
invariant_of-self-2 g c =
    let keys = c.self.inside.keys in
    let keys' = c.compress.new.self in
    let rename = g.A.CompactArenaTrait.rank keys.arena false in
    sound_moved g.P.Ptr.numbers keys keys' rename c.in-Ok.ensures.kept.moved c.len-before.ensures.counted c.len-after.ensures.counted c.compress.ensures.size.len (counts (g.B.ArenaStates.slots c.self.inside.sets)) c.self.invariant

pub returns-clause-map : goal.returns-clause-map
returns-clause-map g c =
    let numbers = g.P.Ptr.numbers in
    let keys = c.self.inside.keys in
    let keys' = c.compress.new.self in
    let sets = c.self.inside.sets in
    let rename = g.A.CompactArenaTrait.rank keys.arena false in
    let map = c.in-Ok.ensures.map in
    let was = read numbers sets keys (g.B.ArenaStates.slots sets) (g.B.ArenaStates.capacity sets) (g.B.ArenaStates.limit sets) _ refl in
    let is = read numbers sets keys' (g.B.ArenaStates.slots sets) (g.B.ArenaStates.capacity sets) (g.B.ArenaStates.limit sets) _ refl in
    rw (← c.self.view_is) (record {
      tells = map.tells;
      maps = maps_keys numbers keys keys' rename c.in-Ok.ensures.kept.moved c.len-before.ensures.counted c.len-after.ensures.counted c.compress.ensures.size.len was is numbers (allowed_option c.in-Ok.answer).slots map.maps;
    })

pub returns-clause-kept : goal.returns-clause-kept
returns-clause-kept g c =
    let numbers = g.P.Ptr.numbers in
    let keys = c.self.inside.keys in
    let keys' = c.compress.new.self in
    let sets = c.self.inside.sets in
    let rename = g.A.CompactArenaTrait.rank keys.arena false in
    let kept = c.in-Ok.ensures.kept in
    let was = read numbers sets keys (g.B.ArenaStates.slots sets) (g.B.ArenaStates.capacity sets) (g.B.ArenaStates.limit sets) _ refl in
    let is = read numbers sets keys' (g.B.ArenaStates.slots sets) (g.B.ArenaStates.capacity sets) (g.B.ArenaStates.limit sets) _ refl in
    rw (← c.self.view_is) (record {
      renamed = renamed_state numbers keys keys' rename kept.moved c.len-before.ensures.counted c.len-after.ensures.counted c.compress.ensures.size.len was is;
      ranked = kept.ranked;
      packed = λ p some. kept.packed p (some_of_map (key_of numbers) (nodes keys' p) (subst IsSome (is.keys p) some));
      history = kept.history;
      begun = kept.begun;
    })
