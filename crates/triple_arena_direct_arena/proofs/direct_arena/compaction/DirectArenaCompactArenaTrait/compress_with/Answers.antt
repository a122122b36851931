use Rattle.std.proofs.Common.{◌∙◌, ap, subst, map, arith}
use Rattle.std.proofs.lemmas.List.{length-map}
use Rattle.triple_arena_traits.specs.laws.MoveLaws.{count-moved}
use Rattle.triple_arena_direct_arena.specs.DirectState.{direct_compressed, direct_capacity}
use Rattle.triple_arena_direct_arena.specs.laws.DirectCompressionLaws.{keys-compressed}
use Rattle.triple_arena_direct_arena.specs.DirectSlot.{direct_slot_entry}
use Rattle.triple_arena_direct_arena.specs.DirectLayout.{Counts}
use Rattle.triple_arena_direct_arena.proofs.Held.{made}
use Rattle.triple_arena_direct_arena.proofs.Compaction.{closed_state, Counts-compressed, len-compressed}
use Rattle.triple_arena_direct_arena.proofs.direct_arena.compaction.DirectArenaCompactArenaTrait.compress_with.Goals as goal

pub close_up-requires-clause-indexed : goal.close_up-requires-clause-indexed
close_up-requires-clause-indexed g c =
    rw c.uncounted_stack_mut.ensures.value (omega (arith, c.self.invariant.fits, length-map (g.S.NonZeroInxGenericStack.items c.self.inside.slots.stack) (direct_slot_entry g.P.Gen.PtrGen.number)))

pub invariant_of-self : goal.invariant_of-self
invariant_of-self g c =
    let m = rw c.uncounted_stack_mut.ensures.value at c.close_up.ensures.moved in
    let closed = closed_state g.P.Ptr.numbers (goal.F-step g) c.args.f (map (direct_slot_entry g.P.Gen.PtrGen.number) (g.S.NonZeroInxGenericStack.items c.self.inside.slots.stack)) _ c.args.self.now m.0 (ap (λ s. s.slots) c.self.view_is) m.1 m.2 in
    (made g.P.Gen.PtrGen.number _ _ _ _ _ (direct_compressed c.args.self.now m.0)
    closed.1
    ((rw c.uncounted_stack_mut.ensures.value at c.close_up.ensures.room) ∙ ap (λ s. s.room) c.self.view_is)
    ((rw c.uncounted_stack_mut.ensures.value at c.close_up.ensures.limit) ∙ ap (λ s. s.limit) c.self.view_is)
    (ap (λ s. s.greatest) c.self.view_is)
    (Counts-compressed _ c.args.self.now m.0 closed.2 (subst (Counts _) c.self.view_is c.self.invariant))).0

pub returns-clause-moved : goal.returns-clause-moved
returns-clause-moved g c =
    let m = rw c.uncounted_stack_mut.ensures.value at c.close_up.ensures.moved in
    let closed = closed_state g.P.Ptr.numbers (goal.F-step g) c.args.f (map (direct_slot_entry g.P.Gen.PtrGen.number) (g.S.NonZeroInxGenericStack.items c.self.inside.slots.stack)) _ c.args.self.now m.0 (ap (λ s. s.slots) c.self.view_is) m.1 m.2 in (
      m.0,
      closed.0,
      (made g.P.Gen.PtrGen.number _ _ _ _ _ (direct_compressed c.args.self.now m.0)
          closed.1
          ((rw c.uncounted_stack_mut.ensures.value at c.close_up.ensures.room) ∙ ap (λ s. s.room) c.self.view_is)
          ((rw c.uncounted_stack_mut.ensures.value at c.close_up.ensures.limit) ∙ ap (λ s. s.limit) c.self.view_is)
          (ap (λ s. s.greatest) c.self.view_is)
          (Counts-compressed _ c.args.self.now m.0 closed.2 (subst (Counts _) c.self.view_is c.self.invariant))).1,
    )

pub returns-clause-keys : goal.returns-clause-keys
returns-clause-keys g c =
    let m = returns-clause-moved g c in
    keys-compressed c.args.self.now _ m.0 m.2 (count-moved g.P.Ptr.numbers (goal.F-step g) _ c.args.f c.args.self.now.slots m.0 m.1)

pub returns-clause-len : goal.returns-clause-len
returns-clause-len g c =
    let m = returns-clause-moved g c in
    len-compressed c.args.self.now _ m.0 m.2 (count-moved g.P.Ptr.numbers (goal.F-step g) _ c.args.f c.args.self.now.slots m.0 m.1)

pub returns-clause-limit : goal.returns-clause-limit
returns-clause-limit g c = ap (λ s. s.limit) (returns-clause-moved g c).2

pub returns-clause-capacity : goal.returns-clause-capacity
returns-clause-capacity g c = ap direct_capacity (returns-clause-moved g c).2

pub returns-clause-history : goal.returns-clause-history
returns-clause-history g c kept counts h fits = absurd fits

pub returns-clause-begun : goal.returns-clause-begun
returns-clause-begun g c h fits = absurd fits
