use Rattle.std.proofs.Common.{◌∙◌, ◌≤◌, length, map, refl, ap, arith}
use Rattle.std.proofs.lemmas.List.{length-map}
use Rattle.triple_arena_direct_arena.specs.DirectState.{direct_capacity, direct_with_slots}
use Rattle.triple_arena_direct_arena.specs.DirectSlot.{direct_slot_entry}
use Rattle.triple_arena_slots.proofs.Resizing.{room_kept}
use Rattle.triple_arena_direct_arena.proofs.Held.{made, Counts-slots}
use Rattle.triple_arena_direct_arena.proofs.direct_arena.DirectArena.hold_copies.Goals as goal

pub invariant_of-self : goal.invariant_of-self
invariant_of-self g c =
    let items = g.S.NonZeroInxGenericStack.items c.uncounted_copy-len.new.self.stack in
    let xs = map (direct_slot_entry g.P.Gen.PtrGen.number) items in
    let fits : length xs ≤ direct_capacity c.args.self.now = omega (arith, c.uncounted_copy-len.ensures.ends, c.requires.fits, length-map items (direct_slot_entry g.P.Gen.PtrGen.number)) in
    (made g.P.Gen.PtrGen.number _ _ _ _ _ (direct_with_slots c.args.self.now xs) refl
    (c.uncounted_copy-len.ensures.room ∙ ap g.S.NonZeroInxGenericStack.room c.clear.ensures ∙ g.met.S.NonZeroInxGenericStack.room_with_items _ _ ∙ ap g.S.NonZeroInxGenericStack.room c.uncounted_stack_mut.ensures.value ∙ ap (λ s. s.room) c.self.view_is)
    (c.uncounted_copy-len.ensures.limit ∙ ap g.S.NonZeroInxGenericStack.limit c.clear.ensures ∙ g.met.S.NonZeroInxGenericStack.limit_with_items _ _ ∙ ap g.S.NonZeroInxGenericStack.limit c.uncounted_stack_mut.ensures.value ∙ ap (λ s. s.limit) c.self.view_is)
    (ap (λ s. s.greatest) c.self.view_is)
    (Counts-slots _ c.args.self.now xs c.uncounted_copy-len.ensures.count fits)).0

pub returns : goal.returns
returns g c =
    let items = g.S.NonZeroInxGenericStack.items c.uncounted_copy-len.new.self.stack in
    let xs = map (direct_slot_entry g.P.Gen.PtrGen.number) items in
    let fits : length xs ≤ direct_capacity c.args.self.now = omega (arith, c.uncounted_copy-len.ensures.ends, c.requires.fits, length-map items (direct_slot_entry g.P.Gen.PtrGen.number)) in
    let both = made g.P.Gen.PtrGen.number _ _ _ _ _ (direct_with_slots c.args.self.now xs) refl
    (c.uncounted_copy-len.ensures.room ∙ ap g.S.NonZeroInxGenericStack.room c.clear.ensures ∙ g.met.S.NonZeroInxGenericStack.room_with_items _ _ ∙ ap g.S.NonZeroInxGenericStack.room c.uncounted_stack_mut.ensures.value ∙ ap (λ s. s.room) c.self.view_is)
    (c.uncounted_copy-len.ensures.limit ∙ ap g.S.NonZeroInxGenericStack.limit c.clear.ensures ∙ g.met.S.NonZeroInxGenericStack.limit_with_items _ _ ∙ ap g.S.NonZeroInxGenericStack.limit c.uncounted_stack_mut.ensures.value ∙ ap (λ s. s.limit) c.self.view_is)
    (ap (λ s. s.greatest) c.self.view_is)
    (Counts-slots _ c.args.self.now xs c.uncounted_copy-len.ensures.count fits) in
    (xs, c.uncounted_copy-len.ensures.copied, both.1)

pub uncounted_copy-len-requires-clause-empty : goal.uncounted_copy-len-requires-clause-empty
uncounted_copy-len-requires-clause-empty g c κs within = ap g.S.NonZeroInxGenericStack.items c.clear.ensures ∙ g.met.S.NonZeroInxGenericStack.items_with_items _ _

pub uncounted_copy-len-requires-clause-fits : goal.uncounted_copy-len-requires-clause-fits
uncounted_copy-len-requires-clause-fits g c κs within =
    room_kept _ _ _ _ _ (ap g.S.NonZeroInxGenericStack.room c.clear.ensures ∙ g.met.S.NonZeroInxGenericStack.room_with_items _ _ ∙ ap g.S.NonZeroInxGenericStack.room c.uncounted_stack_mut.ensures.value)
    (ap g.S.NonZeroInxGenericStack.limit c.clear.ensures ∙ g.met.S.NonZeroInxGenericStack.limit_with_items _ _ ∙ ap g.S.NonZeroInxGenericStack.limit c.uncounted_stack_mut.ensures.value)
    (omega (arith, c.requires.fits, ap direct_capacity c.self.view_is))
