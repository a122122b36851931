use Rattle.std.proofs.Common.{◌∙◌, ◌≤◌, length, map, refl, sym, ap, arith}
use Rattle.std.proofs.lemmas.List.{length-map}
use Rattle.triple_arena_traits.proofs.TransferLemmas.{closed_up_slots}
use Rattle.triple_arena_direct_arena.specs.DirectState.{direct_len, direct_capacity, direct_with_slots}
use Rattle.triple_arena_direct_arena.specs.DirectSlot.{direct_slot_entry}
use Rattle.triple_arena_slots.proofs.Resizing.{room_kept}
use Rattle.triple_arena_direct_arena.proofs.Held.{made, Counts-slots}
use Rattle.triple_arena_direct_arena.proofs.direct_arena.DirectArena.take_over.Goals as goal

pub invariant_of-self : goal.invariant_of-self
invariant_of-self g c =
    let taken = c.uncounted_take_over-self-inside in
    let items = g.S.NonZeroInxGenericStack.items taken.new.self.stack in
    let xs = map (direct_slot_entry g.P.Gen.PtrGen.number) items in
    let full = closed_up_slots (g.P.Gen.PtrGen.number c.args.generation) _ xs taken.ensures.transferred.stands in
    let size = length-map items (direct_slot_entry g.P.Gen.PtrGen.number) ∙ taken.ensures.many in
    let fits : length xs ≤ direct_capacity c.args.self.now = omega (arith, size, c.requires.fits) in
    (made g.P.Gen.PtrGen.number _ _ _ _ _ (direct_with_slots c.args.self.now xs) refl
    (taken.ensures.room ∙ ap g.S.NonZeroInxGenericStack.room c.clear.ensures ∙ g.met.S.NonZeroInxGenericStack.room_with_items _ _ ∙ ap g.S.NonZeroInxGenericStack.room c.uncounted_stack_mut.ensures.value ∙ ap (λ s. s.room) c.self.view_is)
    (taken.ensures.limit ∙ ap g.S.NonZeroInxGenericStack.limit c.clear.ensures ∙ g.met.S.NonZeroInxGenericStack.limit_with_items _ _ ∙ ap g.S.NonZeroInxGenericStack.limit c.uncounted_stack_mut.ensures.value ∙ ap (λ s. s.limit) c.self.view_is)
    (ap (λ s. s.greatest) c.self.view_is)
    (Counts-slots _ c.args.self.now xs (taken.ensures.count ∙ sym size ∙ sym full.1) fits)).0

pub returns : goal.returns
returns g c =
    let taken = c.uncounted_take_over-self-inside in
    let items = g.S.NonZeroInxGenericStack.items taken.new.self.stack in
    let xs = map (direct_slot_entry g.P.Gen.PtrGen.number) items in
    let full = closed_up_slots (g.P.Gen.PtrGen.number c.args.generation) _ xs taken.ensures.transferred.stands in
    let size = length-map items (direct_slot_entry g.P.Gen.PtrGen.number) ∙ taken.ensures.many in
    let fits : length xs ≤ direct_capacity c.args.self.now = omega (arith, size, c.requires.fits) in
    let both = made g.P.Gen.PtrGen.number _ _ _ _ _ (direct_with_slots c.args.self.now xs) refl
    (taken.ensures.room ∙ ap g.S.NonZeroInxGenericStack.room c.clear.ensures ∙ g.met.S.NonZeroInxGenericStack.room_with_items _ _ ∙ ap g.S.NonZeroInxGenericStack.room c.uncounted_stack_mut.ensures.value ∙ ap (λ s. s.room) c.self.view_is)
    (taken.ensures.limit ∙ ap g.S.NonZeroInxGenericStack.limit c.clear.ensures ∙ g.met.S.NonZeroInxGenericStack.limit_with_items _ _ ∙ ap g.S.NonZeroInxGenericStack.limit c.uncounted_stack_mut.ensures.value ∙ ap (λ s. s.limit) c.self.view_is)
    (ap (λ s. s.greatest) c.self.view_is)
    (Counts-slots _ c.args.self.now xs (taken.ensures.count ∙ sym size ∙ sym full.1) fits) in
    record {
      transferred = (xs, taken.ensures.transferred, both.1, size);
      emptied = taken.ensures.emptied;
      counted = ap direct_len both.1 ∙ full.1 ∙ size;
    }

pub uncounted_take_over-self-inside-requires-clause-empty : goal.uncounted_take_over-self-inside-requires-clause-empty
uncounted_take_over-self-inside-requires-clause-empty g c κs within = ap g.S.NonZeroInxGenericStack.items c.clear.ensures ∙ g.met.S.NonZeroInxGenericStack.items_with_items _ _

pub uncounted_take_over-self-inside-requires-clause-fits : goal.uncounted_take_over-self-inside-requires-clause-fits
uncounted_take_over-self-inside-requires-clause-fits g c κs within =
    room_kept _ _ _ _ _ (ap g.S.NonZeroInxGenericStack.room c.clear.ensures ∙ g.met.S.NonZeroInxGenericStack.room_with_items _ _ ∙ ap g.S.NonZeroInxGenericStack.room c.uncounted_stack_mut.ensures.value)
    (ap g.S.NonZeroInxGenericStack.limit c.clear.ensures ∙ g.met.S.NonZeroInxGenericStack.limit_with_items _ _ ∙ ap g.S.NonZeroInxGenericStack.limit c.uncounted_stack_mut.ensures.value)
    (omega (arith, c.requires.fits, ap direct_capacity c.self.view_is))
