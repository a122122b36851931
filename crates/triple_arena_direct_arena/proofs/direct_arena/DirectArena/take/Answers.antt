use Rattle.std.proofs.Common.{◌∙◌, IsSome, None, map, sym, ap, subst, arith}
use Rattle.std.specs.Int.NonZero.{non_zero_usize_get}
use Rattle.triple_arena_traits.specs.Items.{with_item}
use Rattle.triple_arena_traits.specs.Entries.{entry_in}
use Rattle.triple_arena_traits.specs.laws.ItemLaws.{map-with_item}
use Rattle.triple_arena_traits.proofs.SlotEntries.{entry_item, item_live}
use Rattle.triple_arena_direct_arena.specs.DirectState.{direct_removed, direct_len}
use Rattle.triple_arena_direct_arena.specs.DirectSlot.{direct_slot_entry}
use Rattle.triple_arena_direct_arena.specs.declared.slot.DirectSlot.TheVariants.{Free}
use Rattle.triple_arena_direct_arena.specs.laws.DirectStepLaws.{len_taken}
use Rattle.triple_arena_direct_arena.specs.DirectLayout.{Counts}
use Rattle.triple_arena_direct_arena.proofs.Held.{made, Counts-removed}
use Rattle.triple_arena_direct_arena.proofs.direct_arena.DirectArena.take.Goals as goal

pub overflow_sub-self : goal.overflow_sub-self
overflow_sub-self g c =
    omega (arith, len_taken c.args.self.now (non_zero_usize_get c.args.inx) c.requires, c.self.invariant.counted, ap direct_len c.self.view_is)

pub put-requires-after_bounds : goal.put-requires-after_bounds
put-requires-after_bounds g c κs within =
    let i = non_zero_usize_get c.args.inx in
    item_live (direct_slot_entry g.P.Gen.PtrGen.number) _ i (subst (λ s. IsSome (entry_in s.slots i)) (sym c.self.view_is) c.requires)

pub into_entry-requires-after_bounds : goal.into_entry-requires-after_bounds
into_entry-requires-after_bounds g c κs within =
    let i = non_zero_usize_get c.args.inx in
    subst IsSome (ap (λ s. entry_in s.slots i) (sym c.self.view_is) ∙ entry_item (direct_slot_entry g.P.Gen.PtrGen.number) _ i c.put.result c.put.ensures.value) c.requires

pub returns-clause-entry : goal.returns-clause-entry
returns-clause-entry g c =
    let i = non_zero_usize_get c.args.inx in
    ap (λ s. entry_in s.slots i) (sym c.self.view_is) ∙ entry_item (direct_slot_entry g.P.Gen.PtrGen.number) _ i c.put.result c.put.ensures.value ∙ c.into_entry.ensures

pub invariant_of-self : goal.invariant_of-self
invariant_of-self g c =
    let f = direct_slot_entry g.P.Gen.PtrGen.number in
    let i = non_zero_usize_get c.args.inx in
    (made g.P.Gen.PtrGen.number _ _ _ _ _ (direct_removed c.args.self.now i)
    (ap (map f) (ap g.S.NonZeroInxGenericStack.items c.put.ensures.stack ∙ g.met.S.NonZeroInxGenericStack.items_with_items _ _) ∙ map-with_item f _ i Free ∙ ap (λ s. with_item s.slots i None) c.self.view_is)
    (ap g.S.NonZeroInxGenericStack.room c.put.ensures.stack ∙ g.met.S.NonZeroInxGenericStack.room_with_items _ _ ∙ ap (λ s. s.room) c.self.view_is)
    (ap g.S.NonZeroInxGenericStack.limit c.put.ensures.stack ∙ g.met.S.NonZeroInxGenericStack.limit_with_items _ _ ∙ ap (λ s. s.limit) c.self.view_is)
    (ap (λ s. s.greatest) c.self.view_is)
    (Counts-removed _ c.args.self.now i c.requires (subst (Counts _) c.self.view_is c.self.invariant))).0

pub returns-clause-state : goal.returns-clause-state
returns-clause-state g c =
    let f = direct_slot_entry g.P.Gen.PtrGen.number in
    let i = non_zero_usize_get c.args.inx in
    (made g.P.Gen.PtrGen.number _ _ _ _ _ (direct_removed c.args.self.now i)
    (ap (map f) (ap g.S.NonZeroInxGenericStack.items c.put.ensures.stack ∙ g.met.S.NonZeroInxGenericStack.items_with_items _ _) ∙ map-with_item f _ i Free ∙ ap (λ s. with_item s.slots i None) c.self.view_is)
    (ap g.S.NonZeroInxGenericStack.room c.put.ensures.stack ∙ g.met.S.NonZeroInxGenericStack.room_with_items _ _ ∙ ap (λ s. s.room) c.self.view_is)
    (ap g.S.NonZeroInxGenericStack.limit c.put.ensures.stack ∙ g.met.S.NonZeroInxGenericStack.limit_with_items _ _ ∙ ap (λ s. s.limit) c.self.view_is)
    (ap (λ s. s.greatest) c.self.view_is)
    (Counts-removed _ c.args.self.now i c.requires (subst (Counts _) c.self.view_is c.self.invariant))).1
