use Rattle.std.proofs.Common.{◌≡◌, ◌∙◌, Some, IsSome, sym, ap, subst, refl}
use Rattle.std.specs.Int.NonZero.{non_zero_usize_get}
use Rattle.std.specs.Option.{option_map}
use Rattle.triple_arena_traits.specs.Items.{item}
use Rattle.triple_arena_traits.specs.laws.ItemLaws.{item_at, with_item_at}
use Rattle.triple_arena_traits.proofs.Present.{some_mapped}
use Rattle.triple_arena_traits.proofs.SlotEntries.{entry_item, item_live}
use Rattle.triple_arena_slots.specs.Lends.{with_value_at}
use Rattle.triple_arena_slots.proofs.slot_stack.SlotStack.uncounted_value_mut.Goals as goal

pub unwrap-slot-requires : goal.unwrap-slot-requires
unwrap-slot-requires g c =
    let items = g.S.NonZeroInxGenericStack.items c.args.self.now.stack in
    let inx = non_zero_usize_get c.args.inx in
    some_mapped _ c.get_mut.result _ (rw c.uncounted_stack_mut.ensures.value at c.get_mut.ensures.value) (subst IsSome (item_at items inx c.args.inx.ok) (item_live g.X.EntrySlot.entry items inx c.requires))

pub value_mut-requires-after_bounds : goal.value_mut-requires-after_bounds
value_mut-requires-after_bounds g c κs within =
    let items = g.S.NonZeroInxGenericStack.items c.args.self.now.stack in
    let inx = non_zero_usize_get c.args.inx in
    let found = item_at items inx c.args.inx.ok ∙ sym (rw c.unwrap-slot.ensures at (rw c.uncounted_stack_mut.ensures.value at c.get_mut.ensures.value)) in
    subst IsSome (entry_item g.X.EntrySlot.entry items inx c.unwrap-slot.result.now found) c.requires

pub returns : goal.returns
returns g c =
    let items = g.S.NonZeroInxGenericStack.items c.args.self.now.stack in
    let inx = non_zero_usize_get c.args.inx in
    let slot = c.unwrap-slot.result.now in
    let found : item items inx ≡ Some slot = item_at items inx c.args.inx.ok ∙ sym (rw c.unwrap-slot.ensures at (rw c.uncounted_stack_mut.ensures.value at c.get_mut.ensures.value)) in (
      (
        refl,
        λ w. rw c.uncounted_stack_mut.ensures.value (
            ap (λ es. record c.args.self.now { stack = g.S.NonZeroInxGenericStack.with_items c.args.self.now.stack es })
            (sym (with_item_at items inx (g.X.EntrySlot.with_value slot w) c.args.inx.ok) ∙ sym (ap (λ o. with_value_at g.X.EntrySlot.with_value items inx o w) found))),
      ),
      record {
        writes_back = tt;
        value = ap (option_map (λ e. e.1)) (entry_item g.X.EntrySlot.entry items inx slot found) ∙ c.value_mut.ensures.value;
      },
    )
