use Rattle.std.proofs.Common.{◌≡◌, ◌∙◌, ◌+◌, IsSome, refl, sym, ap, subst}
use Rattle.std.specs.Int.NonZero.{non_zero_usize_get}
use Rattle.triple_arena_traits.specs.Items.{with_item}
use Rattle.triple_arena_traits.specs.laws.ItemLaws.{item_at, with_item_at}
use Rattle.triple_arena_traits.proofs.Present.{some_mapped}
use Rattle.triple_arena_slots.proofs.slot_stack.SlotStack.touch.Goals as goal

pub unwrap-requires : goal.unwrap-requires
unwrap-requires g c =
    some_mapped _ c.get_mut.result _ c.get_mut.ensures.value (subst IsSome (item_at _ _ c.args.inx.ok) c.requires)

pub returns : goal.returns
returns g c =
    let items = g.S.NonZeroInxGenericStack.items c.args.self.now.stack in
    let inx = non_zero_usize_get c.args.inx in
    let with_items = g.S.NonZeroInxGenericStack.with_items c.args.self.now.stack in
    let count : c.next-self.result ≡ record c.args.self.now.steps { count = c.args.self.now.steps.count + 1 } = ap (λ n. record c.args.self.now.steps { count = n }) c.next-self.ensures in (
      (
        refl,
        λ w.
            ap (λ s. record c.args.self.now { stack = with_items s; steps = c.next-self.result }) (sym (with_item_at items inx w c.args.inx.ok))
            ∙ ap (λ n. record c.args.self.now { stack = with_items (with_item items inx w); steps = n }) count,
      ),
      record {
        writes_back = tt;
        value = item_at items inx c.args.inx.ok ∙ sym (rw c.unwrap.ensures at c.get_mut.ensures.value);
      },
    )
