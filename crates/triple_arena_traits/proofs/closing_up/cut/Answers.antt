use Rattle.std.proofs.Common.{◌∙◌, ◌-◌, IsSome, None, length, map, refl, sym, subst, arith}
use Rattle.std.proofs.lemmas.List.{length-map, length-take-le}
use Rattle.triple_arena_traits.proofs.Compressing.{popped_vacant, cut_on, gap_gone}
use Rattle.triple_arena_traits.proofs.Present.{some_below}
use Rattle.triple_arena_traits.proofs.closing_up.cut.Goals as goal

pub ends-init : goal.ends-init
ends-init g c = (refl, refl, λ kept spare size is. (spare, is))

pub unwrap-requires : goal.unwrap-requires
unwrap-requires g c =
    subst IsSome (sym c.pop.ensures.value) (some_below (g.S.NonZeroInxGenericStack.items c.ends.stack) _ (omega (arith, c.len.ensures, c.ends-test.true)))

pub ends-smaller : goal.ends-smaller
ends-smaller g c =
    let items = g.S.NonZeroInxGenericStack.items c.ends.stack in
    let size = length-take-le (length items - 1) items (omega arith) in
    rw (c.pop.ensures.items, g.met.S.NonZeroInxGenericStack.items_with_items) (omega (arith, size, c.len.ensures, c.ends-test.true))

pub discard-requires-after_bounds : goal.discard-requires-after_bounds
discard-requires-after_bounds g c κs within =
    let now = c.ends.invariant.2 c.requires.0 c.requires.1 c.requires.2 c.requires.3 in
    popped_vacant g.X.EntrySlot.entry c.requires.0 (g.S.NonZeroInxGenericStack.items c.ends.stack) now.0 c.unwrap.result now.1
    (omega (arith, c.requires.2, c.len.ensures, c.ends-test.true)) (sym c.pop.ensures.value ∙ c.unwrap.ensures)

pub ends-preserved : goal.ends-preserved
ends-preserved g c =
    rw c.pop.ensures.items (
      g.met.S.NonZeroInxGenericStack.room_with_items _ _ ∙ c.ends.invariant.0,
      g.met.S.NonZeroInxGenericStack.limit_with_items _ _ ∙ c.ends.invariant.1,
      rw g.met.S.NonZeroInxGenericStack.items_with_items (λ kept spare size is.
          let now = c.ends.invariant.2 kept spare size is in
          cut_on g.X.EntrySlot.entry kept (g.S.NonZeroInxGenericStack.items c.ends.stack) now.0 now.1 (omega (arith, size, c.len.ensures, c.ends-test.true))),
    )

pub returns-clause-slots : goal.returns-clause-slots
returns-clause-slots g c = λ kept spare size is.
    let now = c.ends.invariant.2 kept spare size is in
    gap_gone kept (map g.X.EntrySlot.entry (g.S.NonZeroInxGenericStack.items c.ends.stack)) now.0 None now.1
    (omega (arith, size, c.len.ensures, c.ends-test.false, length-map (g.S.NonZeroInxGenericStack.items c.ends.stack) g.X.EntrySlot.entry))
