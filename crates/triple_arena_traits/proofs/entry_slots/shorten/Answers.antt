use Rattle.std.proofs.Common.{◌∙◌, ◌-◌, IsSome, length, map, take, sym, ap, subst, refl, inl, inr, arith}
use Rattle.std.proofs.lemmas.List.{length-map, length-take-le, take-map}
use Rattle.triple_arena_traits.specs.laws.ItemLaws.{front_popped}
use Rattle.triple_arena_traits.proofs.SlotEntries.{free_popped, none_of}
use Rattle.triple_arena_traits.proofs.Present.{some_below}
use Rattle.triple_arena_traits.proofs.Shortening.{Pops, pops_start, pops_more, pops_end, take_all}
use Rattle.triple_arena_traits.proofs.entry_slots.shorten.Goals as goal

pub unwrap-requires : goal.unwrap-requires
unwrap-requires g c =
    subst IsSome (sym c.pop.ensures.value) (some_below (g.S.NonZeroInxGenericStack.items c.pops.stack) _ (omega (arith, c.ends_free_past.ensures.more c.pops-test.true)))

pub pops-smaller : goal.pops-smaller
pops-smaller g c =
    let items = g.S.NonZeroInxGenericStack.items c.pops.stack in
    let size = length-take-le (length items - 1) items (omega arith) in
    rw (c.pop.ensures.items, g.met.S.NonZeroInxGenericStack.items_with_items) (omega (arith, size, c.ends_free_past.ensures.more c.pops-test.true))

pub discard-requires-after_bounds : goal.discard-requires-after_bounds
discard-requires-after_bounds g c κs within =
    none_of _ (free_popped g.X.EntrySlot.entry (g.S.NonZeroInxGenericStack.items c.pops.stack) c.unwrap.result (c.ends_free_past.ensures.yes c.pops-test.true) (sym c.pop.ensures.value ∙ c.unwrap.ensures))

pub pops-init : goal.pops-init
pops-init g c = (refl, refl, pops_start _ _, sym (take_all _ _ (omega arith)))

pub pops-preserved : goal.pops-preserved
pops-preserved g c =
    let f = g.X.EntrySlot.entry in
    let items = g.S.NonZeroInxGenericStack.items c.pops.stack in
    rw c.pop.ensures.items (
      g.met.S.NonZeroInxGenericStack.room_with_items _ _ ∙ c.pops.invariant.0,
      g.met.S.NonZeroInxGenericStack.limit_with_items _ _ ∙ c.pops.invariant.1,
      rw g.met.S.NonZeroInxGenericStack.items_with_items (subst (Pops c.args.len (map f (g.S.NonZeroInxGenericStack.items c.args.stack.now)))
          (ap (λ n. take (n - 1) (map f items)) (length-map items f) ∙ take-map f (length items - 1) items)
          (pops_more c.args.len (map f (g.S.NonZeroInxGenericStack.items c.args.stack.now)) (map f items) (omega (arith, length-map items f, c.ends_free_past.ensures.more c.pops-test.true)) (c.ends_free_past.ensures.yes c.pops-test.true) c.pops.invariant.2)),
      rw g.met.S.NonZeroInxGenericStack.items_with_items (front_popped _ _ c.pops.invariant.3),
    )

pub returns-clause-slots : goal.returns-clause-slots
returns-clause-slots g c =
    let f = g.X.EntrySlot.entry in
    let items = g.S.NonZeroInxGenericStack.items c.pops.stack in
    pops_end c.args.len (map f (g.S.NonZeroInxGenericStack.items c.args.stack.now)) (map f items)
    (elim (c.ends_free_past.ensures.no c.pops-test.false) [ inl few ↦ inl (omega (arith, length-map items f, few)) | inr live ↦ inr live ])
    c.pops.invariant.2

pub returns-clause-items : goal.returns-clause-items
returns-clause-items g c =
    c.pops.invariant.3
    ∙ ap (λ n. take n (g.S.NonZeroInxGenericStack.items c.args.stack.now)) (sym (length-map (g.S.NonZeroInxGenericStack.items c.pops.stack) g.X.EntrySlot.entry) ∙ ap length (returns-clause-slots g c))
