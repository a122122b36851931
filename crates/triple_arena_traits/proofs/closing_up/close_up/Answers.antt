use Rattle.std.proofs.Common.{◌≡◌, ◌∙◌, ◌+◌, ◌<◌, length, map, Some, None, IsSome, option_copied, sym, ap, subst, refl, arith, of_calls}
use Rattle.std.proofs.lemmas.List.{length-map}
use Rattle.std.specs.Int.NonZero.{non_zero_usize_get}
use Rattle.triple_arena_traits.specs.Items.{item, with_item}
use Rattle.std.specs.Option.{option_map}
use Rattle.triple_arena_traits.specs.Moves.{MoveTurn}
use Rattle.triple_arena_traits.specs.laws.ItemLaws.{length-with_item, with_item_same}
use Rattle.triple_arena_traits.specs.laws.PointerListLaws.{pointer_is}
use Rattle.triple_arena_traits.proofs.Compressing.{CompactAt-start, CompactAt-free_slot, CompactAt-moved_slot, CompactAt-done, place_free_slot, item_inside, number_of_given}
use Rattle.triple_arena_traits.proofs.SlotEntries.{none_of}
use Rattle.triple_arena_traits.proofs.CopyLemmas.{lent_found}
use Rattle.triple_arena_traits.proofs.closing_up.close_up.Goals.{then-is_live, else-is_live}
use Rattle.triple_arena_traits.proofs.closing_up.close_up.Goals as goal

pub moves-init : goal.moves-init
moves-init g c =
    (c.requires.callable, refl, refl, refl, CompactAt-start g.P.Ptr.numbers (MoveTurn g.P.Ptr.numbers (goal.F-step g)) (option_map g.P.Gen.PtrGen.number c.args.generation) c.args.f (map g.X.EntrySlot.entry (g.S.NonZeroInxGenericStack.items c.args.stack.now)))

pub unwrap-requires : goal.unwrap-requires
unwrap-requires g c =
    lent_found c.slot_at.result (subst IsSome (sym c.slot_at.ensures) (item_inside (g.S.NonZeroInxGenericStack.items c.moves.stack) _ c.saturating_add-inx.result.ok (omega (arith, c.saturating_add-inx.ensures, c.moves.invariant.3, c.len-at-end.ensures, c.moves-test.true))))

pub replace-requires-then-is_live : goal.replace-requires-then-is_live
replace-requires-then-is_live g c =
    let items = g.S.NonZeroInxGenericStack.items c.moves.stack in
    let here : non_zero_usize_get c.saturating_add-inx.result ≡ c.moves.at + 1 = omega (arith, c.saturating_add-inx.ensures, c.moves-test.true, c.moves.auto.at-end) in
    let freed : g.S.NonZeroInxGenericStack.items c.replace.new.stack ≡ with_item items (c.moves.at + 1) c.vacant.result = ap g.S.NonZeroInxGenericStack.items c.replace.ensures.stack ∙ g.met.S.NonZeroInxGenericStack.items_with_items _ _ ∙ ap (λ i. with_item items i c.vacant.result) here in
    let size : length (g.S.NonZeroInxGenericStack.items c.replace.new.stack) ≡ length (g.S.NonZeroInxGenericStack.items c.args.stack.now) = ap length freed ∙ length-with_item items (c.moves.at + 1) c.vacant.result ∙ c.moves.invariant.3 in
    item_inside (g.S.NonZeroInxGenericStack.items c.replace.new.stack) _ c.saturating_add-onto.result.ok (omega (arith, c.saturating_add-onto.ensures, size, c.len-at-end.ensures, c.moves-test.true, c.moves.invariant.4.below))

pub discard-requires-after_bounds : goal.discard-requires-after_bounds
discard-requires-after_bounds g c κs within =
    let items = g.S.NonZeroInxGenericStack.items c.moves.stack in
    let first = g.S.NonZeroInxGenericStack.items c.args.stack.now in
    let freed_items = g.S.NonZeroInxGenericStack.items c.replace.new.stack in
    let inside : c.moves.at < length first = omega (arith, c.len-at-end.ensures, c.moves-test.true) in
    let here : non_zero_usize_get c.saturating_add-inx.result ≡ c.moves.at + 1 = omega (arith, c.saturating_add-inx.ensures, c.moves-test.true, c.moves.auto.at-end) in
    let found : item items (c.moves.at + 1) ≡ Some c.replace.result = ap (item items) (sym here) ∙ c.replace.ensures.value in
    let freed : freed_items ≡ with_item items (c.moves.at + 1) c.vacant.result = ap g.S.NonZeroInxGenericStack.items c.replace.ensures.stack ∙ g.met.S.NonZeroInxGenericStack.items_with_items _ _ ∙ ap (λ i. with_item items i c.vacant.result) here in
    let there : non_zero_usize_get c.saturating_add-onto.result ≡ c.moves.to + 1 = omega (arith, c.saturating_add-onto.ensures, c.moves.invariant.4.below, c.moves-test.true, c.moves.auto.at-end) in
    place_free_slot g.X.EntrySlot.entry g.P.Ptr.numbers (MoveTurn g.P.Ptr.numbers (goal.F-step g)) (option_map g.P.Gen.PtrGen.number c.args.generation) first items freed_items c.args.f c.moves.f c.moves.at c.moves.to c.vacant.result c.replace.result c.replace-then-is_live.result c.moves.invariant.4 inside found c.vacant.ensures freed
    (ap (item freed_items) (sym there) ∙ c.replace-then-is_live.ensures.value)

pub moves-preserved : goal.moves-preserved
moves-preserved g c =
    let items = g.S.NonZeroInxGenericStack.items c.moves.stack in
    let first = g.S.NonZeroInxGenericStack.items c.args.stack.now in
    let inside : c.moves.at < length first = omega (arith, c.len-at-end.ensures, c.moves-test.true) in
    let here : non_zero_usize_get c.saturating_add-inx.result ≡ c.moves.at + 1 = omega (arith, c.saturating_add-inx.ensures, c.moves-test.true, c.moves.auto.at-end) in
    elim c.if-is_live.branch [
      | then-is_live w ↦
          let freed_items = g.S.NonZeroInxGenericStack.items w.replace.new.stack in
          let found : item items (c.moves.at + 1) ≡ Some w.replace.result = ap (item items) (sym here) ∙ w.replace.ensures.value in
          let freed : freed_items ≡ with_item items (c.moves.at + 1) w.vacant.result = ap g.S.NonZeroInxGenericStack.items w.replace.ensures.stack ∙ g.met.S.NonZeroInxGenericStack.items_with_items _ _ ∙ ap (λ i. with_item items i w.vacant.result) here in
          let size : length freed_items ≡ length first = ap length freed ∙ length-with_item items (c.moves.at + 1) w.vacant.result ∙ c.moves.invariant.3 in
          let room : g.S.NonZeroInxGenericStack.room w.replace.new.stack ≡ g.S.NonZeroInxGenericStack.room c.args.stack.now = ap g.S.NonZeroInxGenericStack.room w.replace.ensures.stack ∙ g.met.S.NonZeroInxGenericStack.room_with_items _ _ ∙ c.moves.invariant.1 in
          let limit : g.S.NonZeroInxGenericStack.limit w.replace.new.stack ≡ g.S.NonZeroInxGenericStack.limit c.args.stack.now = ap g.S.NonZeroInxGenericStack.limit w.replace.ensures.stack ∙ g.met.S.NonZeroInxGenericStack.limit_with_items _ _ ∙ c.moves.invariant.2 in
          let there : non_zero_usize_get w.saturating_add-onto.result ≡ c.moves.to + 1 = omega (arith, w.saturating_add-onto.ensures, c.moves.invariant.4.below, c.moves-test.true, c.moves.auto.at-end) in
          let put_items = g.S.NonZeroInxGenericStack.items w.replace-then-is_live.new.stack in
          let put : put_items ≡ with_item freed_items (c.moves.to + 1) w.holding.result = ap g.S.NonZeroInxGenericStack.items w.replace-then-is_live.ensures.stack ∙ g.met.S.NonZeroInxGenericStack.items_with_items _ _ ∙ ap (λ i. with_item freed_items i w.holding.result) there in
          rw (w.stack-is, w.f-is, w.to-is) (
            search of_calls,
            ap g.S.NonZeroInxGenericStack.room w.replace-then-is_live.ensures.stack ∙ g.met.S.NonZeroInxGenericStack.room_with_items _ _ ∙ room,
            ap g.S.NonZeroInxGenericStack.limit w.replace-then-is_live.ensures.stack ∙ g.met.S.NonZeroInxGenericStack.limit_with_items _ _ ∙ limit,
            ap length put ∙ length-with_item freed_items (c.moves.to + 1) _ ∙ size,
            CompactAt-moved_slot g.X.EntrySlot.entry g.P.Ptr.numbers (MoveTurn g.P.Ptr.numbers (goal.F-step g)) (option_map g.P.Gen.PtrGen.number c.args.generation) first items freed_items put_items c.args.f c.moves.f w.f-given.new.self c.moves.at c.moves.to
                (g.P.Gen.PtrGen.number w.unwrap_or-new_generation.result) w.vacant.result w.holding.result w.replace.result
                _
                (record { from = w.pointer.result; old = _; to = w.pointer-then-is_live.result; new = w.f-given.result })
                c.moves.invariant.4 inside found
                w.into_entry-value.ensures
                w.vacant.ensures freed put w.holding.ensures
                (w.pointer.ensures ∙ pointer_is _ _ _ _ here refl)
                refl
                (w.pointer-then-is_live.ensures ∙ pointer_is _ _ _ _ there refl)
                (ap g.P.Gen.PtrGen.number w.unwrap_or-new_generation.ensures ∙ number_of_given g.P.Gen.PtrGen.number c.args.generation _)
                w.f-given.ensures,
          )
      | else-is_live w ↦
          let found : item items (c.moves.at + 1) ≡ Some c.unwrap.result.now = ap (item items) (sym here) ∙ sym c.slot_at.ensures ∙ ap option_copied c.unwrap.ensures in
          let vacant : g.X.EntrySlot.entry c.unwrap.result.now ≡ None = none_of _ (sym c.is_live.ensures ∙ w.if-is_live.false) in
          rw (w.stack-is, w.f-is, w.to-is) (
            c.moves.invariant.0,
            c.moves.invariant.1,
            c.moves.invariant.2,
            c.moves.invariant.3,
            CompactAt-free_slot g.X.EntrySlot.entry g.P.Ptr.numbers (MoveTurn g.P.Ptr.numbers (goal.F-step g)) (option_map g.P.Gen.PtrGen.number c.args.generation) first items items c.args.f c.moves.f c.moves.at c.moves.to c.unwrap.result.now c.unwrap.result.now c.moves.invariant.4 inside found
                vacant vacant (sym (with_item_same items (c.moves.at + 1) _ found)),
          )
    ]

pub cut-requires-after_bounds : goal.cut-requires-after_bounds
cut-requires-after_bounds g c κs within =
    let done = CompactAt-done g.P.Ptr.numbers (MoveTurn g.P.Ptr.numbers (goal.F-step g)) (option_map g.P.Gen.PtrGen.number c.args.generation) c.args.f (map g.X.EntrySlot.entry (g.S.NonZeroInxGenericStack.items c.args.stack.now)) (map g.X.EntrySlot.entry (g.S.NonZeroInxGenericStack.items c.moves.stack)) c.moves.f c.moves.at c.moves.to c.moves.invariant.4 (omega (arith, c.len-at-end.ensures, c.moves-test.false, length-map (g.S.NonZeroInxGenericStack.items c.args.stack.now) g.X.EntrySlot.entry)) in
    (_, done.spare, done.size, done.shape)

pub returns-clause-moved : goal.returns-clause-moved
returns-clause-moved g c =
    let done = CompactAt-done g.P.Ptr.numbers (MoveTurn g.P.Ptr.numbers (goal.F-step g)) (option_map g.P.Gen.PtrGen.number c.args.generation) c.args.f (map g.X.EntrySlot.entry (g.S.NonZeroInxGenericStack.items c.args.stack.now)) (map g.X.EntrySlot.entry (g.S.NonZeroInxGenericStack.items c.moves.stack)) c.moves.f c.moves.at c.moves.to c.moves.invariant.4 (omega (arith, c.len-at-end.ensures, c.moves-test.false, length-map (g.S.NonZeroInxGenericStack.items c.args.stack.now) g.X.EntrySlot.entry)) in (
      map (λ m. m.new) done.moves,
      record { moves = done.moves; last = c.moves.f; ran = done.ran; came = done.came; went = done.went; gave = refl },
      c.cut.ensures.slots _ done.spare done.size done.shape ∙ done.stands,
    )
