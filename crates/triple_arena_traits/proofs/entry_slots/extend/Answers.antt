use Rattle.std.proofs.Common.{◌≡◌, ◌∙◌, ◌-◌, ◌++◌, ◌∷◌, [], length, map, take, replicate, None, refl, sym, ap, arith, append_assoc, append-nil}
use Rattle.std.proofs.lemmas.List.{length-map, length_push, map_push, replicate_more, take_all, take-append-le}
use Rattle.triple_arena_traits.proofs.entry_slots.extend.Goals as goal

pub gap-init : goal.gap-init
gap-init g c =
    let old = g.S.NonZeroInxGenericStack.items c.args.stack.now in
    let slots = map g.X.EntrySlot.entry old in
    let none : length old - length old ≡ 0 = omega arith in
    (refl, refl, omega arith, omega (arith, none), sym (append-nil slots) ∙ ap (λ m. slots ++ replicate m None) (sym none), take_all (length old) old (omega arith))

pub push_reserved-requires : goal.push_reserved-requires
push_reserved-requires g c =
    rw (c.gap.invariant.0, c.gap.invariant.1) (omega (arith, c.len.ensures, c.gap-test.true, c.requires))

pub gap-smaller : goal.gap-smaller
gap-smaller g c =
    let items = g.S.NonZeroInxGenericStack.items c.gap.stack in
    let size = ap length (g.met.S.NonZeroInxGenericStack.items_with_items c.gap.stack (items ++ c.push_reserved.result.1.now ∷ [])) ∙ length_push items _ in
    omega (arith, size, c.len.ensures, c.gap-test.true)

pub gap-preserved : goal.gap-preserved
gap-preserved g c =
    let f = g.X.EntrySlot.entry in
    let old = g.S.NonZeroInxGenericStack.items c.args.stack.now in
    let items = g.S.NonZeroInxGenericStack.items c.gap.stack in
    let x = c.push_reserved.result.1.now in
    let put = g.met.S.NonZeroInxGenericStack.items_with_items c.gap.stack (items ++ x ∷ []) in
    let size = ap length put ∙ length_push items x in
    let k = length items - length old in (
      g.met.S.NonZeroInxGenericStack.room_with_items _ _ ∙ c.gap.invariant.0,
      g.met.S.NonZeroInxGenericStack.limit_with_items _ _ ∙ c.gap.invariant.1,
      omega (arith, size, c.gap.invariant.2),
      omega (arith, size, c.len.ensures, c.gap-test.true, c.gap.invariant.2),
      ap (map f) put
          ∙ map_push f items x
          ∙ ap (λ l. l ++ f x ∷ []) c.gap.invariant.4
          ∙ append_assoc (map f old) (replicate k None) (f x ∷ [])
          ∙ ap (λ y. map f old ++ (replicate k None ++ y ∷ [])) (ap f c.push_reserved.ensures.value ∙ c.vacant.ensures)
          ∙ ap (λ l. map f old ++ l) (replicate_more k None)
          ∙ ap (λ m. map f old ++ replicate m None) (omega (arith, size, c.gap.invariant.2)),
      ap (take (length old)) put ∙ take-append-le (length old) items (x ∷ []) c.gap.invariant.2 ∙ c.gap.invariant.5,
    )

pub returns : goal.returns
returns g c =
    let old = g.S.NonZeroInxGenericStack.items c.args.stack.now in
    record {
      slots = c.gap.invariant.4 ∙ ap (λ n. map g.X.EntrySlot.entry old ++ replicate n None) (omega (arith, c.len.ensures, c.gap-test.false, c.gap.invariant.2, c.gap.invariant.3, length-map old g.X.EntrySlot.entry));
      kept = c.gap.invariant.5;
      room = c.gap.invariant.0;
      limit = c.gap.invariant.1;
    }
