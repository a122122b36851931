use Rattle.std.proofs.Common.{◌∙◌, length, map, refl, ap, arith}
use Rattle.std.proofs.lemmas.List.{length-map}
use Rattle.std.specs.Int.NonZero.{non_zero_usize_get}
use Rattle.std.specs.Option.{option_map}
use Rattle.triple_arena_ptr.specs.Numbers.{greatest_index}
use Rattle.triple_arena_slots.specs.Slot.{entry_of}
use Rattle.triple_arena_slots.specs.Layout.{Shows}
use Rattle.triple_arena_slots.proofs.Links.{shows_state}
use Rattle.triple_arena.specs.Restored.{arena_over}
use Rattle.triple_arena.proofs.base_arena.Arena.over_slots.Goals as goal

pub link-requires-clause-indexed : goal.link-requires-clause-indexed
link-requires-clause-indexed g c κs within =
    let items = g.S.NonZeroInxGenericStack.items c.args.stack in
    omega (arith, ap (λ stack. length (g.S.NonZeroInxGenericStack.items stack)) c.over-slots.ensures.stack, c.requires.fits, length-map items (entry_of g.P.Gen.PtrGen.number))

pub link-requires-clause-once : goal.link-requires-clause-once
link-requires-clause-once g c κs within = rw c.over-slots.ensures.stack c.requires.free_once

pub invariant_of-result : goal.invariant_of-result
invariant_of-result g c =
    let number = g.P.Gen.PtrGen.number in
    let es = g.S.NonZeroInxGenericStack.items c.link.new.self.slots.stack in
    let given = g.S.NonZeroInxGenericStack.items c.args.stack in
    let steps = c.link.new.self.slots.steps.count in
    let s = record (arena_over (map (entry_of number) given) (number c.args.counter) (map non_zero_usize_get c.args.free.now) (g.S.NonZeroInxGenericStack.room c.args.stack) (g.S.NonZeroInxGenericStack.limit c.args.stack) (greatest_index g.P.Inx.PtrInx.greatest)) { steps = steps } in
    let shows : Shows number es (option_map non_zero_usize_get c.link.new.self.root) c.count_live-len.result s = record {
      slots = c.link.ensures.slots ∙ ap (λ stack. map (entry_of number) (g.S.NonZeroInxGenericStack.items stack)) c.over-slots.ensures.stack;
      linked = c.link.ensures.linked;
      counted = c.count_live-len.ensures;
      well = record { free_once = c.requires.free_once; total = c.requires.total; fits = c.requires.fits };
    } in
    (shows_state number es _ c.count_live-len.result _ _ _ _ _ s shows refl (c.link.ensures.room ∙ ap g.S.NonZeroInxGenericStack.room c.over-slots.ensures.stack) (c.link.ensures.limit ∙ ap g.S.NonZeroInxGenericStack.limit c.over-slots.ensures.stack) refl refl).0

pub returns : goal.returns
returns g c =
    let number = g.P.Gen.PtrGen.number in
    let es = g.S.NonZeroInxGenericStack.items c.link.new.self.slots.stack in
    let given = g.S.NonZeroInxGenericStack.items c.args.stack in
    let steps = c.link.new.self.slots.steps.count in
    let s = record (arena_over (map (entry_of number) given) (number c.args.counter) (map non_zero_usize_get c.args.free.now) (g.S.NonZeroInxGenericStack.room c.args.stack) (g.S.NonZeroInxGenericStack.limit c.args.stack) (greatest_index g.P.Inx.PtrInx.greatest)) { steps = steps } in
    let shows : Shows number es (option_map non_zero_usize_get c.link.new.self.root) c.count_live-len.result s = record {
      slots = c.link.ensures.slots ∙ ap (λ stack. map (entry_of number) (g.S.NonZeroInxGenericStack.items stack)) c.over-slots.ensures.stack;
      linked = c.link.ensures.linked;
      counted = c.count_live-len.ensures;
      well = record { free_once = c.requires.free_once; total = c.requires.total; fits = c.requires.fits };
    } in
    let is = shows_state number es _ c.count_live-len.result _ _ _ _ _ s shows refl (c.link.ensures.room ∙ ap g.S.NonZeroInxGenericStack.room c.over-slots.ensures.stack) (c.link.ensures.limit ∙ ap g.S.NonZeroInxGenericStack.limit c.over-slots.ensures.stack) refl refl in
    (is.1, omega arith)
