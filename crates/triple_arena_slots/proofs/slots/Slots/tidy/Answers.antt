use Rattle.std.proofs.Common.{◌∙◌, map, length, ap, arith}
use Rattle.std.proofs.lemmas.List.{length-map}
use Rattle.triple_arena_traits.specs.FreeList.{trimmed}
use Rattle.triple_arena_traits.specs.laws.FreeListLaws.{trimmed_length}
use Rattle.triple_arena_traits.proofs.Shortening.{shortened_to_none}
use Rattle.triple_arena_slots.specs.Slot.{entry_of}
use Rattle.triple_arena_slots.proofs.Tidying.{Shows-tidied}
use Rattle.triple_arena_slots.proofs.slots.Slots.tidy.Goals as goal

pub relink-requires-after_bounds : goal.relink-requires-after_bounds
relink-requires-after_bounds g c κs within =
    let entry = entry_of g.P.Gen.PtrGen.number in
    let items = g.S.NonZeroInxGenericStack.items in
    let lent = items c.uncounted_stack_mut.result.now in
    omega (
      arith,
      ap length (c.shorten.ensures.slots ∙ shortened_to_none (map entry lent)),
      length-map lent entry,
      length-map (items c.shorten.new.stack) entry,
      trimmed_length (map entry lent),
      ap (λ stack. length (items stack)) c.uncounted_stack_mut.ensures.value,
      c.requires,
    )

pub returns-clause-shows : goal.returns-clause-shows
returns-clause-shows g c s len shows =
    let entry = entry_of g.P.Gen.PtrGen.number in
    let items = g.S.NonZeroInxGenericStack.items in
    let cut = c.shorten.ensures.slots
    ∙ shortened_to_none (map entry (items c.uncounted_stack_mut.result.now))
    ∙ ap (λ stack. trimmed (map entry (items stack))) c.uncounted_stack_mut.ensures.value in
    Shows-tidied g.P.Gen.PtrGen.number (items c.args.self.now.slots.stack) _ _ _ len s (c.relink.ensures.slots ∙ cut) (rw cut at c.relink.ensures.linked) shows
