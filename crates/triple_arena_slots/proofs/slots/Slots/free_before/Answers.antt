use Rattle.std.proofs.Common.{◌∙◌, ◌≢◌, ◌≤◌, Some, length, ap, subst, arith}
use Rattle.std.proofs.lemmas.Option.{same_Some}
use Rattle.std.specs.Int.NonZero.{non_zero_usize_get}
use Rattle.triple_arena_ptr.specs.Numbers.{greatest_index}
use Rattle.triple_arena_traits.specs.laws.ItemLaws.{map-with_item, item-with_other, length-with_item}
use Rattle.triple_arena_slots.specs.Slot.{entry_of}
use Rattle.triple_arena_slots.specs.declared.slot.ArenaSlot.TheVariants.{Free}
use Rattle.triple_arena_slots.proofs.Unlinking.{Begins-put, there_indexed, free_indexed}
use Rattle.triple_arena_slots.proofs.slots.Slots.free_before.Goals as goal

pub link_back-requires-clause-free : goal.link_back-requires-clause-free
link_back-requires-clause-free g c κs within = λ j e.
    let items = g.S.NonZeroInxGenericStack.items c.args.self.now.slots.stack in
    let inx = non_zero_usize_get c.args.inx in
    let slot = Free c.first.result in
    let put = ap g.S.NonZeroInxGenericStack.items c.put-old.ensures.stack ∙ g.met.S.NonZeroInxGenericStack.items_with_items _ _ in
    let other : j ≢ inx = λ h. c.requires.other (e ∙ ap Some h) in
    let f = entry_of g.P.Gen.PtrGen.number in
    rw put (rw (map-with_item f items inx slot) (item-with_other _ inx j (f slot) other ∙ c.requires.next_free j e))

pub returns-clause-begins : goal.returns-clause-begins
returns-clause-begins g c =
    let items = g.S.NonZeroInxGenericStack.items c.args.self.now.slots.stack in
    let inx = non_zero_usize_get c.args.inx in
    let put = ap g.S.NonZeroInxGenericStack.items c.put-old.ensures.stack ∙ g.met.S.NonZeroInxGenericStack.items_with_items _ _ in
    Begins-put g.P.Gen.PtrGen.number items _ _ _ inx c.first.result c.put-old.result c.put-old.ensures.value c.first.ensures.next c.first.ensures.previous c.requires.other put c.link_back.ensures.links

pub first-requires-clause-indexed : goal.first-requires-clause-indexed
first-requires-clause-indexed g c κs within =
    there_indexed (g.S.NonZeroInxGenericStack.items c.args.self.now.slots.stack) (non_zero_usize_get c.args.inx) _ c.requires.indexed c.requires.there

pub first-requires-clause-next_indexed : goal.first-requires-clause-next_indexed
first-requires-clause-next_indexed g c κs within = λ j e.
    free_indexed g.P.Gen.PtrGen.number (g.S.NonZeroInxGenericStack.items c.args.self.now.slots.stack) j _ c.requires.indexed (c.requires.next_free j e)

pub link_back-requires-clause-indexed : goal.link_back-requires-clause-indexed
link_back-requires-clause-indexed g c κs within =
    let items = g.S.NonZeroInxGenericStack.items c.args.self.now.slots.stack in
    let put = ap g.S.NonZeroInxGenericStack.items c.put-old.ensures.stack ∙ g.met.S.NonZeroInxGenericStack.items_with_items _ _ in
    omega (arith, ap length put, length-with_item items (non_zero_usize_get c.args.inx) (Free c.first.result), c.requires.indexed)

pub link_back-requires-clause-previous_indexed : goal.link_back-requires-clause-previous_indexed
link_back-requires-clause-previous_indexed g c κs within = λ j e.
    subst (λ i. i ≤ greatest_index g.P.Inx.PtrInx.greatest) (same_Some _ _ e) (there_indexed (g.S.NonZeroInxGenericStack.items c.args.self.now.slots.stack) (non_zero_usize_get c.args.inx) _ c.requires.indexed c.requires.there)

pub returns-clause-room : goal.returns-clause-room
returns-clause-room g c =
    c.link_back.ensures.room ∙ ap g.S.NonZeroInxGenericStack.room c.put-old.ensures.stack ∙ g.met.S.NonZeroInxGenericStack.room_with_items _ _

pub returns-clause-limit : goal.returns-clause-limit
returns-clause-limit g c =
    c.link_back.ensures.limit ∙ ap g.S.NonZeroInxGenericStack.limit c.put-old.ensures.stack ∙ g.met.S.NonZeroInxGenericStack.limit_with_items _ _
