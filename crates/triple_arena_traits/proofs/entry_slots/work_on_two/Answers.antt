use Rattle.std.proofs.Common.{◌∙◌, length, map, ap, arith}
use Rattle.std.proofs.lemmas.List.{length-map}
use Rattle.std.specs.Int.NonZero.{non_zero_usize_get}
use Rattle.triple_arena_traits.specs.DisjointEntries.{value_of}
use Rattle.triple_arena_traits.specs.laws.WalkLaws.{live_within}
use Rattle.triple_arena_traits.proofs.Pairs.{item_lent, both_lent, writes_two, may_work_at}
use Rattle.triple_arena_traits.proofs.SlotEntries.{entry_item, live_slot}
use Rattle.triple_arena_traits.proofs.entry_slots.work_on_two.Goals as goal

pub pair_of-a-requires-clause-first_within : goal.pair_of-a-requires-clause-first_within
pair_of-a-requires-clause-first_within g c =
    let es = g.S.NonZeroInxGenericStack.items c.args.stack.now in
    let within = live_within (map g.X.EntrySlot.entry es) _ c.requires.first in
    omega (arith, within, length-map es g.X.EntrySlot.entry, c.get.ensures.value, ap length c.as_mut_slice-slots.ensures.value)

pub pair_of-a-requires-clause-second_within : goal.pair_of-a-requires-clause-second_within
pair_of-a-requires-clause-second_within g c =
    let es = g.S.NonZeroInxGenericStack.items c.args.stack.now in
    let within = live_within (map g.X.EntrySlot.entry es) _ c.requires.second in
    omega (arith, within, length-map es g.X.EntrySlot.entry, c.get-2.ensures.value, ap length c.as_mut_slice-slots.ensures.value)

pub pair_of-a-requires-clause-apart : goal.pair_of-a-requires-clause-apart
pair_of-a-requires-clause-apart g c = λ same.
    c.requires.apart (omega (arith, same, c.get.ensures.value, c.get-2.ensures.value, c.args.first.ok, c.args.second.ok))

pub work_in_two-requires-clause-first : goal.work_in_two-requires-clause-first
work_in_two-requires-clause-first g c κs within =
    let first = item_lent _ _ c.as_mut_slice-slots.ensures.value _ _ _ c.get.ensures.value c.args.first.ok c.pair_of-a.ensures.first in
    live_slot g.X.EntrySlot.entry (g.S.NonZeroInxGenericStack.items c.args.stack.now) (non_zero_usize_get c.args.first) _ first c.requires.first

pub work_in_two-requires-clause-second : goal.work_in_two-requires-clause-second
work_in_two-requires-clause-second g c κs within =
    let second = item_lent _ _ c.as_mut_slice-slots.ensures.value _ _ _ c.get-2.ensures.value c.args.second.ok c.pair_of-a.ensures.second in
    live_slot g.X.EntrySlot.entry (g.S.NonZeroInxGenericStack.items c.args.stack.now) (non_zero_usize_get c.args.second) _ second c.requires.second

pub work_in_two-requires-clause-callable : goal.work_in_two-requires-clause-callable
work_in_two-requires-clause-callable g c κs within =
    let es = g.S.NonZeroInxGenericStack.items c.args.stack.now in
    let first = item_lent _ _ c.as_mut_slice-slots.ensures.value _ _ _ c.get.ensures.value c.args.first.ok c.pair_of-a.ensures.first in
    let second = item_lent _ _ c.as_mut_slice-slots.ensures.value _ _ _ c.get-2.ensures.value c.args.second.ok c.pair_of-a.ensures.second in
    may_work_at g.C.PairCall.calls c.args.call _ _ _ _
    (ap value_of (entry_item g.X.EntrySlot.entry es (non_zero_usize_get c.args.first) _ first))
    (ap value_of (entry_item g.X.EntrySlot.entry es (non_zero_usize_get c.args.second) _ second))
    c.requires.callable

pub returns-clause-worked : goal.returns-clause-worked
returns-clause-worked g c =
    let es = g.S.NonZeroInxGenericStack.items c.args.stack.now in
    let all = c.as_mut_slice-slots.ensures.value in
    let i = non_zero_usize_get c.args.first in
    let j = non_zero_usize_get c.args.second in
    let first = item_lent _ _ all _ _ _ c.get.ensures.value c.args.first.ok c.pair_of-a.ensures.first in
    let second = item_lent _ _ all _ _ _ c.get-2.ensures.value c.args.second.ok c.pair_of-a.ensures.second in
    let w = c.work_in_two.ensures in
    record {
      first_value = w.first_value;
      second_value = w.second_value;
      first_left = w.first_left;
      second_left = w.second_left;
      first_is = ap value_of (entry_item g.X.EntrySlot.entry es i _ first) ∙ w.first_is;
      second_is = ap value_of (entry_item g.X.EntrySlot.entry es j _ second) ∙ w.second_is;
      called = w.called;
      left = writes_two g.X.EntrySlot.with_value es _ i j _ _ _ _ w.first_left w.second_left first second w.left.0 w.left.1
          (g.met.S.NonZeroInxGenericStack.items_with_items _ _ ∙ both_lent es _ all _ _ i j _ _ c.get.ensures.value c.get-2.ensures.value c.args.first.ok c.args.second.ok);
    }

pub returns-clause-room : goal.returns-clause-room
returns-clause-room g c = g.met.S.NonZeroInxGenericStack.room_with_items _ _

pub returns-clause-limit : goal.returns-clause-limit
returns-clause-limit g c = g.met.S.NonZeroInxGenericStack.limit_with_items _ _
