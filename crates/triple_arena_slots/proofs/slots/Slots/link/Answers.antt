use Rattle.std.proofs.Common.{◌≡◌, ◌∙◌, ◌+◌, ◌-◌, is_some, map, sym, ap, arith}
use Rattle.std.specs.Int.NonZero.{non_zero_usize_get}
use Rattle.triple_arena_traits.proofs.SlotEntries.{entry_item}
use Rattle.triple_arena_slots.specs.Slot.{entry_of}
use Rattle.triple_arena_slots.proofs.Linking.{vacant_entry, read_here, next_one, LinkedBehind-next}
use Rattle.triple_arena_slots.proofs.Tidying.{Begins-length}
use Rattle.triple_arena_slots.proofs.Unlinking.{free_slot_at}
use Rattle.triple_arena_slots.proofs.slots.Slots.link.Goals as goal

pub free-requires-clause-there : goal.free-requires-clause-there
free-requires-clause-there g c κs within =
    let number = g.P.Gen.PtrGen.number in
    let items = g.S.NonZeroInxGenericStack.items c.links.self.slots.stack in
    let at = c.links.at - 1 in
    let here = read_here non_zero_usize_get c.args.free.now at c.index-free-at.result (omega (arith, c.links-test.true, c.links.invariant.4)) c.index-free-at.is in
    let n : c.links.at ≡ at + 1 = omega (arith, c.links-test.true) in
    let next = next_one number _ items (map non_zero_usize_get c.args.free.now) at (non_zero_usize_get c.index-free-at.result) _ c.requires.once here c.links.at n c.links.invariant.5 in
    ap is_some (free_slot_at number items _ next.vacant).1

pub free-requires-clause-other : goal.free-requires-clause-other
free-requires-clause-other g c κs within =
    let number = g.P.Gen.PtrGen.number in
    let items = g.S.NonZeroInxGenericStack.items c.links.self.slots.stack in
    let at = c.links.at - 1 in
    let here = read_here non_zero_usize_get c.args.free.now at c.index-free-at.result (omega (arith, c.links-test.true, c.links.invariant.4)) c.index-free-at.is in
    let n : c.links.at ≡ at + 1 = omega (arith, c.links-test.true) in
    let next = next_one number _ items (map non_zero_usize_get c.args.free.now) at (non_zero_usize_get c.index-free-at.result) _ c.requires.once here c.links.at n c.links.invariant.5 in
    next.other

pub discard-requires-after_bounds : goal.discard-requires-after_bounds
discard-requires-after_bounds g c κs within =
    let number = g.P.Gen.PtrGen.number in
    let items = g.S.NonZeroInxGenericStack.items c.links.self.slots.stack in
    let i = non_zero_usize_get c.index-free-at.result in
    let at = c.links.at - 1 in
    let here = read_here non_zero_usize_get c.args.free.now at c.index-free-at.result (omega (arith, c.links-test.true, c.links.invariant.4)) c.index-free-at.is in
    let n : c.links.at ≡ at + 1 = omega (arith, c.links-test.true) in
    let next = next_one number _ items (map non_zero_usize_get c.args.free.now) at i _ c.requires.once here c.links.at n c.links.invariant.5 in
    sym (entry_item (entry_of number) items i c.free.result c.free.ensures.slot) ∙ vacant_entry (map (entry_of number) items) i next.vacant

pub links-preserved : goal.links-preserved
links-preserved g c =
    let number = g.P.Gen.PtrGen.number in
    let items = g.S.NonZeroInxGenericStack.items c.links.self.slots.stack in
    let i = non_zero_usize_get c.index-free-at.result in
    let at = c.links.at - 1 in
    let here = read_here non_zero_usize_get c.args.free.now at c.index-free-at.result (omega (arith, c.links-test.true, c.links.invariant.4)) c.index-free-at.is in
    let n : c.links.at ≡ at + 1 = omega (arith, c.links-test.true) in (
      c.free.ensures.room ∙ c.links.invariant.0,
      c.free.ensures.limit ∙ c.links.invariant.1,
      Begins-length number items _ _ i c.free.ensures.begins ∙ c.links.invariant.2,
      omega (arith, c.free.ensures.bounded, c.links.invariant.3),
      omega (arith, c.links.invariant.4),
      rw c.free.ensures.root (LinkedBehind-next number _ items (map non_zero_usize_get c.args.free.now) at i _ c.requires.once here c.links.at n c.links.invariant.5 _ c.free.ensures.begins),
    )
