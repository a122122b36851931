use Rattle.std.proofs.Common.{map, arith}
use Rattle.std.proofs.lemmas.List.{length-map}
use Rattle.std.specs.Int.NonZero.{non_zero_usize_get}
use Rattle.triple_arena_traits.proofs.SlotEntries.{greatest_of_all}
use Rattle.triple_arena_traits.proofs.entry_slots.last_live.Goals as goal

pub returns : goal.returns
returns g c =
    let items = g.S.NonZeroInxGenericStack.items c.args.stack.now in
    greatest_of_all (map g.X.EntrySlot.entry items) c.live_to.result (non_zero_usize_get c.saturating_add.result) (omega (arith, length-map items g.X.EntrySlot.entry, c.len.ensures)) c.live_to.ensures
