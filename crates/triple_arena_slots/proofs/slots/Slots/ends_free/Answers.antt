use Rattle.std.proofs.Common.{◌∙◌, map, sym, ap, arith}
use Rattle.std.specs.Int.NonZero.{non_zero_usize_get}
use Rattle.triple_arena_traits.specs.Items.{item}
use Rattle.triple_arena_traits.specs.ArenaState.{is_free}
use Rattle.triple_arena_traits.specs.Places.{number_or_zero}
use Rattle.triple_arena_slots.specs.Slot.{entry_of}
use Rattle.triple_arena_slots.proofs.FreeEnd.{free_or_live}
use Rattle.triple_arena_slots.proofs.slots.Slots.ends_free.Goals as goal

pub returns-in-Some-clause-value : goal.returns-in-Some-clause-value
returns-in-Some-clause-value g c =
    let items = g.S.NonZeroInxGenericStack.items c.args.self.now.slots.stack in
    let inx = non_zero_usize_get c.in-Some.inx in
    let last = sym (ap number_or_zero c.in-Some.is) ∙ c.index_of.ensures ∙ c.len.ensures in
    rw c.has_entry.ensures.value (free_or_live g.P.Gen.PtrGen.number items inx c.in-Some.inx.ok (omega (arith, last)) ∙ ap (λ n. is_free (item (map (entry_of g.P.Gen.PtrGen.number) items) n)) last)
