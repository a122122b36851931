use Rattle.std.proofs.Common.{Some, sym, ap, ◌∙◌}
use Rattle.std.specs.Option.{option_copied, option_and_then}
use Rattle.std.specs.Int.NonZero.{non_zero_usize_get}
use Rattle.triple_arena_slots.specs.Slot.{next_in}
use Rattle.triple_arena_snapshot.proofs.arena_slots.after.Goals as goal

pub returns-in-Some-Free : goal.returns-in-Some-Free
returns-in-Some-Free g c = c.after.ensures ∙ ap (option_and_then (λ slot. next_in slot (non_zero_usize_get c.args.inx))) (sym (sym c.item.ensures ∙ ap option_copied c.in-Some-Free.is ∙ ap Some c.in-Some-Free.field-0-is))

pub returns-in-Some-Allocated : goal.returns-in-Some-Allocated
returns-in-Some-Allocated g c = ap (option_and_then (λ slot. next_in slot (non_zero_usize_get c.args.inx))) (sym (sym c.item.ensures ∙ ap option_copied c.in-Some-Allocated.is ∙ ap Some c.in-Some-Allocated.field-0-is))

pub returns-in-None : goal.returns-in-None
returns-in-None g c = ap (option_and_then (λ slot. next_in slot (non_zero_usize_get c.args.inx))) (sym (sym c.item.ensures ∙ ap option_copied c.in-None.is))
