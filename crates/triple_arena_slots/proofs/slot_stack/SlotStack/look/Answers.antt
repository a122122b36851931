use Rattle.std.proofs.Common.{◌≡◌, ◌∙◌, Some, sym, ap}
use Rattle.std.specs.Prelude.{option_copied}
use Rattle.std.specs.Option.{option_map}
use Rattle.std.specs.Int.NonZero.{non_zero_usize_get}
use Rattle.triple_arena_traits.specs.Items.{item}
use Rattle.triple_arena_traits.proofs.SlotEntries.{entry_read}
use Rattle.triple_arena_slots.proofs.slot_stack.SlotStack.look.Goals as goal

pub returns-in-Some-clause-value : goal.returns-in-Some-clause-value
returns-in-Some-clause-value g c =
    let items = g.S.NonZeroInxGenericStack.items c.args.self.now.stack in
    let inx = non_zero_usize_get c.args.inx in
    let found : item items inx ≡ Some c.in-Some.slot.now = sym c.peek.ensures ∙ ap option_copied c.in-Some.is in
    c.generation.ensures ∙ sym (ap (option_map (λ e. e.0)) (entry_read g.X.EntrySlot.entry items inx _ found))

pub returns-in-None-clause-value : goal.returns-in-None-clause-value
returns-in-None-clause-value g c =
    let items = g.S.NonZeroInxGenericStack.items c.args.self.now.stack in
    sym (ap (option_map (λ e. e.0)) (entry_read g.X.EntrySlot.entry items (non_zero_usize_get c.args.inx) _ (sym c.peek.ensures ∙ ap option_copied c.in-None.is)))
