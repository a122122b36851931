use Rattle.std.proofs.Common.{ℕ, Some, None, cond, ◌==◌, refl, ◌∙◌, sym, ap}
use Rattle.std.specs.Int.NonZero.{non_zero_usize_get}
use Rattle.triple_arena_slots.specs.Slot.{previous_in}
use Rattle.triple_arena_slots.proofs.slot.ArenaSlot.link_on.Goals as goal

pub returns : goal.returns
returns g c =
    record {
      free = (_, refl);
      leads = c.set_next.ensures.next;
      kept = ap (λ (i : ℕ). cond (i == non_zero_usize_get c.args.inx) None (Some i)) c.set_next.ensures.previous ∙ sym (ap (λ slot. previous_in slot (non_zero_usize_get c.args.inx)) c.in-Free.is);
    }
