use Rattle.std.proofs.Common.{refl}
use Rattle.triple_arena_slots.proofs.slots.Slots.as_mut_slice.Goals as goal

pub returns : goal.returns
returns g c = ((refl, λ w. refl), record { writes_back = tt; value = c.uncounted_as_mut_slice.ensures.value })
