use Rattle.std.proofs.Common.{map}
use Rattle.triple_arena_traits.proofs.Walking.{at_first}
use Rattle.triple_arena_direct_arena.specs.DirectSlot.{direct_slot_entry}
use Rattle.triple_arena_direct_arena.proofs.direct_arena.DirectArenaArenaTrait.advancer.Goals as goal

pub returns : goal.returns
returns g c =
    rw (c.from.ensures, ← c.self.view_is) (at_first (map (direct_slot_entry g.P.Gen.PtrGen.number) (g.S.NonZeroInxGenericStack.items c.self.inside.slots.stack)) c.first_live.result (rw c.uncounted_stack.ensures at c.first_live.ensures))
