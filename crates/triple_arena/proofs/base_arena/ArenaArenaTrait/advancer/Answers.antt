use Rattle.std.proofs.Common.{map}
use Rattle.triple_arena_slots.specs.Slot.{entry_of}
use Rattle.triple_arena_traits.proofs.Walking.{at_first}
use Rattle.triple_arena.proofs.base_arena.ArenaArenaTrait.advancer.Goals as goal

pub returns : goal.returns
returns g c =
    rw (c.from.ensures, ← c.self.view_is) (at_first (map (entry_of g.P.Gen.PtrGen.number) (g.S.NonZeroInxGenericStack.items c.self.inside.slots.slots.stack)) c.first_live.result (rw c.uncounted_stack.ensures at c.first_live.ensures))
