use Rattle.triple_arena_slots.specs.Slot.{entry_of}
use Rattle.triple_arena_slots.proofs.Unlinking.{free_indexed, same_indexed}
use Rattle.triple_arena_slots.proofs.slots.Slots.unlink.Goals as goal

pub link_on-requires-clause-next_indexed : goal.link_on-requires-clause-next_indexed
link_on-requires-clause-next_indexed g c κs within =
    λ j e. free_indexed g.P.Gen.PtrGen.number (g.S.NonZeroInxGenericStack.items c.args.self.now.slots.stack) j _ c.requires.indexed (c.requires.can_leave.next j e)

pub link_back-requires-clause-indexed : goal.link_back-requires-clause-indexed
link_back-requires-clause-indexed g c κs within = same_indexed (entry_of g.P.Gen.PtrGen.number) _ _ _ c.link_on.ensures.links.entries c.requires.indexed

pub link_back-requires-clause-previous_indexed : goal.link_back-requires-clause-previous_indexed
link_back-requires-clause-previous_indexed g c κs within =
    λ j e. free_indexed g.P.Gen.PtrGen.number (g.S.NonZeroInxGenericStack.items c.args.self.now.slots.stack) j _ c.requires.indexed (c.requires.can_leave.previous j e)
