use Rattle.std.proofs.Common.{◌∙◌, ap, length, sym}
use Rattle.triple_arena_traits.specs.laws.WalkLaws.{length-entries}
use Rattle.triple_arena_traits.proofs.arena_iterators.drain.CapacityDrainExactSizeIterator.len.Goals as goal

pub returns-clause-value : goal.returns-clause-value
returns-clause-value g c = c.len.ensures.value ∙ sym (length-entries (g.A.ArenaStates.slots c.self.inside.arena)) ∙ ap length c.self.view_is
