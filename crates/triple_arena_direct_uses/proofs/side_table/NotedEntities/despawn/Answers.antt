use Rattle.triple_arena_uses.specs.Entities.{p0_numbers}
use Rattle.triple_arena_direct_uses.proofs.Notes.{same_removed}
use Rattle.triple_arena_direct_uses.proofs.side_table.NotedEntities.despawn.Goals as goal

pub invariant_of-self : goal.invariant_of-self
invariant_of-self c =
    same_removed _ _ _ _ (p0_numbers c.args.p) c.self.invariant c.remove.ensures.gone c.remove-2.ensures.gone c.remove.ensures.others c.remove-2.ensures.others
