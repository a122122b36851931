use Rattle.triple_arena.specs.laws.WalkLaws.{taken, others_ahead, none_left}
use Rattle.triple_arena_uses.proofs.walks.remove_all.Goals as goal

pub walk-smaller : goal.walk-smaller
walk-smaller g c = (taken _ _ _ _ _ (g.met.A.CompactArenaTrait.advanced _ _ _ _ c.in-Some.ensures.steps)).fewer

pub walk-preserved : goal.walk-preserved
walk-preserved g c =
    let steps = g.met.A.CompactArenaTrait.advanced _ _ _ _ c.in-Some.ensures.steps in
    others_ahead _ _ _ _ _ _ c.walk.invariant steps (g.met.A.ArenaLaws.slots_removed _ _ _ (c.remove.ensures.done steps.answers.0))

pub returns : goal.returns
returns g c = (none_left _ _ _ _ c.walk.invariant (g.met.A.CompactArenaTrait.advanced _ _ _ _ c.in_default.ensures.steps)).0
