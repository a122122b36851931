use Rattle.std.proofs.Common.{◌∙◌, sym, refl}
use Rattle.triple_arena.specs.laws.WalkLaws.{taken, forward_stays}
use Rattle.triple_arena_uses.proofs.Mapping.{made_first, made_more, made_all}
use Rattle.triple_arena_uses.proofs.walks.add_one.Goals as goal

pub walk-init : goal.walk-init
walk-init g c =
    record {
      forward = c.advancer-advancer.ensures.forward;
      so_far = made_first _ _ _ c.advancer-advancer.ensures;
    }

pub walk-smaller-in-Some-get_mut : goal.walk-smaller-in-Some-get_mut
walk-smaller-in-Some-get_mut g c = (taken _ _ _ _ _ (g.met.A.CompactArenaTrait.advanced _ _ _ _ c.in-Some.ensures.steps)).fewer

pub walk-preserved-in-Some-get_mut : goal.walk-preserved-in-Some-get_mut
walk-preserved-in-Some-get_mut g c =
    let steps = g.met.A.CompactArenaTrait.advanced _ _ _ _ c.in-Some.ensures.steps in
    record {
      forward = forward_stays _ _ _ _ _ steps ∙ c.walk.invariant.forward;
      so_far = rw (g.met.A.ArenaLaws.slots_with_value _ _ _) (made_more _ _ _ _ _ _ _ _ _ c.walk.invariant.forward steps (sym c.in-Some-get_mut.ensures.value) refl c.walk.invariant.so_far);
    }

pub returns : goal.returns
returns g c = made_all _ _ _ _ _ _ (g.met.A.CompactArenaTrait.advanced _ _ _ _ c.in_default.ensures.steps) c.walk.invariant.so_far
