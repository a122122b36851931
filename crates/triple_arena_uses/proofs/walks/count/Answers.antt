use Rattle.std.proofs.Common.{◌∙◌, length, ap, arith}
use Rattle.triple_arena.specs.laws.WalkLaws.{one_less, ahead_none, ahead_first, length-entries, forward_stays}
use Rattle.triple_arena_uses.proofs.walks.count.Goals as goal

pub walk-init : goal.walk-init
walk-init g c = (
  c.advancer-advancer.ensures.forward,
  omega (arith, ap length (ahead_first _ _ c.advancer-advancer.ensures), length-entries (g.A.ArenaStates.slots c.args.arena.now)),
)

pub overflow_add-count : goal.overflow_add-count
overflow_add-count g c =
    let less = one_less _ _ _ _ _ c.walk.invariant.0 (g.met.A.CompactArenaTrait.advanced _ _ _ _ c.in-Some.ensures.steps) in
    omega (arith, c.walk.invariant.1, less, c.len-len.ensures.value, c.len-len.type_inv)

pub walk-smaller : goal.walk-smaller
walk-smaller g c =
    let less = one_less _ _ _ _ _ c.walk.invariant.0 (g.met.A.CompactArenaTrait.advanced _ _ _ _ c.in-Some.ensures.steps) in
    omega (arith, less)

pub walk-preserved : goal.walk-preserved
walk-preserved g c =
    let steps = g.met.A.CompactArenaTrait.advanced _ _ _ _ c.in-Some.ensures.steps in
    let less = one_less _ _ _ _ _ c.walk.invariant.0 steps in
    (forward_stays _ _ _ _ _ steps ∙ c.walk.invariant.0, omega (arith, c.walk.invariant.1, less))

pub returns : goal.returns
returns g c =
    let none = ap length (ahead_none _ _ _ _ (g.met.A.CompactArenaTrait.advanced _ _ _ _ c.in_default.ensures.steps)) in
    omega (arith, c.walk.invariant.1, none)
