use Rattle.std.proofs.Common.{◌≡◌, ◌++◌, take, drop}
use Rattle.triple_arena_base.specs.Held.{held_all, refill_all, recast_items, recast_answer}
use Rattle.triple_arena_base.proofs.recast_impls.recast_slice.Given as goal

abbrev pub invariant-loop-x : goal.invariant-loop-x
invariant-loop-x g l =
    let held = held_all g.T.Recast.held in
    let refill = refill_all g.T.Recast.held g.T.Recast.refill in
    let image = g.R.Recaster.image l.recaster in
    let rest = drop l.x-index l.items in
    (take l.x-index l.items ++ refill rest (recast_items image (held rest)) ≡ refill l.fn.items (recast_items image (held l.fn.items)))
    × (recast_answer image (held rest) ≡ recast_answer image (held l.fn.items))
