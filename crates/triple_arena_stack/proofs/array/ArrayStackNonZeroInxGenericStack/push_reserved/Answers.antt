use Rattle.std.proofs.Common.{refl, arith}
use Rattle.triple_arena_stack.proofs.PushedLemmas.{set-pushed, read-pushed}
use Rattle.triple_arena_stack.proofs.array.ArrayStackNonZeroInxGenericStack.push_reserved.Goals as goal

pub returns : goal.returns
returns g c =
    let pushed = c.push.ensures.items in
    let at = c.len-len.ensures.value in (
      (refl, λ w. rw (← c.self.view_is) (set-pushed _ _ _ _ pushed at w)),
      record {
        index = grind (arith, c.saturating_add.ensures, c.requires, g.LIMIT.fits);
        value = read-pushed _ _ _ _ pushed at _ (rw c.unwrap.ensures at c.get_mut.ensures.value);
        writes_back = tt;
      },
    )
