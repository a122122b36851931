use Rattle.std.proofs.Common.{refl, arith, ◌∙◌}
use Rattle.triple_arena_stack.proofs.PushedLemmas.{set-pushed, read-pushed}
use Rattle.triple_arena_stack.proofs.vec.HeapStackNonZeroInxGenericStack.push_reserved.Goals as goal

pub returns : goal.returns
returns g c =
    let pushed = c.push_reserved.ensures.items in
    let at = c.len-len.ensures ∙ c.self.inside.items.ok.0 in (
      (refl, λ w. rw (← c.self.view_is, set-pushed _ _ _ _ pushed at w) refl),
      record {
        index = rw (← c.self.view_is) (grind (arith, at, c.saturating_add.ensures, c.self.inside.items.ok.0, c.self.inside.items.ok.1, c.self.inside.items.small));
        value = read-pushed _ _ _ _ pushed at _ c.index_mut.ensures.value;
        writes_back = tt;
      },
    )
