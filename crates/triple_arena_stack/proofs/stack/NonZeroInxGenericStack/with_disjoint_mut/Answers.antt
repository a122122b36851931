use Rattle.std.proofs.Common.{refl, ◌∙◌}
use Rattle.triple_arena_stack.proofs.FilledLemmas.{refill-set_both, item_in_slice}
use Rattle.triple_arena_stack.proofs.stack.NonZeroInxGenericStack.with_disjoint_mut.Goals as goal

pub returns-clause-items : goal.returns-clause-items
returns-clause-items g c =
    let all = c.as_mut_slice-all.ensures.value in
    let first = c.get.ensures.value in
    let second = c.get-2.ensures.value in
    let pair = c.pair_of-a in
    record {
      first_value = pair.result.0.now;
      second_value = pair.result.1.now;
      first_left = c.f.new.arg2;
      second_left = c.f.new.arg3;
      first_is = item_in_slice _ _ _ _ _ all first pair.ensures.first;
      second_is = item_in_slice _ _ _ _ _ all second pair.ensures.second;
      called = record { first = _; second = _; shows = (refl, refl); left = _; met = c.f.ensures; leaves = (refl, refl) };
      left = g.met.Self.NonZeroInxGenericStack.items_with_items _ _ ∙ refill-set_both _ _ _ _ _ _ _ _ all first second;
    }
