use Rattle.std.proofs.Common.{◌∙◌, refl, ap, subst}
use Rattle.std.specs.Int.NonZero.{non_zero_usize_get}
use Rattle.triple_arena_traits.specs.Entries.{with_value_in}
use Rattle.triple_arena_direct_arena.specs.DirectState.{direct_with_value}
use Rattle.triple_arena_direct_arena.specs.DirectLayout.{Counts}
use Rattle.triple_arena_direct_arena.proofs.Held.{made, both_written, Counts-with_value, entry_value_read}
use Rattle.triple_arena_direct_arena.proofs.direct_arena.DirectArena.work_on_two.Goals as goal

pub invariant_of-self : goal.invariant_of-self
invariant_of-self g c =
    let i = non_zero_usize_get c.args.first in
    let j = non_zero_usize_get c.args.second in
    let w = c.uncounted_work_on_two.ensures.worked in
    (made g.P.Gen.PtrGen.number _ _ _ _ _ (direct_with_value (direct_with_value c.args.self.now i w.first_left) j w.second_left)
    (both_written g.P.Gen.PtrGen.number _ _ i j w.first_left w.second_left c.requires.apart w.left ∙ ap (λ s. with_value_in (with_value_in s.slots i w.first_left) j w.second_left) c.self.view_is)
    (c.uncounted_work_on_two.ensures.room ∙ ap (λ s. s.room) c.self.view_is)
    (c.uncounted_work_on_two.ensures.limit ∙ ap (λ s. s.limit) c.self.view_is)
    (ap (λ s. s.greatest) c.self.view_is)
    (Counts-with_value _ (direct_with_value c.args.self.now i w.first_left) j w.second_left (Counts-with_value _ c.args.self.now i w.first_left (subst (Counts _) c.self.view_is c.self.invariant)))).0

pub returns : goal.returns
returns g c =
    let i = non_zero_usize_get c.args.first in
    let j = non_zero_usize_get c.args.second in
    let w = c.uncounted_work_on_two.ensures.worked in
    record {
      first_value = w.first_value;
      second_value = w.second_value;
      first_left = w.first_left;
      second_left = w.second_left;
      first_is = entry_value_read _ c.args.self.now.slots i i _ (ap (λ s. s.slots) c.self.view_is) refl w.first_is;
      second_is = entry_value_read _ c.args.self.now.slots j j _ (ap (λ s. s.slots) c.self.view_is) refl w.second_is;
      called = w.called;
      left = (made g.P.Gen.PtrGen.number _ _ _ _ _ (direct_with_value (direct_with_value c.args.self.now i w.first_left) j w.second_left)
          (both_written g.P.Gen.PtrGen.number _ _ i j w.first_left w.second_left c.requires.apart w.left ∙ ap (λ s. with_value_in (with_value_in s.slots i w.first_left) j w.second_left) c.self.view_is)
          (c.uncounted_work_on_two.ensures.room ∙ ap (λ s. s.room) c.self.view_is)
          (c.uncounted_work_on_two.ensures.limit ∙ ap (λ s. s.limit) c.self.view_is)
          (ap (λ s. s.greatest) c.self.view_is)
          (Counts-with_value _ (direct_with_value c.args.self.now i w.first_left) j w.second_left (Counts-with_value _ c.args.self.now i w.first_left (subst (Counts _) c.self.view_is c.self.invariant)))).1;
    }
