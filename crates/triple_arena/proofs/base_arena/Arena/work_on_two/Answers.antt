use Rattle.std.proofs.Common.{◌∙◌, ap, refl}
use Rattle.std.specs.Int.NonZero.{non_zero_usize_get}
use Rattle.triple_arena_traits.specs.ArenaState.{with_value}
use Rattle.triple_arena_traits.specs.laws.WellFormedLaws.{entry_value_read}
use Rattle.triple_arena_slots.proofs.Links.{carried}
use Rattle.triple_arena.proofs.Pairs.{Shows-two_written}
use Rattle.triple_arena.proofs.base_arena.Arena.work_on_two.Goals as goal

pub invariant_of-self : goal.invariant_of-self
invariant_of-self g c =
    let i = non_zero_usize_get c.args.first in
    let j = non_zero_usize_get c.args.second in
    let w = c.uncounted_work_on_two.ensures.worked in
    (carried g.P.Gen.PtrGen.number _ (g.S.NonZeroInxGenericStack.items c.uncounted_work_on_two.new.self.stack) _ _ c.self.inside.len c.self.inside.len _ _ _ _ _ _ _ _ _ c.args.self.now (with_value (with_value c.args.self.now i w.first_left) j w.second_left) c.self.invariant c.self.view_is
    (λ shows. Shows-two_written g.P.Gen.PtrGen.number _ _ _ i j c.self.inside.len w.first_left w.second_left c.args.self.now c.requires.apart c.requires.first c.requires.second w.left shows)
    (ap (λ s. s.counter) c.self.view_is)
    (c.uncounted_work_on_two.ensures.room ∙ ap (λ s. s.room) c.self.view_is)
    (c.uncounted_work_on_two.ensures.limit ∙ ap (λ s. s.limit) c.self.view_is)
    (ap (λ s. s.greatest) c.self.view_is) (c.uncounted_work_on_two.ensures.steps ∙ ap (λ s. s.steps) c.self.view_is)).0

pub returns : goal.returns
returns g c =
    let i = non_zero_usize_get c.args.first in
    let j = non_zero_usize_get c.args.second in
    let w = c.uncounted_work_on_two.ensures.worked in
    record {
      first_value = w.first_value;
      second_value = w.second_value;
      first_left = w.first_left;
      second_left = w.second_left;
      first_is = entry_value_read c.args.self.now _ i i _ c.self.view_is refl w.first_is;
      second_is = entry_value_read c.args.self.now _ j j _ c.self.view_is refl w.second_is;
      called = w.called;
      left = (carried g.P.Gen.PtrGen.number _ (g.S.NonZeroInxGenericStack.items c.uncounted_work_on_two.new.self.stack) _ _ c.self.inside.len c.self.inside.len _ _ _ _ _ _ _ _ _ c.args.self.now (with_value (with_value c.args.self.now i w.first_left) j w.second_left) c.self.invariant c.self.view_is
          (λ shows. Shows-two_written g.P.Gen.PtrGen.number _ _ _ i j c.self.inside.len w.first_left w.second_left c.args.self.now c.requires.apart c.requires.first c.requires.second w.left shows)
          (ap (λ s. s.counter) c.self.view_is)
          (c.uncounted_work_on_two.ensures.room ∙ ap (λ s. s.room) c.self.view_is)
          (c.uncounted_work_on_two.ensures.limit ∙ ap (λ s. s.limit) c.self.view_is)
          (ap (λ s. s.greatest) c.self.view_is) (c.uncounted_work_on_two.ensures.steps ∙ ap (λ s. s.steps) c.self.view_is)).1;
    }
