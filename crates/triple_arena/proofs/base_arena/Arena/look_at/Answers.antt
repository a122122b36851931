use Rattle.std.proofs.Common.{◌∙◌, is_some, refl, ap, arith}
use Rattle.std.proofs.lemmas.List.{length-map}
use Rattle.triple_arena_traits.specs.ArenaState.{ArenaState, entry}
use Rattle.triple_arena_slots.specs.Slot.{entry_of}
use Rattle.triple_arena_slots.proofs.Links.{carried, Shows-steps}
use Rattle.triple_arena.proofs.base_arena.Arena.look_at.Goals as goal

pub find_inx-requires-after_bounds : goal.find_inx-requires-after_bounds
find_inx-requires-after_bounds g c κs within =
    omega (arith, c.self.invariant.well.fits, length-map (g.S.NonZeroInxGenericStack.items c.self.inside.slots.slots.stack) (entry_of g.P.Gen.PtrGen.number))

pub invariant_of-self : goal.invariant_of-self
invariant_of-self g c =
    (carried g.P.Gen.PtrGen.number _ (g.S.NonZeroInxGenericStack.items c.find_inx.new.self.stack) _ _ c.self.inside.len c.self.inside.len _ _ _ _ _ _ _ _ _ c.args.self.now (record c.args.self.now { steps = c.find_inx.new.self.steps.count }) c.self.invariant c.self.view_is
    (λ shows. rw c.find_inx.ensures.stack (Shows-steps g.P.Gen.PtrGen.number _ _ _ c.find_inx.new.self.steps.count _ shows))
    (ap (λ s. s.counter) c.self.view_is)
    (ap g.S.NonZeroInxGenericStack.room c.find_inx.ensures.stack ∙ ap (λ s. s.room) c.self.view_is)
    (ap g.S.NonZeroInxGenericStack.limit c.find_inx.ensures.stack ∙ ap (λ s. s.limit) c.self.view_is)
    (ap (λ s. s.greatest) c.self.view_is) refl).0

pub returns-clause-live : goal.returns-clause-live
returns-clause-live g c = c.find_inx.ensures.live ∙ ap (λ (s : ArenaState g.row.T.Denot). is_some (entry s (g.P.Inx.PtrInx.number c.args.inx))) c.self.view_is

pub returns-clause-unchanged : goal.returns-clause-unchanged
returns-clause-unchanged g c = (
  (carried g.P.Gen.PtrGen.number _ (g.S.NonZeroInxGenericStack.items c.find_inx.new.self.stack) _ _ c.self.inside.len c.self.inside.len _ _ _ _ _ _ _ _ _ c.args.self.now (record c.args.self.now { steps = c.find_inx.new.self.steps.count }) c.self.invariant c.self.view_is
      (λ shows. rw c.find_inx.ensures.stack (Shows-steps g.P.Gen.PtrGen.number _ _ _ c.find_inx.new.self.steps.count _ shows))
      (ap (λ s. s.counter) c.self.view_is)
      (ap g.S.NonZeroInxGenericStack.room c.find_inx.ensures.stack ∙ ap (λ s. s.room) c.self.view_is)
      (ap g.S.NonZeroInxGenericStack.limit c.find_inx.ensures.stack ∙ ap (λ s. s.limit) c.self.view_is)
      (ap (λ s. s.greatest) c.self.view_is) refl).1,
  omega (arith, c.find_inx.ensures.bounded, ap (λ s. s.steps) c.self.view_is),
)

pub returns-clause-steps : goal.returns-clause-steps
returns-clause-steps g c = omega (arith, c.find_inx.ensures.bounded, ap (λ s. s.steps) c.self.view_is)
