use Rattle.std.proofs.Common.{◌∙◌, is_some, refl, ap, arith}
use Rattle.std.proofs.lemmas.List.{length-map}
use Rattle.triple_arena_traits.specs.Entries.{look_up}
use Rattle.triple_arena_traits.specs.ArenaState.{ArenaState}
use Rattle.triple_arena_slots.specs.Slot.{entry_of}
use Rattle.triple_arena_slots.proofs.Links.{carried, Shows-steps}
use Rattle.triple_arena.proofs.base_arena.Arena.look_for.Goals as goal

pub find-requires-after_bounds : goal.find-requires-after_bounds
find-requires-after_bounds g c κs within =
    omega (arith, c.self.invariant.well.fits, length-map (g.S.NonZeroInxGenericStack.items c.self.inside.slots.slots.stack) (entry_of g.P.Gen.PtrGen.number))

pub invariant_of-self : goal.invariant_of-self
invariant_of-self g c =
    (carried g.P.Gen.PtrGen.number _ (g.S.NonZeroInxGenericStack.items c.find.new.self.stack) _ _ c.self.inside.len c.self.inside.len _ _ _ _ _ _ _ _ _ c.args.self.now (record c.args.self.now { steps = c.find.new.self.steps.count }) c.self.invariant c.self.view_is
    (λ shows. rw c.find.ensures.stack (Shows-steps g.P.Gen.PtrGen.number _ _ _ c.find.new.self.steps.count _ shows))
    (ap (λ s. s.counter) c.self.view_is)
    (ap g.S.NonZeroInxGenericStack.room c.find.ensures.stack ∙ ap (λ s. s.room) c.self.view_is)
    (ap g.S.NonZeroInxGenericStack.limit c.find.ensures.stack ∙ ap (λ s. s.limit) c.self.view_is)
    (ap (λ s. s.greatest) c.self.view_is) refl).0

pub returns-clause-live : goal.returns-clause-live
returns-clause-live g c = c.find.ensures.live ∙ ap (λ (s : ArenaState g.row.T.Denot). is_some (look_up s.slots (g.P.Ptr.numbers c.args.p))) c.self.view_is

pub returns-clause-unchanged : goal.returns-clause-unchanged
returns-clause-unchanged g c = (
  (carried g.P.Gen.PtrGen.number _ (g.S.NonZeroInxGenericStack.items c.find.new.self.stack) _ _ c.self.inside.len c.self.inside.len _ _ _ _ _ _ _ _ _ c.args.self.now (record c.args.self.now { steps = c.find.new.self.steps.count }) c.self.invariant c.self.view_is
      (λ shows. rw c.find.ensures.stack (Shows-steps g.P.Gen.PtrGen.number _ _ _ c.find.new.self.steps.count _ shows))
      (ap (λ s. s.counter) c.self.view_is)
      (ap g.S.NonZeroInxGenericStack.room c.find.ensures.stack ∙ ap (λ s. s.room) c.self.view_is)
      (ap g.S.NonZeroInxGenericStack.limit c.find.ensures.stack ∙ ap (λ s. s.limit) c.self.view_is)
      (ap (λ s. s.greatest) c.self.view_is) refl).1,
  omega (arith, c.find.ensures.bounded, ap (λ s. s.steps) c.self.view_is),
)

pub returns-clause-steps : goal.returns-clause-steps
returns-clause-steps g c = omega (arith, c.find.ensures.bounded, ap (λ s. s.steps) c.self.view_is)
