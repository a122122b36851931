use Rattle.std.proofs.Common.{◌∙◌, IsSome, sym, ap, subst, refl, arith}
use Rattle.std.specs.Int.NonZero.{non_zero_usize_get}
use Rattle.triple_arena_ptr.specs.Numbers.{raise}
use Rattle.triple_arena_traits.specs.ArenaState.{entry}
use Rattle.triple_arena_traits.specs.Ending.{removed}
use Rattle.triple_arena_traits.specs.laws.WellFormedLaws.{counter-removed, room-removed, limit-removed, greatest-removed}
use Rattle.triple_arena_slots.proofs.Links.{live_len, carried, Shows-steps}
use Rattle.triple_arena.proofs.Touched.{steps_of-removed}
use Rattle.std.proofs.lemmas.List.{length-map}
use Rattle.triple_arena_slots.specs.Slot.{entry_of}
use Rattle.triple_arena.proofs.base_arena.Arena.take.Goals as goal

pub overflow_sub-self : goal.overflow_sub-self
overflow_sub-self g c =
    let live = subst (λ s. IsSome (entry s (non_zero_usize_get c.args.inx))) (sym c.self.view_is) c.requires in
    live_len g.P.Gen.PtrGen.number (g.S.NonZeroInxGenericStack.items c.self.inside.slots.slots.stack) _ (non_zero_usize_get c.args.inx) _ _ live c.self.invariant

pub invariant_of-self : goal.invariant_of-self
invariant_of-self g c =
    (carried g.P.Gen.PtrGen.number _ _ _ _ _ _ _ _ _ _ _ _ _ _ _ c.args.self.now (record (removed (raise g.P.Gen.PtrGen.generations) c.args.self.now (non_zero_usize_get c.args.inx)) { steps = c.vacate-taken.new.self.slots.steps.count }) c.self.invariant c.self.view_is
    (λ shows. Shows-steps g.P.Gen.PtrGen.number _ _ _ c.vacate-taken.new.self.slots.steps.count _ (c.vacate-taken.ensures.shows (raise g.P.Gen.PtrGen.generations) c.args.self.now c.self.inside.len shows))
    (c.generational_inc-counter.ensures.raised ∙ ap (λ s. raise g.P.Gen.PtrGen.generations s.counter) c.self.view_is ∙ sym (counter-removed (raise g.P.Gen.PtrGen.generations) c.args.self.now (non_zero_usize_get c.args.inx)))
    (c.vacate-taken.ensures.room ∙ ap (λ s. s.room) c.self.view_is ∙ sym (room-removed (raise g.P.Gen.PtrGen.generations) c.args.self.now (non_zero_usize_get c.args.inx)))
    (c.vacate-taken.ensures.limit ∙ ap (λ s. s.limit) c.self.view_is ∙ sym (limit-removed (raise g.P.Gen.PtrGen.generations) c.args.self.now (non_zero_usize_get c.args.inx)))
    (ap (λ s. s.greatest) c.self.view_is ∙ sym (greatest-removed (raise g.P.Gen.PtrGen.generations) c.args.self.now (non_zero_usize_get c.args.inx))) refl).0

pub returns-clause-state : goal.returns-clause-state
returns-clause-state g c = (
  (carried g.P.Gen.PtrGen.number _ _ _ _ _ _ _ _ _ _ _ _ _ _ _ c.args.self.now (record (removed (raise g.P.Gen.PtrGen.generations) c.args.self.now (non_zero_usize_get c.args.inx)) { steps = c.vacate-taken.new.self.slots.steps.count }) c.self.invariant c.self.view_is
      (λ shows. Shows-steps g.P.Gen.PtrGen.number _ _ _ c.vacate-taken.new.self.slots.steps.count _ (c.vacate-taken.ensures.shows (raise g.P.Gen.PtrGen.generations) c.args.self.now c.self.inside.len shows))
      (c.generational_inc-counter.ensures.raised ∙ ap (λ s. raise g.P.Gen.PtrGen.generations s.counter) c.self.view_is ∙ sym (counter-removed (raise g.P.Gen.PtrGen.generations) c.args.self.now (non_zero_usize_get c.args.inx)))
      (c.vacate-taken.ensures.room ∙ ap (λ s. s.room) c.self.view_is ∙ sym (room-removed (raise g.P.Gen.PtrGen.generations) c.args.self.now (non_zero_usize_get c.args.inx)))
      (c.vacate-taken.ensures.limit ∙ ap (λ s. s.limit) c.self.view_is ∙ sym (limit-removed (raise g.P.Gen.PtrGen.generations) c.args.self.now (non_zero_usize_get c.args.inx)))
      (ap (λ s. s.greatest) c.self.view_is ∙ sym (greatest-removed (raise g.P.Gen.PtrGen.generations) c.args.self.now (non_zero_usize_get c.args.inx))) refl).1,
  omega (arith, c.vacate-taken.ensures.bounded, ap (λ s. s.steps) c.self.view_is, steps_of-removed (raise g.P.Gen.PtrGen.generations) c.args.self.now (non_zero_usize_get c.args.inx)),
)

pub returns-clause-steps : goal.returns-clause-steps
returns-clause-steps g c = omega (arith, c.vacate-taken.ensures.bounded, ap (λ s. s.steps) c.self.view_is)

pub vacate-taken-requires-clause-indexed : goal.vacate-taken-requires-clause-indexed
vacate-taken-requires-clause-indexed g c κs within =
    omega (arith, c.self.invariant.well.fits, length-map (g.S.NonZeroInxGenericStack.items c.self.inside.slots.slots.stack) (entry_of g.P.Gen.PtrGen.number))
