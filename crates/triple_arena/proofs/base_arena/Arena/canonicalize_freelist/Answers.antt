use Rattle.std.proofs.Common.{◌∙◌, ap, refl, subst, sym, arith}
use Rattle.triple_arena_traits.specs.ArenaState.{ArenaState}
use Rattle.triple_arena_traits.specs.FreeList.{tidied, IsTidied}
use Rattle.triple_arena_slots.proofs.Links.{carried, Shows-steps}
use Rattle.triple_arena_traits.specs.laws.FreeListLaws.{IsTidied-tidied}
use Rattle.triple_arena_traits.specs.laws.HistoryLaws.{Continues-resized}
use Rattle.triple_arena.specs.laws.TouchedLaws.{tidied_slots}
use Rattle.std.proofs.lemmas.List.{length-map}
use Rattle.triple_arena_slots.specs.Slot.{entry_of}
use Rattle.triple_arena.proofs.base_arena.Arena.canonicalize_freelist.Goals as goal

pub invariant_of-self : goal.invariant_of-self
invariant_of-self g c =
    (carried g.P.Gen.PtrGen.number _ _ _ _ _ _ _ _ _ _ _ _ _ _ _ c.args.self.now (record (tidied c.args.self.now) { steps = c.tidy.new.self.slots.steps.count }) c.self.invariant c.self.view_is
    (λ shows. Shows-steps g.P.Gen.PtrGen.number _ _ _ c.tidy.new.self.slots.steps.count _ (c.tidy.ensures.shows c.args.self.now c.self.inside.len shows))
    (ap (λ s. s.counter) c.self.view_is)
    (c.tidy.ensures.room ∙ ap (λ s. s.room) c.self.view_is)
    (c.tidy.ensures.limit ∙ ap (λ s. s.limit) c.self.view_is)
    (ap (λ s. s.greatest) c.self.view_is) refl).0

pub returns-clause-state : goal.returns-clause-state
returns-clause-state g c = (
  (carried g.P.Gen.PtrGen.number _ _ _ _ _ _ _ _ _ _ _ _ _ _ _ c.args.self.now (record (tidied c.args.self.now) { steps = c.tidy.new.self.slots.steps.count }) c.self.invariant c.self.view_is
      (λ shows. Shows-steps g.P.Gen.PtrGen.number _ _ _ c.tidy.new.self.slots.steps.count _ (c.tidy.ensures.shows c.args.self.now c.self.inside.len shows))
      (ap (λ s. s.counter) c.self.view_is)
      (c.tidy.ensures.room ∙ ap (λ s. s.room) c.self.view_is)
      (c.tidy.ensures.limit ∙ ap (λ s. s.limit) c.self.view_is)
      (ap (λ s. s.greatest) c.self.view_is) refl).1,
  omega (arith, c.tidy.ensures.steps, ap (λ s. s.steps) c.self.view_is),
)

pub returns-clause-tidied : goal.returns-clause-tidied
returns-clause-tidied g c =
    let order = IsTidied-tidied c.args.self.now in
    let counted : IsTidied c.args.self.now (record (tidied c.args.self.now) { steps = c.tidy.new.self.slots.steps.count }) = record { entries = order.entries; ends_live = order.ends_live; rising = order.rising } in
    subst (IsTidied c.args.self.now) (sym (returns-clause-state g c).0) counted

pub returns-clause-history : goal.returns-clause-history
returns-clause-history g c =
    let state = returns-clause-state g c in
    Continues-resized c.args.self.now _ (tidied_slots c.args.self.now _ state) (ap (λ (s : ArenaState g.row.T.Denot). s.counter) state.0)

pub tidy-requires-after_bounds : goal.tidy-requires-after_bounds
tidy-requires-after_bounds g c κs within =
    omega (arith, c.self.invariant.well.fits, length-map (g.S.NonZeroInxGenericStack.items c.self.inside.slots.slots.stack) (entry_of g.P.Gen.PtrGen.number))
