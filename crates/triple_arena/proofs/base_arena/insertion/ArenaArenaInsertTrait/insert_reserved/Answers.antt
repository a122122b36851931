use Rattle.triple_arena_stack.specs.Capacity.{stack_capacity}
use Rattle.triple_arena_slots.specs.Layout.{Shows}
use Rattle.triple_arena_slots.proofs.Resizing.{below_room}
use Rattle.triple_arena_traits.specs.ArenaState.{ArenaState, arena_len, IsWellFormed}
use Rattle.std.proofs.Common.{◌∙◌, ◌+◌, ◌∷◌, [], sym, ap, subst, refl, ◌<◌, arith}
use Rattle.triple_arena_traits.specs.Insertion.{inserted}
use Rattle.triple_arena_traits.specs.SlotSteps.{touched, insertion_steps}
use Rattle.triple_arena_traits.specs.laws.WellFormedLaws.{kept-inserted, few_steps}
use Rattle.triple_arena_slots.proofs.Links.{carried, Shows-steps}
use Rattle.triple_arena_traits.specs.Histories.{insertion}
use Rattle.triple_arena_traits.specs.laws.HistoryLaws.{Continues-inserted, Continues-touched}
use Rattle.std.proofs.lemmas.List.{length-map}
use Rattle.triple_arena_slots.specs.Slot.{entry_of}
use Rattle.triple_arena.proofs.base_arena.insertion.ArenaArenaInsertTrait.insert_reserved.Goals as goal

pub invariant_of-self : goal.invariant_of-self
invariant_of-self g c =
    let kept = kept-inserted c.args.self.now c.args.t in
    let shown = subst (Shows g.P.Gen.PtrGen.number _ _ _) c.self.view_is c.self.invariant in
    (carried g.P.Gen.PtrGen.number _ _ _ _ _ _ _ _ _ _ _ _ _ _ _ c.args.self.now (touched (insertion_steps c.args.self.now) (inserted c.args.self.now c.args.t)) c.self.invariant c.self.view_is
    (λ shows. Shows-steps g.P.Gen.PtrGen.number _ _ _ _ _ (c.occupy.ensures.shows c.args.self.now c.self.inside.len shows c.requires (ap (λ s. s.counter) c.self.view_is)))
    (ap (λ s. s.counter) c.self.view_is ∙ sym kept.0)
    (c.occupy.ensures.room ∙ ap (λ s. s.room) c.self.view_is ∙ sym kept.1)
    (c.occupy.ensures.limit ∙ ap (λ s. s.limit) c.self.view_is ∙ sym kept.2)
    (ap (λ s. s.greatest) c.self.view_is ∙ sym kept.3)
    (c.occupy.ensures.steps c.args.self.now c.self.inside.len shown ∙ ap (λ k. k + insertion_steps c.args.self.now) (ap (λ s. s.steps) c.self.view_is ∙ sym kept.4))).0

pub returns-clause-inserted : goal.returns-clause-inserted
returns-clause-inserted g c =
    let kept = kept-inserted c.args.self.now c.args.t in
    let shown = subst (Shows g.P.Gen.PtrGen.number _ _ _) c.self.view_is c.self.invariant in
    (carried g.P.Gen.PtrGen.number _ _ _ _ _ _ _ _ _ _ _ _ _ _ _ c.args.self.now (touched (insertion_steps c.args.self.now) (inserted c.args.self.now c.args.t)) c.self.invariant c.self.view_is
    (λ shows. Shows-steps g.P.Gen.PtrGen.number _ _ _ _ _ (c.occupy.ensures.shows c.args.self.now c.self.inside.len shows c.requires (ap (λ s. s.counter) c.self.view_is)))
    (ap (λ s. s.counter) c.self.view_is ∙ sym kept.0)
    (c.occupy.ensures.room ∙ ap (λ s. s.room) c.self.view_is ∙ sym kept.1)
    (c.occupy.ensures.limit ∙ ap (λ s. s.limit) c.self.view_is ∙ sym kept.2)
    (ap (λ s. s.greatest) c.self.view_is ∙ sym kept.3)
    (c.occupy.ensures.steps c.args.self.now c.self.inside.len shown ∙ ap (λ k. k + insertion_steps c.args.self.now) (ap (λ s. s.steps) c.self.view_is ∙ sym kept.4))).1

pub returns-clause-bounded : goal.returns-clause-bounded
returns-clause-bounded g c =
    omega (arith, ap (λ (s : ArenaState g.row.T.Denot). s.steps) (returns-clause-inserted g c), (kept-inserted c.args.self.now c.args.t).4, few_steps c.args.self.now.free)

pub returns-clause-valid : goal.returns-clause-valid
returns-clause-valid g c = subst IsWellFormed c.self.view_is c.self.invariant.well

pub returns-clause-pointer : goal.returns-clause-pointer
returns-clause-pointer g c = c.next_ptr-p.ensures.pointer

pub returns-clause-history : goal.returns-clause-history
returns-clause-history g c =
    let is = returns-clause-inserted g c in
    let counted = ap (λ (s : ArenaState g.row.T.Denot). s.steps) is in
    Continues-touched c.args.self.now (inserted c.args.self.now c.args.t) _ (insertion (g.P.Ptr.numbers c.next_ptr-p.result) ∷ []) (is ∙ ap (λ k. record (inserted c.args.self.now c.args.t) { steps = k }) (sym counted), omega (arith, counted))
    (Continues-inserted c.args.self.now (inserted c.args.self.now c.args.t) _ c.args.t (returns-clause-valid g c) (returns-clause-pointer g c) refl)

pub next_ptr-p-requires-after_bounds : goal.next_ptr-p-requires-after_bounds
next_ptr-p-requires-after_bounds g c κs within = c.requires

pub occupy-requires-clause-shown : goal.occupy-requires-clause-shown
occupy-requires-clause-shown g c κs within = (
  c.args.self.now,
  c.self.inside.len,
  subst (Shows g.P.Gen.PtrGen.number _ _ _) c.self.view_is c.self.invariant,
  subst (λ (s : ArenaState g.row.T.Denot). arena_len c.args.self.now < stack_capacity s.room s.limit) (sym c.self.view_is) (below_room c.args.self.now c.requires),
)

pub returns-clause-free : goal.returns-clause-free
returns-clause-free g c = c.next_ptr-p.ensures.free

pub occupy-requires-clause-indexed : goal.occupy-requires-clause-indexed
occupy-requires-clause-indexed g c κs within =
    omega (arith, c.self.invariant.well.fits, length-map (g.S.NonZeroInxGenericStack.items c.self.inside.slots.slots.stack) (entry_of g.P.Gen.PtrGen.number))
