use Rattle.std.proofs.Common.{◌≡◌, ◌∙◌, refl, ap, subst, arith}
use Rattle.std.proofs.lemmas.List.{length-map}
use Rattle.triple_arena_traits.specs.Compression.{compressed, rank}
use Rattle.triple_arena_slots.specs.Layout.{Shows}
use Rattle.triple_arena_traits.specs.Moves.{Moves}
use Rattle.triple_arena_slots.specs.Slot.{entry_of}
use Rattle.triple_arena_traits.specs.Walks.{entries}
use Rattle.triple_arena_slots.proofs.Links.{carried}
use Rattle.triple_arena.proofs.Touched.{touched_same}
use Rattle.triple_arena.proofs.base_arena.Arena.close_up.Goals as goal

pub close_up-requires-clause-indexed : goal.close_up-requires-clause-indexed
close_up-requires-clause-indexed g c =
    omega (arith, c.self.invariant.well.fits, length-map (g.S.NonZeroInxGenericStack.items c.self.inside.slots.slots.stack) (entry_of g.P.Gen.PtrGen.number))

pub invariant_of-self : goal.invariant_of-self
invariant_of-self g c =
    let n = g.P.Gen.PtrGen.number c.self.inside.counter in
    let shows = subst (Shows g.P.Gen.PtrGen.number (g.S.NonZeroInxGenericStack.items c.self.inside.slots.slots.stack) _ c.self.inside.len) c.self.view_is c.self.invariant in
    let closed = c.close_up.ensures.moved c.args.self.now c.self.inside.len shows in
    (carried g.P.Gen.PtrGen.number _ _ _ _ _ _ _ n _ _ _ _ _ _ _ c.args.self.now (compressed c.args.self.now n closed.0) c.self.invariant c.self.view_is
    (λ _. closed.2)
    refl
    (c.close_up.ensures.room ∙ ap (λ s. s.room) c.self.view_is)
    (c.close_up.ensures.limit ∙ ap (λ s. s.limit) c.self.view_is)
    (ap (λ s. s.greatest) c.self.view_is) (c.close_up.ensures.steps ∙ ap (λ s. s.steps) c.self.view_is)).0

pub returns : goal.returns
returns g c =
    let n = g.P.Gen.PtrGen.number c.self.inside.counter in
    let shows = subst (Shows g.P.Gen.PtrGen.number (g.S.NonZeroInxGenericStack.items c.self.inside.slots.slots.stack) _ c.self.inside.len) c.self.view_is c.self.invariant in
    let closed = c.close_up.ensures.moved c.args.self.now c.self.inside.len shows in
    let is = (carried g.P.Gen.PtrGen.number _ _ _ _ _ _ _ n _ _ _ _ _ _ _ c.args.self.now (compressed c.args.self.now n closed.0) c.self.invariant c.self.view_is
    (λ _. closed.2)
    refl
    (c.close_up.ensures.room ∙ ap (λ s. s.room) c.self.view_is)
    (c.close_up.ensures.limit ∙ ap (λ s. s.limit) c.self.view_is)
    (ap (λ s. s.greatest) c.self.view_is) (c.close_up.ensures.steps ∙ ap (λ s. s.steps) c.self.view_is)).1 in
    let same : n ≡ c.args.self.now.counter = ap (λ s. s.counter) c.self.view_is in
    let closed_up = is ∙ ap (λ k. compressed c.args.self.now k closed.0) same in (
      closed.0,
      subst (λ k. Moves g.P.Ptr.numbers (goal.F-step g) (rank c.args.self.now k) c.args.f (entries c.args.self.now.slots) closed.0) same closed.1,
      touched_same (compressed c.args.self.now c.args.self.now.counter closed.0) _ closed_up,
    )
