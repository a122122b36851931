use Rattle.std.proofs.Common.{◌∙◌, ◌≤◌, length, map, refl, ap, arith}
use Rattle.std.proofs.lemmas.List.{length-map}
use Rattle.triple_arena_traits.specs.ArenaState.{capacity}
use Rattle.triple_arena_traits.specs.FreeList.{laid_out}
use Rattle.triple_arena_slots.specs.Slot.{entry_of}
use Rattle.triple_arena_slots.proofs.Links.{carried, Shows-steps}
use Rattle.triple_arena_slots.proofs.Tidying.{Shows-laid_out}
use Rattle.triple_arena.proofs.base_arena.Arena.hold_copies.Goals as goal

pub invariant_of-self : goal.invariant_of-self
invariant_of-self g c =
    let items = g.S.NonZeroInxGenericStack.items c.copy-len.new.self.slots.stack in
    let xs = map (entry_of g.P.Gen.PtrGen.number) items in
    let n = g.P.Gen.PtrGen.number c.args.counter in
    let fits : length xs ≤ capacity c.args.self.now = omega (arith, c.copy-len.ensures.ends, c.requires.fits, length-map items (entry_of g.P.Gen.PtrGen.number)) in
    (carried g.P.Gen.PtrGen.number _ items _ _ _ c.copy-len.result.0 _ n _ _ _ _ _ _ _ c.args.self.now (record (laid_out c.args.self.now xs n) { steps = c.copy-len.new.self.slots.steps.count }) c.self.invariant c.self.view_is
    (λ _. Shows-steps g.P.Gen.PtrGen.number _ _ _ c.copy-len.new.self.slots.steps.count _ (Shows-laid_out g.P.Gen.PtrGen.number items _ c.copy-len.result.0 c.args.self.now xs n refl c.copy-len.ensures.linked c.copy-len.ensures.count fits))
    refl
    (c.copy-len.ensures.room ∙ ap (λ s. s.room) c.self.view_is)
    (c.copy-len.ensures.limit ∙ ap (λ s. s.limit) c.self.view_is)
    (ap (λ s. s.greatest) c.self.view_is) refl).0

pub returns : goal.returns
returns g c =
    let items = g.S.NonZeroInxGenericStack.items c.copy-len.new.self.slots.stack in
    let xs = map (entry_of g.P.Gen.PtrGen.number) items in
    let n = g.P.Gen.PtrGen.number c.args.counter in
    let fits : length xs ≤ capacity c.args.self.now = omega (arith, c.copy-len.ensures.ends, c.requires.fits, length-map items (entry_of g.P.Gen.PtrGen.number)) in
    let both = carried g.P.Gen.PtrGen.number _ items _ _ _ c.copy-len.result.0 _ n _ _ _ _ _ _ _ c.args.self.now (record (laid_out c.args.self.now xs n) { steps = c.copy-len.new.self.slots.steps.count }) c.self.invariant c.self.view_is
    (λ _. Shows-steps g.P.Gen.PtrGen.number _ _ _ c.copy-len.new.self.slots.steps.count _ (Shows-laid_out g.P.Gen.PtrGen.number items _ c.copy-len.result.0 c.args.self.now xs n refl c.copy-len.ensures.linked c.copy-len.ensures.count fits))
    refl
    (c.copy-len.ensures.room ∙ ap (λ s. s.room) c.self.view_is)
    (c.copy-len.ensures.limit ∙ ap (λ s. s.limit) c.self.view_is)
    (ap (λ s. s.greatest) c.self.view_is) refl in
    (xs, c.copy-len.ensures.copied, (both.1, omega (arith, c.copy-len.ensures.steps, ap (λ s. s.steps) c.self.view_is)))

pub copy-len-requires-clause-indexed : goal.copy-len-requires-clause-indexed
copy-len-requires-clause-indexed g c = omega (arith, c.requires.fits, ap (λ s. s.greatest) c.self.view_is)
