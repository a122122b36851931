use Rattle.std.proofs.Common.{◌∙◌, ◌≤◌, length, map, refl, sym, ap, arith}
use Rattle.std.proofs.lemmas.List.{length-map}
use Rattle.triple_arena_traits.specs.ArenaState.{capacity, arena_len}
use Rattle.triple_arena_traits.specs.FreeList.{laid_out}
use Rattle.triple_arena_slots.specs.Slot.{entry_of}
use Rattle.triple_arena_slots.proofs.Links.{carried}
use Rattle.triple_arena.proofs.Touched.{touched_same}
use Rattle.triple_arena_slots.proofs.Tidying.{Shows-laid_out}
use Rattle.triple_arena_traits.proofs.TransferLemmas.{closed_up_slots}
use Rattle.triple_arena.proofs.base_arena.Arena.take_over.Goals as goal

pub invariant_of-self : goal.invariant_of-self
invariant_of-self g c =
    let taken = c.take_over-self-inside in
    let items = g.S.NonZeroInxGenericStack.items taken.new.self.slots.stack in
    let xs = map (entry_of g.P.Gen.PtrGen.number) items in
    let n = g.P.Gen.PtrGen.number c.args.generation in
    let full = closed_up_slots n _ xs taken.ensures.transferred.stands in
    let fits : length xs ≤ capacity c.args.self.now = omega (arith, taken.ensures.many, c.requires.fits, length-map items (entry_of g.P.Gen.PtrGen.number)) in
    (carried g.P.Gen.PtrGen.number _ items _ _ _ taken.result _ n _ _ _ _ _ _ _ c.args.self.now (laid_out c.args.self.now xs n) c.self.invariant c.self.view_is
    (λ _. Shows-laid_out g.P.Gen.PtrGen.number items _ taken.result c.args.self.now xs n refl (rw (full.0, taken.ensures.root) refl) (taken.ensures.count ∙ sym taken.ensures.many ∙ sym (length-map items (entry_of g.P.Gen.PtrGen.number)) ∙ sym full.1) fits)
    refl
    (taken.ensures.room ∙ ap (λ s. s.room) c.self.view_is)
    (taken.ensures.limit ∙ ap (λ s. s.limit) c.self.view_is)
    (ap (λ s. s.greatest) c.self.view_is) (taken.ensures.steps ∙ ap (λ s. s.steps) c.self.view_is)).0

pub returns : goal.returns
returns g c =
    let taken = c.take_over-self-inside in
    let items = g.S.NonZeroInxGenericStack.items taken.new.self.slots.stack in
    let xs = map (entry_of g.P.Gen.PtrGen.number) items in
    let n = g.P.Gen.PtrGen.number c.args.generation in
    let full = closed_up_slots n _ xs taken.ensures.transferred.stands in
    let size = length-map items (entry_of g.P.Gen.PtrGen.number) ∙ taken.ensures.many in
    let fits : length xs ≤ capacity c.args.self.now = omega (arith, size, c.requires.fits) in
    let both = carried g.P.Gen.PtrGen.number _ items _ _ _ taken.result _ n _ _ _ _ _ _ _ c.args.self.now (laid_out c.args.self.now xs n) c.self.invariant c.self.view_is
    (λ _. Shows-laid_out g.P.Gen.PtrGen.number items _ taken.result c.args.self.now xs n refl (rw (full.0, taken.ensures.root) refl) (taken.ensures.count ∙ sym size ∙ sym full.1) fits)
    refl
    (taken.ensures.room ∙ ap (λ s. s.room) c.self.view_is)
    (taken.ensures.limit ∙ ap (λ s. s.limit) c.self.view_is)
    (ap (λ s. s.greatest) c.self.view_is) (taken.ensures.steps ∙ ap (λ s. s.steps) c.self.view_is) in
    record {
      transferred = (xs, taken.ensures.transferred, touched_same (laid_out c.args.self.now xs n) _ both.1, size);
      emptied = taken.ensures.emptied;
      counted = ap arena_len both.1 ∙ full.1 ∙ size;
    }
