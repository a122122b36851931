use Rattle.std.proofs.Common.{◌≤◌, ◌∙◌, ◌∷◌, [], ap, refl, arith}
use Rattle.std.specs.Option.{option_and_then}
use Rattle.triple_arena_traits.specs.Entries.{value_of_generation}
use Rattle.triple_arena_traits.specs.Items.{item}
use Rattle.triple_arena_traits.specs.ArenaState.{ArenaState, slot_count, arena_len, entry, is_free}
use Rattle.triple_arena_traits.specs.FreeList.{without_free_end}
use Rattle.triple_arena_traits.specs.laws.EntryLaws.{slots-without_free_end}
use Rattle.triple_arena_traits.specs.laws.LengthLaws.{len-without_free_end}
use Rattle.triple_arena_slots.proofs.Links.{carried, Shows-steps}
use Rattle.triple_arena_slots.specs.Slot.{entry_of}
use Rattle.std.proofs.lemmas.List.{length-map}
use Rattle.triple_arena_traits.specs.laws.FreeListLaws.{trimmed_last, trimmed_length}
use Rattle.triple_arena_traits.specs.Histories.{resizing}
use Rattle.triple_arena_traits.specs.laws.HistoryLaws.{Continues-resized, Continues-touched}
use Rattle.triple_arena.proofs.base_arena.Arena.remove_free_end_slots.Goals as goal

pub invariant_of-self : goal.invariant_of-self
invariant_of-self g c =
    (carried g.P.Gen.PtrGen.number _ _ _ _ _ _ _ _ _ _ _ _ _ _ _ c.args.self.now (record (without_free_end c.args.self.now) { steps = c.remove_free_end.new.self.slots.steps.count }) c.self.invariant c.self.view_is
    (λ shows. Shows-steps g.P.Gen.PtrGen.number _ _ _ c.remove_free_end.new.self.slots.steps.count _ (c.remove_free_end.ensures.shows c.args.self.now c.self.inside.len shows))
    (ap (λ s. s.counter) c.self.view_is)
    (c.remove_free_end.ensures.room ∙ ap (λ s. s.room) c.self.view_is)
    (c.remove_free_end.ensures.limit ∙ ap (λ s. s.limit) c.self.view_is)
    (ap (λ s. s.greatest) c.self.view_is) refl).0

pub returns-clause-state : goal.returns-clause-state
returns-clause-state g c = (
  (carried g.P.Gen.PtrGen.number _ _ _ _ _ _ _ _ _ _ _ _ _ _ _ c.args.self.now (record (without_free_end c.args.self.now) { steps = c.remove_free_end.new.self.slots.steps.count }) c.self.invariant c.self.view_is
      (λ shows. Shows-steps g.P.Gen.PtrGen.number _ _ _ c.remove_free_end.new.self.slots.steps.count _ (c.remove_free_end.ensures.shows c.args.self.now c.self.inside.len shows))
      (ap (λ s. s.counter) c.self.view_is)
      (c.remove_free_end.ensures.room ∙ ap (λ s. s.room) c.self.view_is)
      (c.remove_free_end.ensures.limit ∙ ap (λ s. s.limit) c.self.view_is)
      (ap (λ s. s.greatest) c.self.view_is) refl).1,
  omega (arith, c.remove_free_end.ensures.bounded, ap (λ s. s.steps) c.self.view_is),
)

pub returns-clause-bounded : goal.returns-clause-bounded
returns-clause-bounded g c =
    let f = entry_of g.P.Gen.PtrGen.number in
    let old = g.S.NonZeroInxGenericStack.items c.self.inside.slots.slots.stack in
    let new = g.S.NonZeroInxGenericStack.items c.remove_free_end.new.self.slots.stack in
    let less : slot_count (without_free_end c.args.self.now) ≤ slot_count c.args.self.now = trimmed_length c.args.self.now.slots in
    omega (arith, c.remove_free_end.ensures.bounded, ap (λ s. s.steps) c.self.view_is, length-map old f, length-map new f, ap slot_count c.self.view_is, c.remove_free_end.ensures.fewer, ap slot_count (returns-clause-state g c).0, less)

pub returns-clause-kept : goal.returns-clause-kept
returns-clause-kept g c q =
    let same = slots-without_free_end c.args.self.now (without_free_end c.args.self.now) refl q.0 in
    ap (option_and_then (value_of_generation q.1)) (ap (λ (t : ArenaState g.row.T.Denot). entry t q.0) (returns-clause-state g c).0 ∙ same)

pub returns-clause-same_len : goal.returns-clause-same_len
returns-clause-same_len g c =
    ap arena_len (returns-clause-state g c).0 ∙ len-without_free_end c.args.self.now (without_free_end c.args.self.now) refl

pub returns-clause-ends_live : goal.returns-clause-ends_live
returns-clause-ends_live g c =
    ap (λ s. is_free (item s.slots (slot_count s))) (returns-clause-state g c).0 ∙ trimmed_last c.args.self.now.slots

pub returns-clause-history : goal.returns-clause-history
returns-clause-history g c =
    Continues-touched c.args.self.now (without_free_end c.args.self.now) _ (resizing ∷ []) (returns-clause-state g c)
    (Continues-resized c.args.self.now (without_free_end c.args.self.now) (slots-without_free_end c.args.self.now (without_free_end c.args.self.now) refl) refl)

pub remove_free_end-requires-clause-indexed : goal.remove_free_end-requires-clause-indexed
remove_free_end-requires-clause-indexed g c κs within =
    omega (arith, c.self.invariant.well.fits, length-map (g.S.NonZeroInxGenericStack.items c.self.inside.slots.slots.stack) (entry_of g.P.Gen.PtrGen.number))
