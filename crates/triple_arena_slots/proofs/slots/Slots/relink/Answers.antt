use Rattle.std.proofs.Common.{◌≡◌, ◌∙◌, ◌+◌, ◌-◌, Some, None, is_some, length, map, sym, ap, arith}
use Rattle.std.proofs.lemmas.List.{length-map}
use Rattle.std.specs.Int.NonZero.{non_zero_usize_get}
use Rattle.triple_arena_traits.specs.Items.{item}
use Rattle.triple_arena_traits.specs.Places.{number_or_zero}
use Rattle.triple_arena_slots.specs.Slot.{entry_of}
use Rattle.triple_arena_slots.proofs.Tidying.{LinkedFrom-live, LinkedFrom-free, LinkedFrom-root, Begins-length, vacant_within}
use Rattle.triple_arena_slots.proofs.Unlinking.{free_slot_at}
use Rattle.triple_arena_slots.proofs.slots.Slots.relink.Goals.{then-not-has_entry, else-not-has_entry}
use Rattle.triple_arena_slots.proofs.slots.Slots.relink.Goals as goal

pub free-requires-clause-indexed : goal.free-requires-clause-indexed
free-requires-clause-indexed g c κs within =
    omega (arith, c.links.invariant.2, c.requires, ap (λ stack. length (g.S.NonZeroInxGenericStack.items stack)) c.has_entry.ensures.stack)

pub free-requires-clause-there : goal.free-requires-clause-there
free-requires-clause-there g c κs within =
    let items = g.S.NonZeroInxGenericStack.items c.links.self.slots.stack in
    let inx = non_zero_usize_get c.in-Some.inx in
    let below = rw c.in-Some.is at c.links.invariant.4 in
    let vacant : item (map (entry_of g.P.Gen.PtrGen.number) items) inx ≡ Some None = vacant_within (map (entry_of g.P.Gen.PtrGen.number) items) inx c.in-Some.inx.ok (omega (arith, below, length-map items (entry_of g.P.Gen.PtrGen.number))) (sym c.has_entry.ensures.value ∙ c.if-not-has_entry.true) in
    rw c.has_entry.ensures.stack (ap is_some (free_slot_at g.P.Gen.PtrGen.number items inx vacant).1)

pub free-requires-clause-other : goal.free-requires-clause-other
free-requires-clause-other g c κs within =
    LinkedFrom-root g.P.Gen.PtrGen.number _ _ _ _ (rw c.in-Some.is at c.links.invariant.5)

pub free-requires-clause-root_free : goal.free-requires-clause-root_free
free-requires-clause-root_free g c κs within =
    rw c.has_entry.ensures.stack c.links.invariant.5.vacant

pub links-preserved : goal.links-preserved
links-preserved g c =
    let items = g.S.NonZeroInxGenericStack.items c.links.self.slots.stack in
    let inx = non_zero_usize_get c.in-Some.inx in
    let here : inx ≡ inx - 1 + 1 = omega (arith, c.in-Some.inx.ok) in
    let linked = rw c.in-Some.is at c.links.invariant.5 in
    let below = rw c.in-Some.is at c.links.invariant.4 in
    let next : number_or_zero c.index_of-next-in-Some.result ≡ inx - 1 = omega (arith, c.index_of-next-in-Some.ensures) in
    elim c.if-not-has_entry.branch [
      | then-not-has_entry w ↦
          let vacant : item (map (entry_of g.P.Gen.PtrGen.number) items) inx ≡ Some None = vacant_within (map (entry_of g.P.Gen.PtrGen.number) items) inx c.in-Some.inx.ok (omega (arith, below, length-map items (entry_of g.P.Gen.PtrGen.number))) (sym c.has_entry.ensures.value ∙ w.if-not-has_entry.true) in
          let begins = rw c.has_entry.ensures.stack at w.free.ensures.begins in
          let size = Begins-length g.P.Gen.PtrGen.number items _ _ inx begins in
          rw (w.self-is, next) (
            w.free.ensures.room ∙ ap g.S.NonZeroInxGenericStack.room c.has_entry.ensures.stack ∙ c.links.invariant.0,
            w.free.ensures.limit ∙ ap g.S.NonZeroInxGenericStack.limit c.has_entry.ensures.stack ∙ c.links.invariant.1,
            size ∙ c.links.invariant.2,
            omega (arith, w.free.ensures.bounded, c.has_entry.ensures.steps, c.links.invariant.3),
            omega (arith, size, below),
            rw w.free.ensures.root (LinkedFrom-free g.P.Gen.PtrGen.number _ items _ inx _ _ here linked vacant begins),
          )
      | else-not-has_entry w ↦ rw (w.self-is, next, c.has_entry.ensures.stack) (
        c.links.invariant.0,
        c.links.invariant.1,
        c.links.invariant.2,
        omega (arith, c.has_entry.ensures.steps, c.links.invariant.3),
        omega (arith, below),
        LinkedFrom-live g.P.Gen.PtrGen.number _ items inx _ _ here linked (sym c.has_entry.ensures.value ∙ w.if-not-has_entry.false),
      )
    ]
