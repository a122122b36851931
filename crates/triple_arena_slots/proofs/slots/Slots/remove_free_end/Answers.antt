use Rattle.std.proofs.Common.{◌∙◌, refl, sym, ap, length, arith}
use Rattle.triple_arena_traits.specs.laws.FreeListLaws.{vacant_is}
use Rattle.triple_arena_slots.proofs.FreeEnd.{Shows-ended, Shows-fewer}
use Rattle.triple_arena_slots.proofs.slots.Slots.remove_free_end.Goals as goal

pub pops-init : goal.pops-init
pops-init g c = (refl, refl, omega arith, omega arith, omega arith, λ s len shows. (s, shows, refl))

pub pops-smaller : goal.pops-smaller
pops-smaller g c =
    omega (arith, c.pop_free.ensures.popped, ap (λ stack. length (g.S.NonZeroInxGenericStack.items stack)) c.ends_free.ensures.stack)

pub pop_free-requires-clause-indexed : goal.pop_free-requires-clause-indexed
pop_free-requires-clause-indexed g c κs within =
    omega (arith, c.pops.invariant.4, c.requires.indexed, ap (λ stack. length (g.S.NonZeroInxGenericStack.items stack)) c.ends_free.ensures.stack)

pub pop_free-requires-clause-free : goal.pop_free-requires-clause-free
pop_free-requires-clause-free g c κs within =
    rw c.ends_free.ensures.stack (vacant_is _ (sym c.ends_free.ensures.value ∙ c.pops-test.true))

pub pop_free-requires-clause-shown : goal.pop_free-requires-clause-shown
pop_free-requires-clause-shown g c κs within =
    let now = c.pops.invariant.5 c.requires.shown.0 c.requires.shown.1 c.requires.shown.2 in
    (now.0, c.requires.shown.1, rw (c.ends_free.ensures.stack, c.ends_free.ensures.root) now.1)

pub pops-preserved : goal.pops-preserved
pops-preserved g c = (
  c.pop_free.ensures.room ∙ ap g.S.NonZeroInxGenericStack.room c.ends_free.ensures.stack ∙ c.pops.invariant.0,
  c.pop_free.ensures.limit ∙ ap g.S.NonZeroInxGenericStack.limit c.ends_free.ensures.stack ∙ c.pops.invariant.1,
  omega (arith, c.pops.invariant.2, c.pop_free.ensures.bounded, c.ends_free.ensures.bounded, c.pop_free.ensures.popped, ap (λ stack. length (g.S.NonZeroInxGenericStack.items stack)) c.ends_free.ensures.stack),
  omega (arith, c.pops.invariant.3, c.pop_free.ensures.bounded, c.ends_free.ensures.bounded),
  omega (arith, c.pops.invariant.4, c.pop_free.ensures.popped, ap (λ stack. length (g.S.NonZeroInxGenericStack.items stack)) c.ends_free.ensures.stack),
  λ s len shows.
      let now = c.pops.invariant.5 s len shows in
      let vacant = vacant_is _ (sym c.ends_free.ensures.value ∙ c.pops-test.true) in
      (_, c.pop_free.ensures.shows now.0 len (rw (c.ends_free.ensures.stack, c.ends_free.ensures.root) now.1), Shows-fewer g.P.Gen.PtrGen.number _ _ len now.0 vacant now.1 ∙ now.2),
)

pub returns-clause-shows : goal.returns-clause-shows
returns-clause-shows g c s len shows =
    let now = c.pops.invariant.5 s len shows in
    rw (← now.2, c.ends_free.ensures.stack, c.ends_free.ensures.root) (Shows-ended g.P.Gen.PtrGen.number _ _ len now.0 (sym c.ends_free.ensures.value ∙ c.pops-test.false) now.1)
