use Rattle.std.proofs.Common.{◌∷◌, [], refl, arith}
use Rattle.triple_arena_traits.specs.Histories.{insertion}
use Rattle.triple_arena_direct.specs.laws.GoneLaws.{up_to-continues}
use Rattle.triple_arena_direct.specs.StrictCalls.{to_insert}
use Rattle.triple_arena_direct.proofs.StrictSteps.{reserved}
use Rattle.triple_arena_direct.proofs.StrictDone.{called, inserted_into}
use Rattle.triple_arena_direct.proofs.strict_arena.StrictArena.insert_reserved.Goals as goal

pub invariant_of-self : goal.invariant_of-self
invariant_of-self g c counts =
    up_to-continues c.self.inside.arena c.insert_reserved.new.self (c.self.invariant counts)
    (insertion (g.P.Ptr.numbers c.insert_reserved.result) ∷ []) c.insert_reserved.ensures.history

pub returns-clause-done : goal.returns-clause-done
returns-clause-done g c =
    let s = c.self.inside.arena in
    let is = c.insert_reserved.ensures in
    let place = rw (← c.self.view_is) at c.requires in
    rw (← c.self.view_is) (inserted_into s s c.insert_reserved.new.self c.args.t (g.P.Ptr.numbers c.insert_reserved.result) is.valid (λ i. refl) refl place is.pointer (rw is.inserted (refl, omega arith)))

pub returns-clause-call : goal.returns-clause-call
returns-clause-call g c =
    let s = c.self.inside.arena in
    let p = g.P.Ptr.numbers c.insert_reserved.result in
    let is = c.insert_reserved.ensures in
    let place = rw (← c.self.view_is) at c.requires in
    rw (← c.self.view_is) (called g.S.NonZeroInxGenericStack.kind g.P.Gen.PtrGen.generations s c.insert_reserved.new.self (to_insert c.args.t) (insertion p ∷ []) c.self.invariant
    (reserved g.S.NonZeroInxGenericStack.kind g.P.Gen.PtrGen.generations s c.insert_reserved.new.self p c.args.t is.valid place is.pointer is.inserted) is.history)
