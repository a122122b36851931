use Rattle.triple_arena_traits.specs.Histories.{insertion}
use Rattle.triple_arena_direct.specs.laws.GoneLaws.{up_to-continues}
use Rattle.triple_arena_direct.specs.StrictAnswers.{calls_if_ok}
use Rattle.triple_arena_direct.proofs.StrictAnswers.{counted_place, inserted_history}
use Rattle.triple_arena_direct.proofs.StrictDone.{inserted_grown, grown_call}
use Rattle.triple_arena_direct.proofs.strict_arena.StrictArena.insert.Goals as goal

pub invariant_of-self : goal.invariant_of-self
invariant_of-self g c counts =
    up_to-continues c.self.inside.arena c.insert.new.self (c.self.invariant counts)
    (calls_if_ok c.insert.result (λ p. insertion (g.P.Ptr.numbers p)))
    (inserted_history g.P.Ptr.numbers _ _ c.insert.result c.insert.ensures.history c.insert.ensures.refused)

pub returns-clause-done : goal.returns-clause-done
returns-clause-done g c =
    let is = c.insert.ensures in
    rw (← c.self.view_is) (inserted_grown g.P.Ptr.numbers c.self.inside.arena c.insert.new.self c.args.t g.S.NonZeroInxGenericStack.kind c.insert.result is.valid is.pointer is.place is.inserted)

pub returns-clause-had_place : goal.returns-clause-had_place
returns-clause-had_place g c =
    rw (← c.self.view_is) (λ less. counted_place c.self.inside.arena c.insert.new.self c.args.t c.insert.result (c.insert.ensures.had_place less))

pub returns-clause-call : goal.returns-clause-call
returns-clause-call g c =
    let is = c.insert.ensures in
    rw (← c.self.view_is) (grown_call g.P.Ptr.numbers c.self.inside.arena c.insert.new.self c.args.t g.S.NonZeroInxGenericStack.kind g.P.Gen.PtrGen.generations
    c.insert.result c.self.invariant is.valid is.pointer is.refused is.history (λ less. (is.had_place less).0) is.inserted)
