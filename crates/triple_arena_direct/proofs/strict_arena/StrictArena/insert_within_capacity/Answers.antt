use Rattle.triple_arena_traits.specs.Histories.{insertion}
use Rattle.triple_arena_direct.specs.laws.GoneLaws.{up_to-continues}
use Rattle.triple_arena_direct.specs.StrictAnswers.{calls_if_ok}
use Rattle.triple_arena_direct.proofs.StrictAnswers.{inserted_history}
use Rattle.triple_arena_direct.proofs.StrictDone.{inserted_within, within_call}
use Rattle.triple_arena_direct.proofs.strict_arena.StrictArena.insert_within_capacity.Goals as goal

pub invariant_of-self : goal.invariant_of-self
invariant_of-self g c counts =
    up_to-continues c.self.inside.arena c.insert_within_capacity.new.self (c.self.invariant counts)
    (calls_if_ok c.insert_within_capacity.result (λ p. insertion (g.P.Ptr.numbers p)))
    (inserted_history g.P.Ptr.numbers _ _ c.insert_within_capacity.result c.insert_within_capacity.ensures.history c.insert_within_capacity.ensures.refused)

pub returns-clause-done : goal.returns-clause-done
returns-clause-done g c =
    let is = c.insert_within_capacity.ensures in
    rw (← c.self.view_is) (inserted_within g.P.Ptr.numbers c.self.inside.arena c.insert_within_capacity.new.self c.args.t c.insert_within_capacity.result is.valid is.pointer is.variant.0 is.inserted)

pub returns-clause-call : goal.returns-clause-call
returns-clause-call g c =
    let is = c.insert_within_capacity.ensures in
    rw (← c.self.view_is) (within_call g.P.Ptr.numbers c.self.inside.arena c.insert_within_capacity.new.self c.args.t g.S.NonZeroInxGenericStack.kind g.P.Gen.PtrGen.generations
    c.insert_within_capacity.result c.self.invariant is.valid is.pointer is.refused is.history is.variant.0 is.variant.1 is.inserted)
