use Rattle.std.proofs.Common.{sym, ap, ◌∙◌}
use Rattle.triple_arena_traits.specs.Histories.{begun_with}
use Rattle.triple_arena_traits.specs.Walks.{keys, values}
use Rattle.triple_arena_direct.specs.StrictAnswers.{is_exhausted_for_any}
use Rattle.triple_arena_direct.proofs.StrictCompacting.{still_up_to, compacted_strictly}
use Rattle.triple_arena_direct.proofs.strict_arena.StrictArena.compress.Goals as goal

pub returns-clause-compacted : goal.returns-clause-compacted
returns-clause-compacted g c =
    let is = c.compress-answer.ensures in
    let allowed = ap (is_exhausted_for_any g.P.Gen.PtrGen.generations) c.self.view_is ∙ sym c.is_exhausted_for_any.ensures.value ∙ c.if-is_exhausted_for_any.false in
    rw (← c.self.view_is) (record {
      ranked = is.keys;
      made = is.values;
      left = rw is.values is.done;
      found = is.found;
      history = λ unset up. is.history unset (up.0, allowed);
      begun = is.begun;
    })

pub returns-clause-fresh : goal.returns-clause-fresh
returns-clause-fresh g c = rw (← c.self.view_is) (compacted_strictly g.S.NonZeroInxGenericStack.kind g.P.Gen.PtrGen.generations c.self.inside.arena c.compress-answer.new.self (values c.self.inside.arena.slots)
    c.self.invariant (ap (is_exhausted_for_any g.P.Gen.PtrGen.generations) c.self.view_is ∙ sym c.is_exhausted_for_any.ensures.value ∙ c.if-is_exhausted_for_any.false) c.compress-answer.ensures.done c.compress-answer.ensures.len)

pub invariant_of-self : goal.invariant_of-self
invariant_of-self g c = still_up_to g.S.NonZeroInxGenericStack.kind g.P.Gen.PtrGen.generations c.self.inside.arena c.compress-answer.new.self (values c.self.inside.arena.slots)
    c.self.invariant (ap (is_exhausted_for_any g.P.Gen.PtrGen.generations) c.self.view_is ∙ sym c.is_exhausted_for_any.ensures.value ∙ c.if-is_exhausted_for_any.false) c.compress-answer.ensures.done c.compress-answer.ensures.len

pub returns-clause-begun : goal.returns-clause-begun
returns-clause-begun g c counts =
    c.compress-answer.ensures.begun (begun_with (keys c.self.inside.arena.slots)) (rw (← c.self.view_is) at (c.is_exhausted_for_any.ensures.begun counts))
