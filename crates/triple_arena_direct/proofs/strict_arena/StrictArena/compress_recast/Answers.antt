use Rattle.std.proofs.Common.{sym, ap, ◌∙◌}
use Rattle.triple_arena_traits.specs.Histories.{begun_with}
use Rattle.triple_arena_traits.specs.Walks.{keys, values}
use Rattle.triple_arena_direct.specs.StrictAnswers.{is_exhausted_for_any}
use Rattle.triple_arena_direct.proofs.StrictCompacting.{unwrapped, still_up_to, compacted_strictly}
use Rattle.triple_arena_direct.proofs.strict_arena.StrictArena.compress_recast.Goals as goal

pub returns-clause-maps : goal.returns-clause-maps
returns-clause-maps g c = rw c.allow.ensures (rw (← c.self.view_is) c.in_ok-answer.ensures.map.maps)

pub returns-clause-compacted : goal.returns-clause-compacted
returns-clause-compacted g c = rw (← c.self.view_is) (unwrapped _ (ap (is_exhausted_for_any g.P.Gen.PtrGen.generations) c.self.view_is ∙ sym c.is_exhausted_for_any.ensures.value ∙ c.if-is_exhausted_for_any.false) c.in_ok-answer.ensures.compacted)

pub returns-clause-fresh : goal.returns-clause-fresh
returns-clause-fresh g c = rw (← c.self.view_is) (compacted_strictly g.S.NonZeroInxGenericStack.kind g.P.Gen.PtrGen.generations c.self.inside.arena c.compress_recast.new.this (values c.compress_recast.new.this.slots)
    c.self.invariant (ap (is_exhausted_for_any g.P.Gen.PtrGen.generations) c.self.view_is ∙ sym c.is_exhausted_for_any.ensures.value ∙ c.if-is_exhausted_for_any.false) c.in_ok-answer.ensures.compacted.left c.in_ok-answer.ensures.size.len)

pub invariant_of-self-2 : goal.invariant_of-self-2
invariant_of-self-2 g c = still_up_to g.S.NonZeroInxGenericStack.kind g.P.Gen.PtrGen.generations c.self.inside.arena c.compress_recast.new.this (values c.compress_recast.new.this.slots)
    c.self.invariant (ap (is_exhausted_for_any g.P.Gen.PtrGen.generations) c.self.view_is ∙ sym c.is_exhausted_for_any.ensures.value ∙ c.if-is_exhausted_for_any.false) c.in_ok-answer.ensures.compacted.left c.in_ok-answer.ensures.size.len

pub returns-in_err-answer-clause-begun : goal.returns-in_err-answer-clause-begun
returns-in_err-answer-clause-begun g c counts =
    rw (c.in_err-answer.ensures.refused, c.self.view_is) (c.is_exhausted_for_any.ensures.begun counts)

pub returns-clause-begun : goal.returns-clause-begun
returns-clause-begun g c counts =
    c.in_ok-answer.ensures.compacted.begun (begun_with (keys c.self.inside.arena.slots)) (rw (← c.self.view_is) at (c.is_exhausted_for_any.ensures.begun counts))
