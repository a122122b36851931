use Rattle.std.proofs.Common.{sym, ap, ◌∙◌}
use Rattle.triple_arena_traits.specs.Histories.{begun_with}
use Rattle.triple_arena_traits.specs.Walks.{keys, values}
use Rattle.triple_arena_direct.specs.StrictAnswers.{is_exhausted_for_any}
use Rattle.triple_arena_direct.proofs.StrictCompacting.{unwrapped, still_up_to, compacted_strictly}
use Rattle.triple_arena_direct.proofs.strict_arena.StrictArena.compress_recast_with.Goals as goal

pub returns-in_ok-answer-clause-maps : goal.returns-in_ok-answer-clause-maps
returns-in_ok-answer-clause-maps g c = rw c.allow.ensures (rw (← c.self.view_is) c.in_ok-answer.ensures.map.maps)

pub returns-in_ok-answer-clause-compacted : goal.returns-in_ok-answer-clause-compacted
returns-in_ok-answer-clause-compacted g c = rw (← c.self.view_is) (unwrapped _ (ap (is_exhausted_for_any g.P.Gen.PtrGen.generations) c.self.view_is ∙ sym c.is_exhausted_for_any.ensures.value ∙ c.if-is_exhausted_for_any.false) c.in_ok-answer.ensures.compacted)

pub returns-in_ok-answer-clause-fresh : goal.returns-in_ok-answer-clause-fresh
returns-in_ok-answer-clause-fresh g c = rw (← c.self.view_is) (compacted_strictly g.S.NonZeroInxGenericStack.kind g.P.Gen.PtrGen.generations c.self.inside.arena c.compress_recast_with.new.this (values c.compress_recast_with.new.this.slots)
    c.self.invariant (ap (is_exhausted_for_any g.P.Gen.PtrGen.generations) c.self.view_is ∙ sym c.is_exhausted_for_any.ensures.value ∙ c.if-is_exhausted_for_any.false) c.in_ok-answer.ensures.compacted.left c.in_ok-answer.ensures.size.len)

pub invariant_of-self-else-is_exhausted_for_any : goal.invariant_of-self-else-is_exhausted_for_any
invariant_of-self-else-is_exhausted_for_any g c = still_up_to g.S.NonZeroInxGenericStack.kind g.P.Gen.PtrGen.generations c.self.inside.arena c.compress_recast_with.new.this (values c.compress_recast_with.new.this.slots)
    c.self.invariant (ap (is_exhausted_for_any g.P.Gen.PtrGen.generations) c.self.view_is ∙ sym c.is_exhausted_for_any.ensures.value ∙ c.if-is_exhausted_for_any.false) c.in_ok-answer.ensures.compacted.left c.in_ok-answer.ensures.size.len

pub returns-in_err-answer-clause-begun : goal.returns-in_err-answer-clause-begun
returns-in_err-answer-clause-begun g c counts =
    rw (c.in_err-answer.ensures.refused.0, c.self.view_is) (c.is_exhausted_for_any.ensures.begun counts)

pub returns-in_ok-answer-clause-begun : goal.returns-in_ok-answer-clause-begun
returns-in_ok-answer-clause-begun g c counts =
    c.in_ok-answer.ensures.compacted.begun (begun_with (keys c.self.inside.arena.slots)) (rw (← c.self.view_is) at (c.is_exhausted_for_any.ensures.begun counts))
