use Rattle.std.proofs.Common.{sym, ap, ◌∙◌}
use Rattle.triple_arena_traits.specs.Walks.{values}
use Rattle.triple_arena_direct.specs.StrictAnswers.{is_exhausted_for_any}
use Rattle.triple_arena_direct.proofs.StrictCompacting.{unwrapped, still_up_to, compacted_strictly}
use Rattle.triple_arena_direct.proofs.strict_arena.StrictArena.compress_recast_both.Goals as goal

pub returns-clause-maps : goal.returns-clause-maps
returns-clause-maps g c = (
  rw c.allow.ensures (rw (← c.self.view_is) c.in_ok-firsts.ensures.maps.0.maps),
  rw c.allow-2.ensures (rw (← c.second.view_is) c.in_ok-firsts.ensures.maps.1.maps),
)

pub returns-clause-first : goal.returns-clause-first
returns-clause-first g c = rw (← c.self.view_is, ← c.second.view_is) (unwrapped _ (ap (is_exhausted_for_any g.P.Gen.PtrGen.generations) c.self.view_is ∙ sym c.is_exhausted_for_any.ensures.value ∙ c.if-is_exhausted_for_any.false) c.in_ok-firsts.ensures.first)

pub returns-clause-second : goal.returns-clause-second
returns-clause-second g c = rw (← c.self.view_is, ← c.second.view_is) (unwrapped _ (ap (is_exhausted_for_any g.Q.Gen.PtrGen.generations) c.second.view_is ∙ sym c.is_exhausted_for_any-2.ensures.value ∙ c.if-is_exhausted_for_any-2.false) c.in_ok-firsts.ensures.second)

pub returns-clause-fresh : goal.returns-clause-fresh
returns-clause-fresh g c = (
  rw (← c.self.view_is) (compacted_strictly g.S.NonZeroInxGenericStack.kind g.P.Gen.PtrGen.generations c.self.inside.arena c.compress_recast_both.new.first (values c.compress_recast_both.new.first.slots)
      c.self.invariant (ap (is_exhausted_for_any g.P.Gen.PtrGen.generations) c.self.view_is ∙ sym c.is_exhausted_for_any.ensures.value ∙ c.if-is_exhausted_for_any.false) c.in_ok-firsts.ensures.first.left c.in_ok-firsts.ensures.sizes.0.len),
  rw (← c.second.view_is) (compacted_strictly g.Z.NonZeroInxGenericStack.kind g.Q.Gen.PtrGen.generations c.second.inside.arena c.compress_recast_both.new.second (values c.compress_recast_both.new.second.slots)
      c.second.invariant (ap (is_exhausted_for_any g.Q.Gen.PtrGen.generations) c.second.view_is ∙ sym c.is_exhausted_for_any-2.ensures.value ∙ c.if-is_exhausted_for_any-2.false) c.in_ok-firsts.ensures.second.left c.in_ok-firsts.ensures.sizes.1.len),
)

pub invariant_of-self-2 : goal.invariant_of-self-2
invariant_of-self-2 g c = still_up_to g.S.NonZeroInxGenericStack.kind g.P.Gen.PtrGen.generations c.self.inside.arena c.compress_recast_both.new.first (values c.compress_recast_both.new.first.slots)
    c.self.invariant (ap (is_exhausted_for_any g.P.Gen.PtrGen.generations) c.self.view_is ∙ sym c.is_exhausted_for_any.ensures.value ∙ c.if-is_exhausted_for_any.false) c.in_ok-firsts.ensures.first.left c.in_ok-firsts.ensures.sizes.0.len

pub invariant_of-second-2 : goal.invariant_of-second-2
invariant_of-second-2 g c = still_up_to g.Z.NonZeroInxGenericStack.kind g.Q.Gen.PtrGen.generations c.second.inside.arena c.compress_recast_both.new.second (values c.compress_recast_both.new.second.slots)
    c.second.invariant (ap (is_exhausted_for_any g.Q.Gen.PtrGen.generations) c.second.view_is ∙ sym c.is_exhausted_for_any-2.ensures.value ∙ c.if-is_exhausted_for_any-2.false) c.in_ok-firsts.ensures.second.left c.in_ok-firsts.ensures.sizes.1.len
