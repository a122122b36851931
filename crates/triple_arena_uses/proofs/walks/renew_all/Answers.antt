use Rattle.std.proofs.Common.{ap, subst, Contains}
use Rattle.std.proofs.lemmas.List.{map_push}
use Rattle.std.proofs.lemmas.List.Elements.{All-nil}
use Rattle.triple_arena_ptr.specs.Pointers.{Pointer}
use Rattle.triple_arena.specs.laws.WalkLaws.{taken}
use Rattle.triple_arena_uses.proofs.Renewing.{none_answered, one_answered, answers_rise, still_valid, stays, renewed_is}
use Rattle.triple_arena_uses.proofs.walks.renew_all.Goals as goal

pub walk-init : goal.walk-init
walk-init g c = rw c.new-all.ensures.items (record { answered = none_answered _ _ _ c.advancer-advancer.ensures; valid = All-nil _ })

pub walk-smaller : goal.walk-smaller
walk-smaller g c = (taken _ _ _ _ _ (g.met.A.CompactArenaTrait.advanced _ _ _ _ c.in-Some.ensures.steps)).fewer

pub walk-preserved : goal.walk-preserved
walk-preserved g c =
    let steps = g.met.A.CompactArenaTrait.advanced _ _ _ _ c.in-Some.ensures.steps in
    let live = steps.answers.0 in
    let renewed = renewed_is g.P.Ptr.numbers c.invalidate.result c.unwrap.result c.allow.result _ _ _ c.invalidate.ensures.answer live c.unwrap.ensures c.allow.ensures in
    let index = ap (λ (q : Pointer). q.0) renewed in
    let answered = one_answered _ _ _ _ _ _ _ _ c.walk.invariant.answered steps (stays _ _ _ _ (g.met.A.ArenaLaws.slots_invalidated _ _ _ (c.invalidate.ensures.done live))) in
    rw c.in_ok-push.ensures.items (record {
      answered = rw (map_push (λ p. (g.P.Ptr.numbers p).0) c.walk.all.items c.allow.result, index) answered;
      valid = still_valid g.P.Ptr.numbers _ _ 1 c.walk.all.items c.allow.result (rw index (answers_rise _ _ _ _ _ answered)) c.walk.invariant.valid (rw index c.invalidate.ensures.others)
          (rw (renewed, c.invalidate.ensures.found live) live);
    })

pub returns-clause-rising : goal.returns-clause-rising
returns-clause-rising g c = answers_rise _ _ _ _ _ c.walk.invariant.answered

pub returns-clause-all : goal.returns-clause-all
returns-clause-all g c i live =
    let so_far = c.walk.invariant.answered in
    subst (λ is. Contains is i) so_far.answers
    (c.forward_walk.ensures.sees _ _ so_far.from so_far.turns _ _ _ i so_far.first so_far.walk
    (g.met.A.CompactArenaTrait.advanced _ _ _ _ c.in_default.ensures.steps) live (so_far.lived i live) (so_far.live i live))
