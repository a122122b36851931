use Rattle.std.specs.Option.{option_copied_mut}
use Rattle.std.proofs.Common.{ap, sym, refl, ◌∙◌}
use Rattle.triple_arena_traits.specs.laws.WalkLaws.{taken, forward_stays, keys_first, keys_taken, keys_none, ahead_by_keys}
use Rattle.triple_arena_traits.proofs.EntryWalks.{walk_start, walk_end, walk_finds, walk_ok, walk_err, keys_kept, lent_some}
use Rattle.triple_arena_traits.proofs.Refused.{err_is}
use Rattle.triple_arena_traits.proofs.recasting.recast_entries.Goals as goal

pub walk-init : goal.walk-init
walk-init g c = (
  c.advancer-advancer.ensures.forward,
  walk_start _ _ _ _ _ _ _ _ c.args.arena.now _ (keys_first _ _ c.advancer-advancer.ensures),
  refl,
  refl,
  λ h fits. fits,
  refl,
)

pub unwrap-value-requires : goal.unwrap-value-requires
unwrap-value-requires g c =
    let steps = rw c.in-Some.is at (g.met.A.CompactArenaTrait.advanced _ _ _ _ c.advance.ensures.steps) in
    let w = rw (keys_taken _ _ _ _ _ c.walk.invariant.0 steps) at c.walk.invariant.1 in
    let f = walk_finds _ _ _ _ _ _ _ _ c.args.arena.now c.walk.arena (g.P.Ptr.numbers c.in-Some.p) _ w in
    lent_some c.get_mut.result f.0 (c.get_mut.ensures.value ∙ f.1)

pub walk-preserved : goal.walk-preserved
walk-preserved g c =
    let steps = rw c.in-Some.is at (g.met.A.CompactArenaTrait.advanced _ _ _ _ c.advance.ensures.steps) in
    let w = rw (keys_taken _ _ _ _ _ c.walk.invariant.0 steps) at c.walk.invariant.1 in
    let k = g.P.Ptr.numbers c.in-Some.p in
    let keys = keys_kept _ _ _ _ _ _ _ _ c.args.arena.now c.walk.arena k _ c.recast.new.self w in
    let same = ahead_by_keys (g.A.ArenaTrait.stand c.advance.new.self) (g.A.ArenaStates.slots (g.A.ArenaStates.with_value c.walk.arena k.0 c.recast.new.self)) (g.A.ArenaStates.slots c.walk.arena) keys in (
      forward_stays _ _ _ _ _ steps ∙ c.walk.invariant.0,
      rw same (walk_ok _ _ _ _ _ _ _ _ c.args.arena.now c.walk.arena k _ c.unwrap-value.result.now c.recast.new.self w
          (sym (ap option_copied_mut c.unwrap-value.ensures) ∙ c.get_mut.ensures.value) c.recast.ensures.after (sym c.recast.ensures.answer ∙ c.in_ok-recast.was)),
      g.met.A.ArenaLaws.limit_with_value _ _ _ ∙ c.walk.invariant.2,
      g.met.A.ArenaLaws.capacity_with_value _ _ _ ∙ c.walk.invariant.3,
      λ h fits. c.get_mut.ensures.written _ h (c.walk.invariant.4 h fits),
      keys ∙ c.walk.invariant.5,
    )

pub returns-in_err-recast-clause-after : goal.returns-in_err-recast-clause-after
returns-in_err-recast-clause-after g c =
    let steps = rw c.in-Some.is at (g.met.A.CompactArenaTrait.advanced _ _ _ _ c.advance.ensures.steps) in
    let w = rw (keys_taken _ _ _ _ _ c.walk.invariant.0 steps) at c.walk.invariant.1 in
    let k = g.P.Ptr.numbers c.in-Some.p in
    (walk_err _ _ _ _ _ _ _ _ c.args.arena.now c.walk.arena k _ c.unwrap-value.result.now c.recast.new.self c.in_err-recast.field-0.0 w
    (sym (ap option_copied_mut c.unwrap-value.ensures) ∙ c.get_mut.ensures.value) c.recast.ensures.after (sym c.recast.ensures.answer ∙ c.in_err-recast.was)).0

pub returns-in_err-recast-clause-answer : goal.returns-in_err-recast-clause-answer
returns-in_err-recast-clause-answer g c =
    let steps = rw c.in-Some.is at (g.met.A.CompactArenaTrait.advanced _ _ _ _ c.advance.ensures.steps) in
    let w = rw (keys_taken _ _ _ _ _ c.walk.invariant.0 steps) at c.walk.invariant.1 in
    let k = g.P.Ptr.numbers c.in-Some.p in
    err_is c.from_residual.result c.in_err-recast.field-0.0 c.from_residual.ensures.1
    ∙ (walk_err _ _ _ _ _ _ _ _ c.args.arena.now c.walk.arena k _ c.unwrap-value.result.now c.recast.new.self c.in_err-recast.field-0.0 w
    (sym (ap option_copied_mut c.unwrap-value.ensures) ∙ c.get_mut.ensures.value) c.recast.ensures.after (sym c.recast.ensures.answer ∙ c.in_err-recast.was)).1

pub returns-in_err-recast-clause-keys : goal.returns-in_err-recast-clause-keys
returns-in_err-recast-clause-keys g c =
    let steps = rw c.in-Some.is at (g.met.A.CompactArenaTrait.advanced _ _ _ _ c.advance.ensures.steps) in
    let w = rw (keys_taken _ _ _ _ _ c.walk.invariant.0 steps) at c.walk.invariant.1 in
    keys_kept _ _ _ _ _ _ _ _ c.args.arena.now c.walk.arena (g.P.Ptr.numbers c.in-Some.p) _ c.recast.new.self w ∙ c.walk.invariant.5

pub returns-in_err-recast-clause-limit : goal.returns-in_err-recast-clause-limit
returns-in_err-recast-clause-limit g c = g.met.A.ArenaLaws.limit_with_value _ _ _ ∙ c.walk.invariant.2

pub returns-in_err-recast-clause-capacity : goal.returns-in_err-recast-clause-capacity
returns-in_err-recast-clause-capacity g c = g.met.A.ArenaLaws.capacity_with_value _ _ _ ∙ c.walk.invariant.3

pub returns-in_err-recast-clause-history : goal.returns-in_err-recast-clause-history
returns-in_err-recast-clause-history g c = λ h fits. c.get_mut.ensures.written _ h (c.walk.invariant.4 h fits)

pub returns-clause-after : goal.returns-clause-after
returns-clause-after g c = (walk_end _ _ _ _ _ _ _ _ c.args.arena.now c.walk.arena (rw (keys_none _ _ _ _ (rw c.in_default.is at (g.met.A.CompactArenaTrait.advanced _ _ _ _ c.advance.ensures.steps))) at c.walk.invariant.1)).0

pub returns-clause-answer : goal.returns-clause-answer
returns-clause-answer g c = (walk_end _ _ _ _ _ _ _ _ c.args.arena.now c.walk.arena (rw (keys_none _ _ _ _ (rw c.in_default.is at (g.met.A.CompactArenaTrait.advanced _ _ _ _ c.advance.ensures.steps))) at c.walk.invariant.1)).1

pub walk-smaller : goal.walk-smaller
walk-smaller g c = (taken _ _ _ _ _ (rw c.in-Some.is at (g.met.A.CompactArenaTrait.advanced _ _ _ _ c.advance.ensures.steps))).fewer
