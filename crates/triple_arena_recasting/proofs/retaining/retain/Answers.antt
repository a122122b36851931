use Rattle.std.proofs.Common.{◌∙◌, ◌∷◌, ◌++◌, [], not, is_some, sym, ap, refl, subst, true≢false, of_calls}
use Rattle.std.specs.Option.{option_copied_mut}
use Rattle.triple_arena_base.specs.Invalidation.{is_success_option}
use Rattle.triple_arena_traits.specs.laws.WalkLaws.{taken, forward_stays, ahead_taken, ahead_changed, ahead_first, ahead_none}
use Rattle.triple_arena_recasting.specs.laws.RetainLaws.{changed_somehow}
use Rattle.triple_arena_recasting.proofs.Retained.{neither, gone_more, still_there, begins, goes_on, ends, asked, told_is}
use Rattle.triple_arena_recasting.proofs.retaining.retain.Goals as goal

pub walk-init : goal.walk-init
walk-init g c =
    record {
      callable = search of_calls;
      forward = c.advancer-advancer.ensures.forward;
      goes_on = begins g.P.Ptr.numbers (goal.F-step g) _ _ _ _ _ _ _ (ahead_first _ _ c.advancer-advancer.ensures);
      limit = refl;
      capacity = refl;
      history = λ up. ([], λ h fits. fits);
    }

pub walk-smaller-in-Some-get_mut : goal.walk-smaller-in-Some-get_mut
walk-smaller-in-Some-get_mut g c = (taken _ _ _ _ _ (g.met.A.CompactArenaTrait.advanced _ _ _ _ c.in-Some.ensures.steps)).fewer

pub walk-smaller : goal.walk-smaller
walk-smaller g c = (taken _ _ _ _ _ (g.met.A.CompactArenaTrait.advanced _ _ _ _ c.in-Some.ensures.steps)).fewer

pub walk-preserved : goal.walk-preserved
walk-preserved g c =
    let live = (g.met.A.CompactArenaTrait.advanced _ _ _ _ c.in-Some.ensures.steps).answers.0 in
    absurd (true≢false (sym live ∙ ap is_some (sym c.get_mut.ensures.value ∙ ap option_copied_mut c.in_default-get_mut.is)))

pub end_unless-wrapped-requires-clause-live : goal.end_unless-wrapped-requires-clause-live
end_unless-wrapped-requires-clause-live g c κs within =
    let live = (g.met.A.CompactArenaTrait.advanced _ _ _ _ c.in-Some.ensures.steps).answers.0 in
    rw (g.met.A.ArenaLaws.slots_with_value _ _ _) (still_there _ (g.P.Ptr.numbers c.in-Some.p) _ live)

pub walk-preserved-in-Some-get_mut : goal.walk-preserved-in-Some-get_mut
walk-preserved-in-Some-get_mut g c =
    let steps = g.met.A.CompactArenaTrait.advanced _ _ _ _ c.in-Some.ensures.steps in
    let changed = changed_somehow g.P.Ptr.numbers (goal.F-step g) g.A.ArenaStates.with_value g.A.ArenaStates.removes g.A.ArenaStates.ending_wraps g.A.ArenaStates.slots g.met.A.ArenaLaws.slots_with_value g.met.A.ArenaLaws.slots_removed
    c.keep-kept.result c.walk.this c.end_unless-wrapped.new.this _ _ c.end_unless-wrapped.ensures.done in
    let rest = ahead_changed _ _ _ _ _ _ changed.0 steps changed.1 in
    let is = ahead_taken _ _ _ _ _ c.walk.invariant.forward steps _ (sym c.in-Some-get_mut.ensures.value) ∙ ap (λ es. (g.P.Ptr.numbers c.in-Some.p, c.in-Some-get_mut.value.now) ∷ es) (sym rest) in
    record {
      callable = search of_calls;
      forward = forward_stays _ _ _ _ _ steps ∙ c.walk.invariant.forward;
      goes_on = goes_on g.P.Ptr.numbers (goal.F-step g) g.A.ArenaStates.with_value g.A.ArenaStates.removes g.A.ArenaStates.ending_wraps _ _ _ _ _ _ _ _ _ c.end_unless-wrapped.result _ _ is
          (asked g.P.Ptr.numbers (goal.F-step g) g.A.ArenaStates.with_value g.A.ArenaStates.removes g.A.ArenaStates.ending_wraps c.walk.keep _ c.in-Some.p c.in-Some-get_mut.value _ c.keep-kept.result c.end_unless-wrapped.result c.keep-kept.new.self _ c.keep-kept.ensures c.end_unless-wrapped.ensures.done c.end_unless-wrapped.ensures.wrapped)
          c.walk.invariant.goes_on;
      limit = c.end_unless-wrapped.ensures.limit ∙ g.met.A.ArenaLaws.limit_with_value _ _ _ ∙ c.walk.invariant.limit;
      capacity = c.end_unless-wrapped.ensures.capacity ∙ g.met.A.ArenaLaws.capacity_with_value _ _ _ ∙ c.walk.invariant.capacity;
      history = λ up.
          let parts = neither _ _ up.1 in
          let before = c.walk.invariant.history (up.0, parts.0) in
          let after = c.end_unless-wrapped.ensures.history (up.0, parts.1) in
          (before.0 ++ after.0, λ h fits. subst (λ k. g.A.ArenaStates.fits k c.end_unless-wrapped.new.this) (sym (gone_more h before.0 after.0)) (after.1 _ (c.get_mut.ensures.written _ _ (before.1 h fits))));
    }

pub returns-clause-retained : goal.returns-clause-retained
returns-clause-retained g c =
    let wrapped = ap (λ r. not (is_success_option r)) c.told.ensures ∙ told_is c.walk.wrapped in
    (c.walk.keep, rw wrapped (ends g.P.Ptr.numbers (goal.F-step g) g.A.ArenaStates.with_value g.A.ArenaStates.removes g.A.ArenaStates.ending_wraps _ _ _ _ _ _ _ (ahead_none _ _ _ _ (g.met.A.CompactArenaTrait.advanced _ _ _ _ c.in_default.ensures.steps)) c.walk.invariant.goes_on))

pub returns-clause-history : goal.returns-clause-history
returns-clause-history g c =
    let wrapped = ap (λ r. not (is_success_option r)) c.told.ensures ∙ told_is c.walk.wrapped in
    rw wrapped c.walk.invariant.history
