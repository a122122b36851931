use Rattle.std.proofs.Common.{◌∙◌, ◌∷◌, is_some, sym, ap, refl, true≢false, of_calls}
use Rattle.std.specs.Option.{option_copied_mut}
use Rattle.triple_arena_traits.specs.Walks.{keys_of}
use Rattle.triple_arena_traits.specs.laws.WalkLaws.{taken, forward_stays, ahead_written, keys_first, keys_taken, keys_none}
use Rattle.triple_arena_traits.proofs.Visiting.{begins, goes_on, ends, called_at, wrote_none, wrote_one, wrote_all}
use Rattle.triple_arena_traits.proofs.compact_arena_trait.CompactArenaTrait.for_each_mut.Goals as goal

pub walk-init : goal.walk-init
walk-init g c =
    record {
      callable = search of_calls;
      forward = c.advancer-advancer.ensures.forward;
      goes_on = begins g.P.Ptr.numbers (goal.F-step g) _ _ _ c.advancer-advancer.ensures;
      wrote = wrote_none _ _ _ _ (keys_first _ _ c.advancer-advancer.ensures);
      limit = refl;
      capacity = refl;
      history = λ h fits. fits;
    }

pub walk-smaller-in-Some-get_mut : goal.walk-smaller-in-Some-get_mut
walk-smaller-in-Some-get_mut g c = (taken _ _ _ _ _ (g.met.Self.CompactArenaTrait.advanced _ _ _ _ c.in-Some.ensures.steps)).fewer

pub walk-smaller : goal.walk-smaller
walk-smaller g c = (taken _ _ _ _ _ (g.met.Self.CompactArenaTrait.advanced _ _ _ _ c.in-Some.ensures.steps)).fewer

pub walk-preserved-in-Some-get_mut : goal.walk-preserved-in-Some-get_mut
walk-preserved-in-Some-get_mut g c =
    let steps = g.met.Self.CompactArenaTrait.advanced _ _ _ _ c.in-Some.ensures.steps in
    record {
      callable = search of_calls;
      forward = forward_stays _ _ _ _ _ steps ∙ c.walk.invariant.forward;
      goes_on = rw (g.met.Self.ArenaLaws.slots_with_value _ _ _) (goes_on g.P.Ptr.numbers (goal.F-step g) _ _ _ _ _ _ _ _ _ _ _ c.walk.invariant.forward steps (sym c.in-Some-get_mut.ensures.value)
          (called_at g.P.Ptr.numbers (goal.F-step g) c.walk.f c.in-Some.p c.in-Some-get_mut.value c.f.result _ c.f.new.self c.f.ensures)
          c.walk.invariant.goes_on);
      wrote = rw (g.met.Self.ArenaLaws.slots_with_value _ _ _) (wrote_one _ _ _ _ _ _ (g.P.Ptr.numbers c.in-Some.p) _ (keys_taken _ _ _ _ _ c.walk.invariant.forward steps ∙ ap (λ ks. g.P.Ptr.numbers c.in-Some.p ∷ ks) (sym (ap keys_of (ahead_written _ _ _ _ _ _ steps)))) c.walk.invariant.wrote);
      limit = g.met.Self.ArenaLaws.limit_with_value _ _ _ ∙ c.walk.invariant.limit;
      capacity = g.met.Self.ArenaLaws.capacity_with_value _ _ _ ∙ c.walk.invariant.capacity;
      history = λ h fits. c.get_mut.ensures.written _ h (c.walk.invariant.history h fits);
    }

pub returns-clause-visited : goal.returns-clause-visited
returns-clause-visited g c =
    (c.walk.f, ends g.P.Ptr.numbers (goal.F-step g) _ _ _ _ _ _ _ (g.met.Self.CompactArenaTrait.advanced _ _ _ _ c.in_default.ensures.steps) c.walk.invariant.goes_on)

pub returns-clause-written : goal.returns-clause-written
returns-clause-written g c = wrote_all _ _ _ _ _ (keys_none _ _ _ _ (g.met.Self.CompactArenaTrait.advanced _ _ _ _ c.in_default.ensures.steps)) c.walk.invariant.wrote

pub returns-clause-limit : goal.returns-clause-limit
returns-clause-limit g c = c.walk.invariant.limit

pub returns-clause-capacity : goal.returns-clause-capacity
returns-clause-capacity g c = c.walk.invariant.capacity

pub returns-clause-history : goal.returns-clause-history
returns-clause-history g c = c.walk.invariant.history

pub walk-preserved : goal.walk-preserved
walk-preserved g c =
    let live = (g.met.Self.CompactArenaTrait.advanced _ _ _ _ c.in-Some.ensures.steps).answers.0 in
    absurd (true≢false (sym live ∙ ap is_some (sym c.get_mut.ensures.value ∙ ap option_copied_mut c.in_default-get_mut.is)))
