use Rattle.std.proofs.Common.{◌∷◌, [], is_some, ap, ◌∙◌}
use Rattle.triple_arena_ptr.specs.Numbers.{raise}
use Rattle.triple_arena_traits.specs.ArenaState.{ArenaState, capacity}
use Rattle.triple_arena_traits.specs.Histories.{clearing}
use Rattle.triple_arena_direct.specs.laws.GoneLaws.{up_to-continues, ended-continues}
use Rattle.triple_arena_direct.specs.laws.StrictRetainLaws.{lost_one, limit-ended, capacity-ended}
use Rattle.triple_arena_direct.specs.laws.StrictAnswerLaws.{Continues-strict}
use Rattle.triple_arena_direct.specs.StrictCalls.{IsStrictEnding, to_retain}
use Rattle.triple_arena_direct.specs.StrictRetain.{pointers_lost}
use Rattle.triple_arena_direct.proofs.StrictRetaining.{retained, retained_step, retained_kept}
use Rattle.triple_arena_direct.proofs.StrictDone.{ending}
use Rattle.triple_arena_direct.proofs.strict_arena.StrictArena.drop_others.Goals as goal

pub invariant_of-self : goal.invariant_of-self
invariant_of-self g c counts =
    let s : ArenaState g.row.T.Denot = c.self.inside.arena in
    let new : ArenaState g.row.T.Denot = c.raise_if.new.arena in
    let gens = g.P.Gen.PtrGen.generations in
    let kind = g.S.NonZeroInxGenericStack.kind in
    let out = c.take_out_others-ended.ensures in
    let is = retained g.P.Ptr.numbers (goal.F-step g) (raise gens) s c.take_out_others-ended.new.arena new c.args.f out.1 out.0 c.take_out_others-ended.result out.2 out.3 out.4 c.raise_if.ensures in
    let allowed = rw (← c.self.view_is) at c.requires.allowed in
    up_to-continues s new (c.self.invariant counts) (clearing (pointers_lost s new) ∷ [])
    (Continues-strict kind gens counts s (to_retain out.0) (clearing (pointers_lost s new) ∷ []) new (retained_step kind gens s new out.0 is allowed))

pub returns : goal.returns
returns g c =
    let s : ArenaState g.row.T.Denot = c.self.inside.arena in
    let new : ArenaState g.row.T.Denot = c.raise_if.new.arena in
    let gens = g.P.Gen.PtrGen.generations in
    let kind = g.S.NonZeroInxGenericStack.kind in
    let out = c.take_out_others-ended.ensures in
    let is = retained g.P.Ptr.numbers (goal.F-step g) (raise gens) s c.take_out_others-ended.new.arena new c.args.f out.1 out.0 c.take_out_others-ended.result out.2 out.3 out.4 c.raise_if.ensures in
    let allowed = rw (← c.self.view_is) at c.requires.allowed in
    let calls = clearing (pointers_lost s new) in
    let call : IsStrictEnding kind gens s (to_retain out.0) (calls ∷ []) new =
    ending kind gens s new (to_retain out.0) (calls ∷ []) c.self.invariant (retained_step kind gens s new out.0 is allowed) in
    rw (← c.self.view_is) (record {
      done = (out.0, out.1, out.2, is);
      rest = record {
        kept = retained_kept kind gens s new out.0 is;
        limit = ap (λ (t : ArenaState g.row.T.Denot). t.limit) is.0 ∙ limit-ended (raise gens) out.0 s;
        same_capacity = ap capacity is.0 ∙ capacity-ended (raise gens) out.0 s;
        gone_for_good = λ counts q was none. ended-continues s new (c.self.invariant counts) calls (call.history counts) q (lost_one s new q was (ap is_some none));
      };
      call = (out.0, call);
    })
