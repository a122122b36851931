use Rattle.std.proofs.Common.{◌∷◌, [], refl, sym, ◌∙◌, arith}
use Rattle.triple_arena_ptr.specs.Numbers.{raise}
use Rattle.triple_arena_traits.specs.ArenaState.{ArenaState}
use Rattle.triple_arena_traits.specs.Ending.{cleared}
use Rattle.triple_arena_traits.specs.Compression.{raised_if_any}
use Rattle.triple_arena_traits.specs.Walks.{keys}
use Rattle.triple_arena_traits.specs.Histories.{clearing}
use Rattle.triple_arena_direct.specs.StrictAnswers.{is_exhausted_for_any}
use Rattle.triple_arena_direct.specs.StrictCalls.{IsStrictStep, to_clear}
use Rattle.triple_arena_direct.specs.StrictRetain.{emptied}
use Rattle.triple_arena_direct.specs.laws.StrictAnswerLaws.{Continues-strict}
use Rattle.triple_arena_direct.proofs.StrictAnswers.{step_done}
use Rattle.triple_arena_direct.proofs.Draining.{before_first}
use Rattle.triple_arena_direct.proofs.strict_arena.StrictArena.drain.Goals as goal

pub returns : goal.returns
returns g c =
    let s : ArenaState g.row.T.Denot = c.args.self.now in
    let gens = g.P.Gen.PtrGen.generations in
    let kind = g.S.NonZeroInxGenericStack.kind in
    let allowed = sym c.is_exhausted_for_any.ensures.value ∙ c.if-is_exhausted_for_any.false in
    let left : ArenaState g.row.T.Denot = emptied (record s { counter = raised_if_any (raise gens) s }) in
    let step : IsStrictStep kind gens s to_clear (clearing (keys s.slots) ∷ []) left =
    step_done s left (cleared (raise gens) s) (clearing (keys s.slots)) (is_exhausted_for_any gens s) (clearing (keys s.slots) ∷ []) allowed refl (refl, omega arith) in (
      (refl, λ w. refl, tt),
      record {
        variant = (λ _. allowed, λ _. refl);
        done = record {
          arena = c.raise_if_any.ensures.state;
          draining = rw (← c.self.view_is) (before_first c.self.inside.arena c.advancer.result c.advancer.ensures);
          leaves = rw c.raise_if_any.ensures.state (refl, omega arith);
          call = record {
            step = rw c.raise_if_any.ensures.state step;
            history = λ counts. rw c.raise_if_any.ensures.state (Continues-strict kind gens counts s to_clear (clearing (keys s.slots) ∷ []) left step);
            stays_gone = c.raise_if_any.ensures.stays_gone;
          };
          gone_for_good = c.raise_if_any.ensures.gone_for_good;
        };
        exhausted = tt;
        same_reference = refl;
        refused = tt;
      },
    )
