use Rattle.std.proofs.Common.{◌∷◌, [], not, cond, refl, sym, ap, subst, ◌∙◌, arith}
use Rattle.triple_arena_ptr.specs.Numbers.{raise}
use Rattle.triple_arena_traits.specs.ArenaState.{ArenaState}
use Rattle.triple_arena_traits.specs.Ending.{cleared}
use Rattle.triple_arena_traits.specs.Compression.{raised_if_any}
use Rattle.triple_arena_traits.specs.Walks.{keys}
use Rattle.triple_arena_traits.specs.Histories.{clearing, Fits, Continues}
use Rattle.triple_arena_direct.specs.Gone.{IsGoneForGood}
use Rattle.triple_arena_direct.specs.StrictAnswers.{is_exhausted_for_any}
use Rattle.triple_arena_direct.specs.StrictCalls.{IsStrictStep, to_clear}
use Rattle.triple_arena_direct.specs.StrictRetain.{emptied}
use Rattle.triple_arena_direct.specs.laws.GoneLaws.{up_to-continues, gone-continues}
use Rattle.triple_arena_direct.specs.laws.StrictAnswerLaws.{Continues-strict}
use Rattle.triple_arena_direct.specs.laws.StrictRetainLaws.{Continues-raised}
use Rattle.triple_arena_direct.proofs.StrictAnswers.{step_done, all_gone}
use Rattle.triple_arena_direct.proofs.StrictRetaining.{raised_any}
use Rattle.triple_arena_direct.proofs.strict_arena.StrictArena.raise_if_any.Goals as goal

pub returns : goal.returns
returns g c =
    let s : ArenaState g.row.T.Denot = c.self.inside.arena in
    let gens = g.P.Gen.PtrGen.generations in
    let kind = g.S.NonZeroInxGenericStack.kind in
    let is = raised_any (raise gens) s c.raise_if.new.arena (c.raise_if.ensures ∙ ap (λ b. cond (not b) (record s { counter = raise gens s.counter }) s) c.is_empty-any.ensures) in
    let allowed = rw (← c.self.view_is) at c.requires in
    let left : ArenaState g.row.T.Denot = emptied (record s { counter = raised_if_any (raise gens) s }) in
    let step : IsStrictStep kind gens s to_clear (clearing (keys s.slots) ∷ []) left =
    step_done s left (cleared (raise gens) s) (clearing (keys s.slots)) (is_exhausted_for_any gens s) (clearing (keys s.slots) ∷ []) allowed refl (refl, omega arith) in
    rw (← c.self.view_is) (record {
      state = is;
      gone_for_good = λ counts q live.
          subst (λ (t : ArenaState g.row.T.Denot). IsGoneForGood (emptied t) q) (sym is)
          (all_gone s left (clearing (keys s.slots)) (c.self.invariant counts) (Continues-strict kind gens counts s to_clear (clearing (keys s.slots) ∷ []) left step) refl q live);
      stays_gone = λ counts q gone.
          subst (λ (t : ArenaState g.row.T.Denot). IsGoneForGood (emptied t) q) (sym is)
          (gone-continues s left (c.self.invariant counts) (clearing (keys s.slots) ∷ []) (Continues-strict kind gens counts s to_clear (clearing (keys s.slots) ∷ []) left step) q gone);
    })

pub invariant_of-self : goal.invariant_of-self
invariant_of-self g c counts =
    let s : ArenaState g.row.T.Denot = c.self.inside.arena in
    let gens = g.P.Gen.PtrGen.generations in
    let is = raised_any (raise gens) s c.raise_if.new.arena (c.raise_if.ensures ∙ ap (λ b. cond (not b) (record s { counter = raise gens s.counter }) s) c.is_empty-any.ensures) in
    let allowed = rw (← c.self.view_is) at c.requires in
    up_to-continues s c.raise_if.new.arena (c.self.invariant counts) []
    (subst (λ (t : ArenaState g.row.T.Denot). Continues Fits s [] t) (sym is) (Continues-raised gens s counts allowed))
