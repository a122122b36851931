use Rattle.std.proofs.Common.{◌∷◌, [], refl, sym, ap, ◌∙◌, arith}
use Rattle.triple_arena_ptr.specs.Numbers.{raise}
use Rattle.triple_arena_traits.specs.Ending.{cleared}
use Rattle.triple_arena_traits.specs.Histories.{clearing}
use Rattle.triple_arena_traits.specs.Walks.{keys}
use Rattle.triple_arena_direct.specs.StrictAnswers.{is_exhausted_for_any}
use Rattle.triple_arena_direct.specs.StrictCalls.{to_clear}
use Rattle.triple_arena_direct.proofs.StrictAnswers.{step_refused, step_done, all_gone}
use Rattle.triple_arena_direct.proofs.StrictDone.{ending, ending_none}
use Rattle.triple_arena_direct.proofs.strict_arena.StrictArena.clear.Goals as goal

pub returns-clause-gone_for_good : goal.returns-clause-gone_for_good
returns-clause-gone_for_good g c =
    let s = c.self.inside.arena in
    let allowed = ap (is_exhausted_for_any g.P.Gen.PtrGen.generations) c.self.view_is ∙ sym c.is_exhausted_for_any.ensures.value ∙ c.if-is_exhausted_for_any.false in
    rw (← c.self.view_is) (λ counts. all_gone s c.clear-answer.new.self (clearing (keys s.slots)) (c.self.invariant counts) (c.clear-answer.ensures.history (counts, allowed)) refl)

pub returns-then-is_exhausted_for_any-clause-call : goal.returns-then-is_exhausted_for_any-clause-call
returns-then-is_exhausted_for_any-clause-call g c =
    ending_none g.S.NonZeroInxGenericStack.kind g.P.Gen.PtrGen.generations c.args.self.now to_clear
    (step_refused c.args.self.now _ _ _ (sym c.is_exhausted_for_any.ensures.value ∙ c.if-is_exhausted_for_any.true))

pub returns-clause-call : goal.returns-clause-call
returns-clause-call g c =
    let s = c.self.inside.arena in
    let gens = g.P.Gen.PtrGen.generations in
    let calls = clearing (keys s.slots) ∷ [] in
    let allowed = ap (is_exhausted_for_any gens) c.self.view_is ∙ sym c.is_exhausted_for_any.ensures.value ∙ c.if-is_exhausted_for_any.false in
    rw (← c.self.view_is) (ending g.S.NonZeroInxGenericStack.kind gens s c.clear-answer.new.self to_clear calls c.self.invariant
    (step_done s c.clear-answer.new.self (cleared (raise gens) s) (clearing (keys s.slots)) (is_exhausted_for_any gens s) calls allowed refl (rw c.clear-answer.ensures.done (refl, omega arith))))
