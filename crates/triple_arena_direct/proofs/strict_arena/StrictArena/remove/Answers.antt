use Rattle.std.proofs.Common.{rules, ◌≡◌, ◌&&◌, ◌||◌, not, true, is_some, sym, ap, ◌∙◌}
use Rattle.std.specs.Option.{ok_or}
use Rattle.triple_arena_traits.specs.Entries.{look_up}
use Rattle.triple_arena_traits.specs.ArenaState.{ArenaState}
use Rattle.triple_arena_direct.specs.declared.errors.StrictError.TheVariants.{InvalidPtr}
use Rattle.triple_arena_direct.specs.StrictAnswers.{is_exhausted}
use Rattle.triple_arena_direct.specs.StrictCalls.{to_remove}
use Rattle.triple_arena_direct.proofs.StrictAnswers.{step_refused, cannot_end_if}
use Rattle.triple_arena_direct.proofs.StrictDone.{ending_none, removed_strictly}
use Rattle.triple_arena_direct.proofs.strict_arena.StrictArena.remove.Goals as goal

pub returns-then-is_exhausted_for-clause-call : goal.returns-then-is_exhausted_for-clause-call
returns-then-is_exhausted_for-clause-call g c =
    let s = c.args.self.now in
    let p = g.P.Ptr.numbers c.args.p in
    ending_none g.S.NonZeroInxGenericStack.kind g.P.Gen.PtrGen.generations s (to_remove p)
    (step_refused s _ _ _ (cannot_end_if (is_some (look_up s.slots p)) (is_exhausted g.P.Gen.PtrGen.generations s) (sym c.is_exhausted_for.ensures ∙ c.if-is_exhausted_for.true)))

pub returns-clause-done : goal.returns-clause-done
returns-clause-done g c =
    let p = g.P.Ptr.numbers c.args.p in
    let tested =
    ap (λ (s : ArenaState g.row.T.Denot). is_exhausted g.P.Gen.PtrGen.generations s && is_some (look_up s.slots p)) c.self.view_is
    ∙ sym c.is_exhausted_for.ensures ∙ c.if-is_exhausted_for.false in
    rw (← c.self.view_is) (removed_strictly g.S.NonZeroInxGenericStack.kind g.P.Gen.PtrGen.generations c.self.inside.arena c.remove.new.self p c.self.invariant c.remove.result c.ok_or.result
    (c.ok_or.ensures.value ∙ ap (λ o. ok_or o InvalidPtr) c.allow.ensures) c.remove.ensures.answer tested c.remove.ensures.done c.remove.ensures.unchanged).0

pub returns-clause-call : goal.returns-clause-call
returns-clause-call g c =
    let p = g.P.Ptr.numbers c.args.p in
    let tested =
    ap (λ (s : ArenaState g.row.T.Denot). is_exhausted g.P.Gen.PtrGen.generations s && is_some (look_up s.slots p)) c.self.view_is
    ∙ sym c.is_exhausted_for.ensures ∙ c.if-is_exhausted_for.false in
    rw (← c.self.view_is) (removed_strictly g.S.NonZeroInxGenericStack.kind g.P.Gen.PtrGen.generations c.self.inside.arena c.remove.new.self p c.self.invariant c.remove.result c.ok_or.result
    (c.ok_or.ensures.value ∙ ap (λ o. ok_or o InvalidPtr) c.allow.ensures) c.remove.ensures.answer tested c.remove.ensures.done c.remove.ensures.unchanged).1
