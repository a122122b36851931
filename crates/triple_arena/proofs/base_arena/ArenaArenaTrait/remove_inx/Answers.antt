use Rattle.triple_arena_slots.proofs.Refused.{told_mapped}
use Rattle.triple_arena_traits.proofs.LookUps.{others_found}
use Rattle.triple_arena_traits.proofs.SlotEntries.{none_of}
use Rattle.triple_arena.proofs.Touched.{removed_after, steps_of-removed}
use Rattle.triple_arena.specs.laws.TouchedLaws.{removed_slots}
use Rattle.std.specs.Int.NonZero.{non_zero_usize_get}
use Rattle.triple_arena_traits.specs.Histories.{removal}
use Rattle.triple_arena_traits.specs.Ending.{removed, told_of}
use Rattle.triple_arena_traits.specs.Entries.{look_up}
use Rattle.triple_arena_traits.specs.ArenaState.{ArenaState, entry}
use Rattle.triple_arena_ptr.specs.Numbers.{raise, wraps}
use Rattle.std.proofs.Common.{◌∙◌, ◌∷◌, [], refl, arith, IsSome, None, is_some, sym, ap, subst, true≢false}
use Rattle.triple_arena_traits.specs.laws.HistoryLaws.{Continues-removed_inx, Continues-touched}
use Rattle.triple_arena.proofs.base_arena.ArenaArenaTrait.remove_inx.Goals as goal

pub returns-clause-done : goal.returns-clause-done
returns-clause-done g c live = removed_after (raise g.P.Gen.PtrGen.generations) c.args.self.now c.look_at.new.self c.take-taken.new.self _ _ c.in-Some.ensures.unchanged c.take-taken.ensures.state c.in-Some.ensures.index

pub returns-clause-history : goal.returns-clause-history
returns-clause-history g c generation value here counts =
    let i = g.P.Inx.PtrInx.number c.args.inx in
    let left = removed (raise g.P.Gen.PtrGen.generations) c.args.self.now i in
    Continues-touched c.args.self.now left _ (removal (i, generation) ∷ []) (returns-clause-done g c (ap is_some here))
    (Continues-removed_inx g.P.Gen.PtrGen.generations c.args.self.now left i generation value here counts (λ some. refl))

pub returns-in_default-clause-answer : goal.returns-in_default-clause-answer
returns-in_default-clause-answer g c = ap (told_of (wraps g.P.Gen.PtrGen.generations c.args.self.now.counter)) (sym (none_of _ (sym c.in_default.ensures.live)))

pub returns-in_default-clause-done : goal.returns-in_default-clause-done
returns-in_default-clause-done g c live = absurd (true≢false (sym (c.in_default.ensures.live ∙ live)))

pub returns-in_default-clause-gone : goal.returns-in_default-clause-gone
returns-in_default-clause-gone g c =
    ap (λ (s : ArenaState g.row.T.Denot). entry s (g.P.Inx.PtrInx.number c.args.inx)) c.in_default.ensures.unchanged.0 ∙ none_of _ (sym c.in_default.ensures.live)

pub returns-in_default-clause-others : goal.returns-in_default-clause-others
returns-in_default-clause-others g c q away = ap (λ (s : ArenaState g.row.T.Denot). look_up s.slots q) c.in_default.ensures.unchanged.0

pub returns-in_default-clause-history : goal.returns-in_default-clause-history
returns-in_default-clause-history g c generation value here counts = absurd (true≢false (sym (c.in_default.ensures.live ∙ ap is_some here)))

pub take-taken-requires-after_bounds : goal.take-taken-requires-after_bounds
take-taken-requires-after_bounds g c κs within =
    subst (λ (s : ArenaState g.row.T.Denot). IsSome (entry s (non_zero_usize_get c.in-Some.inx))) (sym c.in-Some.ensures.unchanged.0)
    (subst (λ n. IsSome (entry c.args.self.now n)) (sym c.in-Some.ensures.index) (sym c.in-Some.ensures.live))

pub returns-clause-answer : goal.returns-clause-answer
returns-clause-answer g c =
    told_mapped (λ (e : g.row.P-Gen.Denot × g.row.T.Denot). (g.P.Gen.PtrGen.number e.0, e.1)) c.answer_on_valid.result _ (wraps g.P.Gen.PtrGen.generations c.args.self.now.counter) (entry c.args.self.now (g.P.Inx.PtrInx.number c.args.inx)) c.take-taken.result.0 c.answer_on_valid.ensures (c.take-taken.ensures.wrapped ∙ ap (λ (s : ArenaState g.row.T.Denot). wraps g.P.Gen.PtrGen.generations s.counter) c.in-Some.ensures.unchanged.0)
    (ap (entry c.args.self.now) (sym c.in-Some.ensures.index) ∙ sym (ap (λ (s : ArenaState g.row.T.Denot). entry s (non_zero_usize_get c.in-Some.inx)) c.in-Some.ensures.unchanged.0) ∙ c.take-taken.ensures.entry)

pub returns-clause-gone : goal.returns-clause-gone
returns-clause-gone g c = (removed_slots (raise g.P.Gen.PtrGen.generations) c.args.self.now (g.P.Inx.PtrInx.number c.args.inx) c.take-taken.new.self (returns-clause-done g c (sym c.in-Some.ensures.live))).there

pub returns-clause-others : goal.returns-clause-others
returns-clause-others g c =
    let inx = g.P.Inx.PtrInx.number c.args.inx in
    others_found c.args.self.now.slots _ inx None (removed_slots (raise g.P.Gen.PtrGen.generations) c.args.self.now inx c.take-taken.new.self (returns-clause-done g c (sym c.in-Some.ensures.live)))

pub returns-clause-unchanged : goal.returns-clause-unchanged
returns-clause-unchanged g c none = absurd (true≢false (c.in-Some.ensures.live ∙ ap is_some none))

pub returns-clause-bounded : goal.returns-clause-bounded
returns-clause-bounded g c =
    omega (arith, c.take-taken.ensures.steps, c.take-taken.ensures.state.1, c.in-Some.ensures.steps, c.in-Some.ensures.unchanged.1, steps_of-removed (raise g.P.Gen.PtrGen.generations) c.look_at.new.self (non_zero_usize_get c.in-Some.inx))

pub returns-in_default-clause-bounded : goal.returns-in_default-clause-bounded
returns-in_default-clause-bounded g c = omega (arith, c.in_default.ensures.steps)

pub returns-in_default-clause-unchanged : goal.returns-in_default-clause-unchanged
returns-in_default-clause-unchanged g c none = c.in_default.ensures.unchanged
