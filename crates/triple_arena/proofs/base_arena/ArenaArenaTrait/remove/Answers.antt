use Rattle.triple_arena_traits.proofs.Refused.{gone_found, rest_found}
use Rattle.triple_arena_slots.proofs.Refused.{told_found}
use Rattle.triple_arena_traits.proofs.SlotEntries.{none_of}
use Rattle.triple_arena_traits.specs.laws.WellFormedLaws.{value_of_entry, live_entry}
use Rattle.triple_arena.proofs.Touched.{removed_after, steps_of-removed}
use Rattle.triple_arena.specs.laws.TouchedLaws.{removed_slots}
use Rattle.std.specs.Int.NonZero.{non_zero_usize_get}
use Rattle.triple_arena_traits.specs.Histories.{removal}
use Rattle.triple_arena_traits.specs.Ending.{removed, told_of}
use Rattle.triple_arena_traits.specs.Entries.{look_up}
use Rattle.triple_arena_traits.specs.ArenaState.{ArenaState, entry}
use Rattle.triple_arena_ptr.specs.Numbers.{raise, wraps}
use Rattle.std.proofs.Common.{◌∙◌, ◌∷◌, [], refl, arith, IsSome, is_some, sym, ap, subst, true≢false}
use Rattle.triple_arena_traits.specs.laws.HistoryLaws.{Continues-removed, Continues-touched}
use Rattle.triple_arena.proofs.base_arena.ArenaArenaTrait.remove.Goals as goal

pub returns-clause-done : goal.returns-clause-done
returns-clause-done g c live = removed_after (raise g.P.Gen.PtrGen.generations) c.args.self.now c.look_for.new.self c.take-generation.new.self _ _ c.in-Some.ensures.unchanged c.take-generation.ensures.state c.in-Some.ensures.index

pub returns-clause-history : goal.returns-clause-history
returns-clause-history g c live counts =
    let p = g.P.Ptr.numbers c.args.p in
    let left = removed (raise g.P.Gen.PtrGen.generations) c.args.self.now p.0 in
    Continues-touched c.args.self.now left _ (removal p ∷ []) (returns-clause-done g c live)
    (Continues-removed g.P.Gen.PtrGen.generations c.args.self.now left p counts live refl)

pub returns-in_default-clause-answer : goal.returns-in_default-clause-answer
returns-in_default-clause-answer g c = ap (told_of (wraps g.P.Gen.PtrGen.generations c.args.self.now.counter)) (sym (none_of _ (sym c.in_default.ensures.live)))

pub returns-in_default-clause-done : goal.returns-in_default-clause-done
returns-in_default-clause-done g c live = absurd (true≢false (sym (c.in_default.ensures.live ∙ live)))

pub returns-in_default-clause-gone : goal.returns-in_default-clause-gone
returns-in_default-clause-gone g c =
    ap (λ (s : ArenaState g.row.T.Denot). look_up s.slots (g.P.Ptr.numbers c.args.p)) c.in_default.ensures.unchanged.0 ∙ none_of _ (sym c.in_default.ensures.live)

pub returns-in_default-clause-others : goal.returns-in_default-clause-others
returns-in_default-clause-others g c q away = ap (λ (s : ArenaState g.row.T.Denot). look_up s.slots q) c.in_default.ensures.unchanged.0

pub returns-in_default-clause-history : goal.returns-in_default-clause-history
returns-in_default-clause-history g c live counts = absurd (true≢false (sym (c.in_default.ensures.live ∙ live)))

pub take-generation-requires-after_bounds : goal.take-generation-requires-after_bounds
take-generation-requires-after_bounds g c κs within =
    subst (λ (s : ArenaState g.row.T.Denot). IsSome (entry s (non_zero_usize_get c.in-Some.inx))) (sym c.in-Some.ensures.unchanged.0)
    (subst (λ n. IsSome (entry c.args.self.now n)) (sym c.in-Some.ensures.index) (live_entry c.args.self.now.slots (g.P.Ptr.numbers c.args.p) (sym c.in-Some.ensures.live)))

pub returns-clause-answer : goal.returns-clause-answer
returns-clause-answer g c =
    let p = g.P.Ptr.numbers c.args.p in
    told_found _ _ (wraps g.P.Gen.PtrGen.generations c.args.self.now.counter) (look_up c.args.self.now.slots p) _ c.answer_on_valid.ensures (c.take-generation.ensures.wrapped ∙ ap (λ (s : ArenaState g.row.T.Denot). wraps g.P.Gen.PtrGen.generations s.counter) c.in-Some.ensures.unchanged.0)
    (value_of_entry c.args.self.now p.0 _ p.1 _ (ap (entry c.args.self.now) (sym c.in-Some.ensures.index) ∙ sym (ap (λ (s : ArenaState g.row.T.Denot). entry s (non_zero_usize_get c.in-Some.inx)) c.in-Some.ensures.unchanged.0) ∙ c.take-generation.ensures.entry) (sym c.in-Some.ensures.live))

pub returns-clause-gone : goal.returns-clause-gone
returns-clause-gone g c =
    let p = g.P.Ptr.numbers c.args.p in
    gone_found c.args.self.now.slots _ p (sym c.in-Some.ensures.live) (removed_slots (raise g.P.Gen.PtrGen.generations) c.args.self.now p.0 c.take-generation.new.self (returns-clause-done g c (sym c.in-Some.ensures.live)))

pub returns-clause-others : goal.returns-clause-others
returns-clause-others g c =
    let p = g.P.Ptr.numbers c.args.p in
    rest_found c.args.self.now.slots _ p (sym c.in-Some.ensures.live) (removed_slots (raise g.P.Gen.PtrGen.generations) c.args.self.now p.0 c.take-generation.new.self (returns-clause-done g c (sym c.in-Some.ensures.live)))

pub returns-clause-unchanged : goal.returns-clause-unchanged
returns-clause-unchanged g c none = absurd (true≢false (c.in-Some.ensures.live ∙ ap is_some none))

pub returns-clause-bounded : goal.returns-clause-bounded
returns-clause-bounded g c =
    omega (arith, c.take-generation.ensures.steps, c.take-generation.ensures.state.1, c.in-Some.ensures.steps, c.in-Some.ensures.unchanged.1, steps_of-removed (raise g.P.Gen.PtrGen.generations) c.look_for.new.self (non_zero_usize_get c.in-Some.inx))

pub returns-in_default-clause-bounded : goal.returns-in_default-clause-bounded
returns-in_default-clause-bounded g c = omega (arith, c.in_default.ensures.steps)

pub returns-in_default-clause-unchanged : goal.returns-in_default-clause-unchanged
returns-in_default-clause-unchanged g c none = c.in_default.ensures.unchanged
