use Rattle.triple_arena_slots.proofs.Refused.{told_mapped, none_told}
use Rattle.triple_arena_traits.proofs.SlotEntries.{none_of}
use Rattle.triple_arena_ptr.specs.Pointers.{Pointer}
use Rattle.std.specs.Option.{option_map}
use Rattle.std.proofs.Common.{◌∙◌, ◌∷◌, [], arith, IsSome, ap, sym, refl, Some, is_some, subst, true≢false}
use Rattle.std.specs.Int.NonZero.{non_zero_usize_get}
use Rattle.triple_arena_ptr.specs.Numbers.{raise, wraps}
use Rattle.triple_arena_traits.specs.Entries.{with_generation_in, look_up}
use Rattle.triple_arena_traits.specs.ArenaState.{ArenaState, entry}
use Rattle.triple_arena.specs.laws.TouchedLaws.{invalidated_slots}
use Rattle.triple_arena_traits.specs.laws.WellFormedLaws.{invalidated_is, live_entry, entry_of_value}
use Rattle.triple_arena_slots.proofs.Links.{Shows-counter, Shows-steps, carried}
use Rattle.triple_arena_traits.specs.laws.PointerListLaws.{pointer_is}
use Rattle.triple_arena_traits.proofs.LookUps.{renewed_found, renewed_gone, others_found}
use Rattle.triple_arena_traits.specs.laws.HistoryLaws.{Continues-invalidated, Continues-touched}
use Rattle.triple_arena_traits.specs.Histories.{invalidation}
use Rattle.triple_arena_traits.specs.Ending.{invalidated}
use Rattle.triple_arena.proofs.base_arena.ArenaArenaTrait.invalidate.Goals as goal

pub invariant_of-self : goal.invariant_of-self
invariant_of-self g c =
    (carried g.P.Gen.PtrGen.number _ _ _ _ _ _ _ _ _ _ _ _ _ _ _ c.look_for.new.self (record c.look_for.new.self { slots = with_generation_in c.look_for.new.self.slots (non_zero_usize_get c.in-Some.inx) (g.P.Gen.PtrGen.number c.generational_inc-counter.result.0); counter = (g.P.Gen.PtrGen.number c.generational_inc-counter.result.0); steps = c.restamp.new.self.slots.steps.count }) c.self.invariant c.self.view_is
    (λ shows. Shows-steps g.P.Gen.PtrGen.number _ _ _ c.restamp.new.self.slots.steps.count _ (Shows-counter g.P.Gen.PtrGen.number _ _ _ (g.P.Gen.PtrGen.number c.generational_inc-counter.result.0) _ (c.restamp.ensures.shows c.look_for.new.self c.self.inside.len shows)))
    refl
    (c.restamp.ensures.room ∙ ap (λ s. s.room) c.self.view_is)
    (c.restamp.ensures.limit ∙ ap (λ s. s.limit) c.self.view_is)
    (ap (λ s. s.greatest) c.self.view_is) refl).0

pub returns-clause-done : goal.returns-clause-done
returns-clause-done g c live =
    let k = c.restamp.new.self.slots.steps.count in
    let i = non_zero_usize_get c.in-Some.inx in
    let n = (g.P.Gen.PtrGen.number c.generational_inc-counter.result.0) in (
      (carried g.P.Gen.PtrGen.number _ _ _ _ _ _ _ _ _ _ _ _ _ _ _ c.look_for.new.self (record c.look_for.new.self { slots = with_generation_in c.look_for.new.self.slots (non_zero_usize_get c.in-Some.inx) (g.P.Gen.PtrGen.number c.generational_inc-counter.result.0); counter = (g.P.Gen.PtrGen.number c.generational_inc-counter.result.0); steps = c.restamp.new.self.slots.steps.count }) c.self.invariant c.self.view_is
          (λ shows. Shows-steps g.P.Gen.PtrGen.number _ _ _ c.restamp.new.self.slots.steps.count _ (Shows-counter g.P.Gen.PtrGen.number _ _ _ (g.P.Gen.PtrGen.number c.generational_inc-counter.result.0) _ (c.restamp.ensures.shows c.look_for.new.self c.self.inside.len shows)))
          refl
          (c.restamp.ensures.room ∙ ap (λ s. s.room) c.self.view_is)
          (c.restamp.ensures.limit ∙ ap (λ s. s.limit) c.self.view_is)
          (ap (λ s. s.greatest) c.self.view_is) refl).1
          ∙ ap (λ (s : ArenaState g.row.T.Denot). record s { slots = with_generation_in s.slots i n; counter = n; steps = k }) c.look_for.ensures.unchanged.0
          ∙ ap (λ (s : ArenaState g.row.T.Denot). record s { steps = k }) (invalidated_is (raise g.P.Gen.PtrGen.generations) c.args.self.now _ _ _ (rw c.in-Some.is at c.look_for.ensures.index) (c.generational_inc-counter.ensures.raised ∙ ap (λ (s : ArenaState g.row.T.Denot). raise g.P.Gen.PtrGen.generations s.counter) (c.self.view_is ∙ c.look_for.ensures.unchanged.0))),
      omega (arith, c.restamp.ensures.steps, c.look_for.ensures.unchanged.1, ap (λ (s : ArenaState g.row.T.Denot). s.steps) c.self.view_is),
    )

pub returns-clause-found : goal.returns-clause-found
returns-clause-found g c live =
    let p = g.P.Ptr.numbers c.args.p in
    renewed_found c.args.self.now.slots _ p (raise g.P.Gen.PtrGen.generations c.args.self.now.counter) live (invalidated_slots (raise g.P.Gen.PtrGen.generations) c.args.self.now p.0 _ (returns-clause-done g c live))

pub returns-clause-gone : goal.returns-clause-gone
returns-clause-gone g c other =
    let p = g.P.Ptr.numbers c.args.p in
    let live : IsSome (look_up c.args.self.now.slots p) = sym (rw c.in-Some.is at c.look_for.ensures.live) in
    renewed_gone c.args.self.now.slots _ p (raise g.P.Gen.PtrGen.generations c.args.self.now.counter) live (invalidated_slots (raise g.P.Gen.PtrGen.generations) c.args.self.now p.0 _ (returns-clause-done g c live)) other

pub returns-in_default-clause-gone : goal.returns-in_default-clause-gone
returns-in_default-clause-gone g c other =
    ap (λ (s : ArenaState g.row.T.Denot). look_up s.slots (g.P.Ptr.numbers c.args.p)) c.in_default.ensures.unchanged.0 ∙ none_of _ (sym c.in_default.ensures.live)

pub returns-clause-others : goal.returns-clause-others
returns-clause-others g c q away =
    let p = g.P.Ptr.numbers c.args.p in
    let live : IsSome (look_up c.args.self.now.slots p) = sym (rw c.in-Some.is at c.look_for.ensures.live) in
    others_found c.args.self.now.slots _ p.0 _ (invalidated_slots (raise g.P.Gen.PtrGen.generations) c.args.self.now p.0 _ (returns-clause-done g c live)) q away

pub returns-clause-history : goal.returns-clause-history
returns-clause-history g c live counts =
    let p = g.P.Ptr.numbers c.args.p in
    let left = invalidated (raise g.P.Gen.PtrGen.generations) c.args.self.now p.0 in
    Continues-touched c.args.self.now left _ (invalidation p (p.0, raise g.P.Gen.PtrGen.generations c.args.self.now.counter) ∷ []) (returns-clause-done g c live)
    (Continues-invalidated g.P.Gen.PtrGen.generations c.args.self.now left p counts live refl)

pub returns-in_default-clause-answer : goal.returns-in_default-clause-answer
returns-in_default-clause-answer g c =
    none_told (wraps g.P.Gen.PtrGen.generations c.args.self.now.counter) (λ (v : g.row.T.Denot). ((g.P.Ptr.numbers c.args.p).0, raise g.P.Gen.PtrGen.generations c.args.self.now.counter)) (look_up c.args.self.now.slots (g.P.Ptr.numbers c.args.p)) (none_of _ (sym c.in_default.ensures.live))

pub returns-in_default-clause-done : goal.returns-in_default-clause-done
returns-in_default-clause-done g c live = absurd (true≢false (sym (c.in_default.ensures.live ∙ live)))

pub returns-in_default-clause-found : goal.returns-in_default-clause-found
returns-in_default-clause-found g c live = absurd (true≢false (sym (c.in_default.ensures.live ∙ live)))

pub returns-in_default-clause-history : goal.returns-in_default-clause-history
returns-in_default-clause-history g c live counts = absurd (true≢false (sym (c.in_default.ensures.live ∙ live)))

pub restamp-requires-after_bounds : goal.restamp-requires-after_bounds
restamp-requires-after_bounds g c κs within =
    let live = subst (λ n. IsSome (entry c.args.self.now n)) (sym c.in-Some.ensures.index) (live_entry c.args.self.now.slots (g.P.Ptr.numbers c.args.p) (sym c.in-Some.ensures.live)) in
    subst (λ (s : ArenaState g.row.T.Denot). IsSome (entry s (non_zero_usize_get c.in-Some.inx))) (sym (c.self.view_is ∙ c.in-Some.ensures.unchanged.0)) live

pub returns-clause-answer : goal.returns-clause-answer
returns-clause-answer g c =
    let p : Pointer = g.P.Ptr.numbers c.args.p in
    let n = raise g.P.Gen.PtrGen.generations c.args.self.now.counter in
    let found = entry_of_value c.args.self.now.slots p.0 p.1 (sym c.in-Some.ensures.live) in
    let at = g.met.P.Ptr.numbers_of c._from_raw.result
    ∙ pointer_is _ _ p.0 n (ap g.P.Inx.PtrInx.number (c._from_raw.ensures.index ∙ c.inx.ensures) ∙ sym (ap (λ (q : Pointer). q.0) (g.met.P.Ptr.numbers_of c.args.p))) (ap g.P.Gen.PtrGen.number c._from_raw.ensures.generation ∙ c.generational_inc-counter.ensures.raised ∙ ap (λ (s : ArenaState g.row.T.Denot). raise g.P.Gen.PtrGen.generations s.counter) (c.self.view_is ∙ c.in-Some.ensures.unchanged.0)) in
    told_mapped g.P.Ptr.numbers c.answer_on_valid.result _ (wraps g.P.Gen.PtrGen.generations c.args.self.now.counter) (option_map (λ (v : g.row.T.Denot). (p.0, n)) (look_up c.args.self.now.slots p)) c._from_raw.result c.answer_on_valid.ensures
    (c.generational_inc-counter.ensures.wrapped ∙ ap (λ (s : ArenaState g.row.T.Denot). wraps g.P.Gen.PtrGen.generations s.counter) (c.self.view_is ∙ c.in-Some.ensures.unchanged.0))
    (ap (option_map (λ (v : g.row.T.Denot). (p.0, n))) found.2 ∙ ap Some (sym at))

pub returns-clause-unchanged : goal.returns-clause-unchanged
returns-clause-unchanged g c none = absurd (true≢false (c.in-Some.ensures.live ∙ ap is_some none))

pub returns-in_default-clause-others : goal.returns-in_default-clause-others
returns-in_default-clause-others g c q away = ap (λ (s : ArenaState g.row.T.Denot). look_up s.slots q) c.in_default.ensures.unchanged.0

pub returns-in_default-clause-unchanged : goal.returns-in_default-clause-unchanged
returns-in_default-clause-unchanged g c none = c.in_default.ensures.unchanged

pub returns-clause-bounded : goal.returns-clause-bounded
returns-clause-bounded g c = omega (arith, c.restamp.ensures.steps, c.in-Some.ensures.steps, ap (λ (s : ArenaState g.row.T.Denot). s.steps) c.self.view_is)

pub returns-in_default-clause-bounded : goal.returns-in_default-clause-bounded
returns-in_default-clause-bounded g c = omega (arith, c.in_default.ensures.steps)
