use Rattle.triple_arena_slots.proofs.Resizing.{below_above, not_within}
use Rattle.triple_arena_traits.specs.laws.EntryLaws.{same-grown}
use Rattle.std.proofs.Common.{◌≡◌, ◌≢◌, ◌∙◌, ◌<◌, cond, true≢false, sym, ap, subst, arith, ◌≤◌, refl}
use Rattle.triple_arena_stack.specs.Capacity.{IsAtLimit, IsBeyond, next_capacity}
use Rattle.triple_arena_stack.specs.StackKind.{IsOfKind}
use Rattle.triple_arena_traits.specs.ArenaState.{arena_len, capacity, IsWellFormed}
use Rattle.triple_arena_traits.specs.laws.ItemLaws.{eq_true}
use Rattle.triple_arena_slots.specs.Layout.{Shows}
use Rattle.triple_arena_traits.specs.Reallocation.{with_room_for}
use Rattle.triple_arena_traits.proofs.Growth.{on_ok, grown_more, never_beyond}
use Rattle.triple_arena.proofs.Growing.{grown_or_same}
use Rattle.triple_arena.proofs.base_arena.insertion.ArenaArenaInsertTrait.make_place.Goals as goal

pub returns-clause-place : goal.returns-clause-place
returns-clause-place g c =
    let limit = c.max_capacity-limit.ensures.value ∙ ap (λ s. s.limit) c.self.view_is in
    let greatest = c.get-greatest.ensures.value ∙ c.max_index.ensures ∙ sym c.capacity-capacity.ensures.greatest in
    let kind = subst (λ s. IsOfKind g.S.NonZeroInxGenericStack.kind s.room s.limit) c.self.view_is c.max_capacity-limit.ensures.of_kind in
    let at_limit = rw (limit, c.capacity-capacity.ensures.value) at c.is_at_limit.ensures in
    let below : IsAtLimit c.args.self.now.limit (capacity c.args.self.now) → ⊥ = λ h. true≢false (sym (at_limit.1 h) ∙ c.if-is_at_limit.false) in
    let inner : capacity c.args.self.now ≢ c.args.self.now.greatest = λ e. c.if-capacity-greatest.false (c.capacity-capacity.ensures.value ∙ e ∙ sym greatest) in
    let next = rw (c.capacity-capacity.ensures.value, limit, greatest) at c.grown_capacity.ensures in
    let well = subst IsWellFormed c.self.view_is c.self.invariant.well in
    let more = subst (λ m. capacity c.args.self.now < capacity (with_room_for g.S.NonZeroInxGenericStack.kind c.args.self.now m)) (sym next) (grown_more g.S.NonZeroInxGenericStack.kind c.args.self.now kind below inner) in
    on_ok c.reallocate.result (λ done. rw done (omega (arith, well.total, well.fits, more))) c.reallocate.ensures.done

pub returns-then-self-capacity-clause-beyond : goal.returns-then-self-capacity-clause-beyond
returns-then-self-capacity-clause-beyond g c =
    let shows = subst (Shows g.P.Gen.PtrGen.number _ _ _) c.self.view_is c.self.invariant in
    (λ e. absurd (cc), λ full. absurd (omega (arith, full.0, c.if-self-capacity.true, shows.counted, c.capacity-capacity.ensures.value)))

pub returns-then-capacity-greatest-clause-with_memory : goal.returns-then-capacity-greatest-clause-with_memory
returns-then-capacity-greatest-clause-with_memory g c grows =
    absurd (omega (arith, grows.1, c.if-capacity-greatest.true, c.capacity-capacity.ensures.value, c.get-greatest.ensures.value, c.max_index.ensures))

pub returns-clause-done : goal.returns-clause-done
returns-clause-done g c =
    let kind = g.S.NonZeroInxGenericStack.kind in
    let s = c.args.self.now in
    let limit = c.max_capacity-limit.ensures.value ∙ ap (λ s. s.limit) c.self.view_is in
    let greatest = c.get-greatest.ensures.value ∙ c.max_index.ensures ∙ sym c.capacity-capacity.ensures.greatest in
    let next = rw (c.capacity-capacity.ensures.value, limit, greatest) at c.grown_capacity.ensures in
    let shows = subst (Shows g.P.Gen.PtrGen.number _ _ _) c.self.view_is c.self.invariant in
    let full : arena_len s ≡ capacity s = omega (arith, c.if-self-capacity.false, shows.counted, c.capacity-capacity.ensures.value, shows.well.total, shows.well.fits) in
    let grows = ap (λ b. cond b (with_room_for kind s (next_capacity (capacity s) s.limit s.greatest)) s) (eq_true _ _ full) in
    on_ok c.reallocate.result (λ done. done ∙ ap (with_room_for kind s) next ∙ sym grows) c.reallocate.ensures.done

pub returns-clause-beyond : goal.returns-clause-beyond
returns-clause-beyond g c =
    let limit = c.max_capacity-limit.ensures.value ∙ ap (λ s. s.limit) c.self.view_is in
    let greatest = c.get-greatest.ensures.value ∙ c.max_index.ensures ∙ sym c.capacity-capacity.ensures.greatest in
    let next = rw (c.capacity-capacity.ensures.value, limit, greatest) at c.grown_capacity.ensures in
    let at_limit = rw (limit, c.capacity-capacity.ensures.value) at c.is_at_limit.ensures in (
      λ e. absurd (never_beyond _ _ c.args.self.now.limit (subst (IsBeyond c.args.self.now.limit) next (c.reallocate.ensures.beyond.0 e))),
      λ full. absurd (true≢false (sym (at_limit.1 full.1) ∙ c.if-is_at_limit.false)),
    )

pub returns-then-self-capacity-clause-done : goal.returns-then-self-capacity-clause-done
returns-then-self-capacity-clause-done g c =
    let shows = subst (Shows g.P.Gen.PtrGen.number _ _ _) c.self.view_is c.self.invariant in
    let has : arena_len c.args.self.now < capacity c.args.self.now = omega (arith, c.if-self-capacity.true, shows.counted, c.capacity-capacity.ensures.value) in
    sym (same-grown g.S.NonZeroInxGenericStack.kind c.args.self.now has)

pub returns-then-self-capacity-clause-place : goal.returns-then-self-capacity-clause-place
returns-then-self-capacity-clause-place g c =
    let shows = subst (Shows g.P.Gen.PtrGen.number _ _ _) c.self.view_is c.self.invariant in
    let has : arena_len c.args.self.now < capacity c.args.self.now = omega (arith, c.if-self-capacity.true, shows.counted, c.capacity-capacity.ensures.value) in
    has

pub returns-then-self-capacity-clause-indexed : goal.returns-then-self-capacity-clause-indexed
returns-then-self-capacity-clause-indexed g c same =
    let shows = subst (Shows g.P.Gen.PtrGen.number _ _ _) c.self.view_is c.self.invariant in
    let has : arena_len c.args.self.now < capacity c.args.self.now = omega (arith, c.if-self-capacity.true, shows.counted, c.capacity-capacity.ensures.value) in
    absurd (omega (arith, has, same))

pub returns-then-is_at_limit-clause-beyond : goal.returns-then-is_at_limit-clause-beyond
returns-then-is_at_limit-clause-beyond g c =
    let shows = subst (Shows g.P.Gen.PtrGen.number _ _ _) c.self.view_is c.self.invariant in
    let full : capacity c.args.self.now ≤ arena_len c.args.self.now = omega (arith, c.if-self-capacity.false, shows.counted, c.capacity-capacity.ensures.value) in
    let limit = c.max_capacity-limit.ensures.value ∙ ap (λ s. s.limit) c.self.view_is in
    let at_limit = rw (limit, c.capacity-capacity.ensures.value) at c.is_at_limit.ensures in
    (λ e. (full, at_limit.0 c.if-is_at_limit.true), λ h. refl)

pub returns-then-is_at_limit-clause-with_memory : goal.returns-then-is_at_limit-clause-with_memory
returns-then-is_at_limit-clause-with_memory g c grows =
    let limit = c.max_capacity-limit.ensures.value ∙ ap (λ s. s.limit) c.self.view_is in
    let at_limit = rw (limit, c.capacity-capacity.ensures.value) at c.is_at_limit.ensures in
    absurd (not_within c.args.self.now.limit (capacity c.args.self.now) (at_limit.0 c.if-is_at_limit.true) grows.0)

pub returns-then-is_at_limit-clause-had_place : goal.returns-then-is_at_limit-clause-had_place
returns-then-is_at_limit-clause-had_place g c has =
    let shows = subst (Shows g.P.Gen.PtrGen.number _ _ _) c.self.view_is c.self.invariant in
    let full : capacity c.args.self.now ≤ arena_len c.args.self.now = omega (arith, c.if-self-capacity.false, shows.counted, c.capacity-capacity.ensures.value) in
    absurd (below_above _ _ has full)

pub returns-then-capacity-greatest-clause-beyond : goal.returns-then-capacity-greatest-clause-beyond
returns-then-capacity-greatest-clause-beyond g c =
    let limit = c.max_capacity-limit.ensures.value ∙ ap (λ s. s.limit) c.self.view_is in
    let at_limit = rw (limit, c.capacity-capacity.ensures.value) at c.is_at_limit.ensures in
    (λ e. absurd (cc), λ full. absurd (true≢false (sym (at_limit.1 full.1) ∙ c.if-is_at_limit.false)))

pub returns-then-capacity-greatest-clause-had_place : goal.returns-then-capacity-greatest-clause-had_place
returns-then-capacity-greatest-clause-had_place g c has =
    let shows = subst (Shows g.P.Gen.PtrGen.number _ _ _) c.self.view_is c.self.invariant in
    let full : capacity c.args.self.now ≤ arena_len c.args.self.now = omega (arith, c.if-self-capacity.false, shows.counted, c.capacity-capacity.ensures.value) in
    absurd (below_above _ _ has full)

pub returns-clause-had_place : goal.returns-clause-had_place
returns-clause-had_place g c has =
    let shows = subst (Shows g.P.Gen.PtrGen.number _ _ _) c.self.view_is c.self.invariant in
    let full : capacity c.args.self.now ≤ arena_len c.args.self.now = omega (arith, c.if-self-capacity.false, shows.counted, c.capacity-capacity.ensures.value) in
    absurd (below_above _ _ has full)

pub same-self : goal.same-self
same-self g c = refl

pub returns-then-self-capacity-clause-with_memory : goal.returns-then-self-capacity-clause-with_memory
returns-then-self-capacity-clause-with_memory g c can = refl

pub returns-then-self-capacity-clause-had_place : goal.returns-then-self-capacity-clause-had_place
returns-then-self-capacity-clause-had_place g c place = (refl, refl)

pub returns-then-self-capacity-clause-valid : goal.returns-then-self-capacity-clause-valid
returns-then-self-capacity-clause-valid g c = subst IsWellFormed c.self.view_is c.self.invariant.well

pub same-self-then-is_at_limit : goal.same-self-then-is_at_limit
same-self-then-is_at_limit g c = refl

pub returns-then-is_at_limit-clause-refused : goal.returns-then-is_at_limit-clause-refused
returns-then-is_at_limit-clause-refused g c = refl

pub returns-then-is_at_limit-clause-valid : goal.returns-then-is_at_limit-clause-valid
returns-then-is_at_limit-clause-valid g c = subst IsWellFormed c.self.view_is c.self.invariant.well

pub same-self-then-capacity-greatest : goal.same-self-then-capacity-greatest
same-self-then-capacity-greatest g c = refl

pub returns-then-capacity-greatest-clause-refused : goal.returns-then-capacity-greatest-clause-refused
returns-then-capacity-greatest-clause-refused g c = refl

pub returns-then-capacity-greatest-clause-valid : goal.returns-then-capacity-greatest-clause-valid
returns-then-capacity-greatest-clause-valid g c = subst IsWellFormed c.self.view_is c.self.invariant.well

pub same-self-2 : goal.same-self-2
same-self-2 g c = refl

pub returns-clause-valid : goal.returns-clause-valid
returns-clause-valid g c = subst IsWellFormed c.self.view_is c.self.invariant.well

pub returns-clause-history : goal.returns-clause-history
returns-clause-history g c = grown_or_same g.S.NonZeroInxGenericStack.kind _ _ c.reallocate.result (returns-clause-done g c) c.reallocate.ensures.refused
