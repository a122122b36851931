use Rattle.triple_arena_slots.proofs.Resizing.{below_above}
use Rattle.triple_arena_traits.proofs.Growth.{on_ok}
use Rattle.triple_arena_traits.specs.Reallocation.{with_room_for}
use Rattle.triple_arena_traits.specs.ArenaState.{ArenaState}
use Rattle.triple_arena_traits.specs.FreeList.{tidied}
use Rattle.triple_arena_traits.specs.SlotSteps.{IsTouched}
use Rattle.triple_arena.proofs.Touched.{touched_same, touched_through, on_err, reallocated_goes_on}
use Rattle.triple_arena_stack.specs.Capacity.{IsWithin, IsBeyond}
use Rattle.triple_arena_base.specs.declared.errors.ReallocationError.TheVariants.{BeyondMaxCapacity}
use Rattle.std.proofs.Common.{◌≡◌, ◌↔◌, ◌∙◌, ◌<◌, ◌≤◌, Err, IsOk, OnOk, refl, sym, subst}
use Rattle.triple_arena.proofs.base_arena.ArenaArenaTrait.reallocate_min_capacity.Goals as goal

pub returns-then-min_capacity-get-clause-refused : goal.returns-then-min_capacity-get-clause-refused
returns-then-min_capacity-get-clause-refused g c = c.canonicalize_freelist.ensures.state

pub returns-then-min_capacity-get-clause-beyond : goal.returns-then-min_capacity-get-clause-beyond
returns-then-min_capacity-get-clause-beyond g c = (λ e. absurd (cc), λ h. absurd (below_above _ _ (subst (λ n. n < c.args.min_capacity) (c.get.ensures.value ∙ c.max_index.ensures) c.if-min_capacity-get.true) h.0))

pub returns-then-min_capacity-get-clause-succeeds : goal.returns-then-min_capacity-get-clause-succeeds
returns-then-min_capacity-get-clause-succeeds g c within allowed keeps = absurd (below_above _ _ (subst (λ n. n < c.args.min_capacity) (c.get.ensures.value ∙ c.max_index.ensures) c.if-min_capacity-get.true) within)

pub returns-then-min_capacity-get-clause-with_memory : goal.returns-then-min_capacity-get-clause-with_memory
returns-then-min_capacity-get-clause-with_memory g c within allowed has = absurd (below_above _ _ (subst (λ n. n < c.args.min_capacity) (c.get.ensures.value ∙ c.max_index.ensures) c.if-min_capacity-get.true) within)

pub returns-then-min_capacity-get-clause-history : goal.returns-then-min_capacity-get-clause-history
returns-then-min_capacity-get-clause-history g c = c.canonicalize_freelist.ensures.history

pub returns-clause-done : goal.returns-clause-done
returns-clause-done g c =
    let kind = g.S.NonZeroInxGenericStack.kind in
    on_ok c.reallocate.result (λ is. touched_through (λ (s : ArenaState g.row.T.Denot). with_room_for kind s c.args.min_capacity) (λ s n m. refl) (λ s. refl) (tidied c.args.self.now) c.canonicalize_freelist.new.self c.reallocate.new.self c.canonicalize_freelist.ensures.state (touched_same (with_room_for kind c.canonicalize_freelist.new.self c.args.min_capacity) c.reallocate.new.self is)) c.reallocate.ensures.done

pub returns-clause-refused : goal.returns-clause-refused
returns-clause-refused g c =
    on_err c.reallocate.result (λ is. subst (IsTouched (tidied c.args.self.now)) (sym is) c.canonicalize_freelist.ensures.state) c.reallocate.ensures.refused

pub returns-clause-within : goal.returns-clause-within
returns-clause-within g c = on_ok c.reallocate.result (λ h. ((subst (λ n. c.args.min_capacity ≤ n) (c.get.ensures.value ∙ c.max_index.ensures) c.if-min_capacity-get.false), h)) (subst (λ (s : ArenaState g.row.T.Denot). OnOk c.reallocate.result (IsWithin s.limit c.args.min_capacity)) c.canonicalize_freelist.ensures.state.0 c.reallocate.ensures.within)

pub returns-clause-beyond : goal.returns-clause-beyond
returns-clause-beyond g c =
    let beyond = subst (λ (s : ArenaState g.row.T.Denot). (c.reallocate.result ≡ Err BeyondMaxCapacity) ↔ IsBeyond s.limit c.args.min_capacity) c.canonicalize_freelist.ensures.state.0 c.reallocate.ensures.beyond in
    (λ e. ((subst (λ n. c.args.min_capacity ≤ n) (c.get.ensures.value ∙ c.max_index.ensures) c.if-min_capacity-get.false), beyond.0 e), λ h. beyond.1 h.1)

pub returns-clause-succeeds : goal.returns-clause-succeeds
returns-clause-succeeds g c within = subst (λ (s : ArenaState g.row.T.Denot). IsWithin s.limit c.args.min_capacity → (with_room_for g.S.NonZeroInxGenericStack.kind s c.args.min_capacity).room ≡ s.room → IsOk c.reallocate.result) c.canonicalize_freelist.ensures.state.0 c.reallocate.ensures.succeeds

pub returns-clause-with_memory : goal.returns-clause-with_memory
returns-clause-with_memory g c within = subst (λ (s : ArenaState g.row.T.Denot). IsWithin s.limit c.args.min_capacity → g.S.NonZeroInxGenericStack.has_memory (with_room_for g.S.NonZeroInxGenericStack.kind s c.args.min_capacity).room → IsOk c.reallocate.result) c.canonicalize_freelist.ensures.state.0 c.reallocate.ensures.with_memory

pub returns-clause-place : goal.returns-clause-place
returns-clause-place g c = on_ok c.reallocate.result (λ h. h (subst (λ n. c.args.min_capacity ≤ n) (c.get.ensures.value ∙ c.max_index.ensures) c.if-min_capacity-get.false)) c.reallocate.ensures.place

pub returns-clause-history : goal.returns-clause-history
returns-clause-history g c = reallocated_goes_on g.S.NonZeroInxGenericStack.kind c.reallocate.result c.args.self.now c.reallocate.new.self c.args.min_capacity (returns-clause-done g c) (returns-clause-refused g c)
