use Rattle.triple_arena_direct_arena.proofs.Refused.{below_above, not_beyond}
use Rattle.triple_arena_traits.proofs.Growth.{on_ok}
use Rattle.triple_arena_direct_arena.specs.DirectState.{DirectState, direct_with_room_for}
use Rattle.triple_arena_stack.specs.Capacity.{IsWithin, IsBeyond}
use Rattle.triple_arena_base.specs.declared.errors.ReallocationError.TheVariants.{BeyondMaxCapacity}
use Rattle.std.proofs.Common.{◌≡◌, ◌↔◌, ◌∙◌, ◌<◌, ◌≤◌, Err, IsOk, OnOk, OnErr, subst}
use Rattle.triple_arena_direct_arena.proofs.direct_arena.DirectArenaArenaTrait.reallocate_min_capacity.Goals as goal

pub returns-then-min_capacity-get-clause-refused : goal.returns-then-min_capacity-get-clause-refused
returns-then-min_capacity-get-clause-refused g c = c.shorten.ensures

pub returns-then-min_capacity-get-clause-beyond : goal.returns-then-min_capacity-get-clause-beyond
returns-then-min_capacity-get-clause-beyond g c = (λ e. absurd (not_beyond e), λ h. absurd (below_above _ _ (subst (λ n. n < c.args.min_capacity) (c.get.ensures.value ∙ c.max_index.ensures) c.if-min_capacity-get.true) h.0))

pub returns-then-min_capacity-get-clause-succeeds : goal.returns-then-min_capacity-get-clause-succeeds
returns-then-min_capacity-get-clause-succeeds g c within allowed keeps = absurd (below_above _ _ (subst (λ n. n < c.args.min_capacity) (c.get.ensures.value ∙ c.max_index.ensures) c.if-min_capacity-get.true) within)

pub returns-then-min_capacity-get-clause-with_memory : goal.returns-then-min_capacity-get-clause-with_memory
returns-then-min_capacity-get-clause-with_memory g c within allowed has = absurd (below_above _ _ (subst (λ n. n < c.args.min_capacity) (c.get.ensures.value ∙ c.max_index.ensures) c.if-min_capacity-get.true) within)

pub returns-clause-done : goal.returns-clause-done
returns-clause-done g c = subst (λ (s : DirectState g.row.T.Denot). OnOk c.reallocate.result (c.reallocate.new.self ≡ direct_with_room_for g.S.NonZeroInxGenericStack.kind s c.args.min_capacity)) c.shorten.ensures c.reallocate.ensures.done

pub returns-clause-refused : goal.returns-clause-refused
returns-clause-refused g c = subst (λ (s : DirectState g.row.T.Denot). OnErr c.reallocate.result (c.reallocate.new.self ≡ s)) c.shorten.ensures c.reallocate.ensures.refused

pub returns-clause-within : goal.returns-clause-within
returns-clause-within g c = on_ok c.reallocate.result (λ h. ((subst (λ n. c.args.min_capacity ≤ n) (c.get.ensures.value ∙ c.max_index.ensures) c.if-min_capacity-get.false), h)) (subst (λ (s : DirectState g.row.T.Denot). OnOk c.reallocate.result (IsWithin s.limit c.args.min_capacity)) c.shorten.ensures c.reallocate.ensures.within)

pub returns-clause-beyond : goal.returns-clause-beyond
returns-clause-beyond g c =
    let beyond = subst (λ (s : DirectState g.row.T.Denot). (c.reallocate.result ≡ Err BeyondMaxCapacity) ↔ IsBeyond s.limit c.args.min_capacity) c.shorten.ensures c.reallocate.ensures.beyond in
    (λ e. ((subst (λ n. c.args.min_capacity ≤ n) (c.get.ensures.value ∙ c.max_index.ensures) c.if-min_capacity-get.false), beyond.0 e), λ h. beyond.1 h.1)

pub returns-clause-succeeds : goal.returns-clause-succeeds
returns-clause-succeeds g c within = subst (λ (s : DirectState g.row.T.Denot). IsWithin s.limit c.args.min_capacity → (direct_with_room_for g.S.NonZeroInxGenericStack.kind s c.args.min_capacity).room ≡ s.room → IsOk c.reallocate.result) c.shorten.ensures c.reallocate.ensures.succeeds

pub returns-clause-with_memory : goal.returns-clause-with_memory
returns-clause-with_memory g c within = subst (λ (s : DirectState g.row.T.Denot). IsWithin s.limit c.args.min_capacity → g.S.NonZeroInxGenericStack.has_memory (direct_with_room_for g.S.NonZeroInxGenericStack.kind s c.args.min_capacity).room → IsOk c.reallocate.result) c.shorten.ensures c.reallocate.ensures.with_memory

pub returns-clause-place : goal.returns-clause-place
returns-clause-place g c = on_ok c.reallocate.result (λ h. h (subst (λ n. c.args.min_capacity ≤ n) (c.get.ensures.value ∙ c.max_index.ensures) c.if-min_capacity-get.false)) c.reallocate.ensures.place
