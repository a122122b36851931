use Rattle.triple_arena_traits.proofs.Refused.{err_is, ok_not_err, on_ok_err, on_err, same_error}
use Rattle.triple_arena_direct_arena.specs.DirectState.{direct_capacity, direct_shortened, direct_reallocated, direct_ready_for, direct_with_slots}
use Rattle.triple_arena_traits.proofs.TransferLemmas.{source_goes_on}
use Rattle.std.proofs.lemmas.Bool.{false≢true}
use Rattle.std.proofs.Common.{◌≡◌, ◌∙◌, ◌↔◌, Result, Err, sym, ap, ◌<◌, ◌≤◌, refl, subst}
use Rattle.triple_arena_base.specs.declared.errors.ReallocationError.{ReallocationError}
use Rattle.triple_arena_base.specs.declared.errors.ReallocationError.TheVariants.{BeyondMaxCapacity}
use Rattle.triple_arena_ptr.specs.Numbers.{greatest_index}
use Rattle.triple_arena_stack.specs.Capacity.{IsWithin, IsBeyond}
use Rattle.triple_arena_direct_arena.proofs.direct_arena.DirectArena.transfer_reallocating.Goals as goal

pub returns-clause-done : goal.returns-clause-done
returns-clause-done g c =
    let d = c.take_over.ensures.transferred in
    let ready = c.in_ok-make_room.ensures.done ∙ ap (direct_ready_for g.S.NonZeroInxGenericStack.kind c.args.self.now) (c.len.ensures.value ∙ sym d.3) in
    (d.0, d.1, d.2 ∙ ap (λ s. direct_with_slots s d.0) ready)

pub returns-clause-history : goal.returns-clause-history
returns-clause-history g c none =
    let d = c.take_over.ensures.transferred in
    source_goes_on _ _ _ _ _ _ _ _ _ _ _ _ d.0 d.1 none

pub returns-in_err-make_room-clause-history : goal.returns-in_err-make_room-clause-history
returns-in_err-make_room-clause-history g c = on_ok_err c.from_residual.result c.in_err-make_room.field-0.0 (err_is c.from_residual.result c.in_err-make_room.field-0.0 c.from_residual.ensures.1) _

pub returns-clause-beyond : goal.returns-clause-beyond
returns-clause-beyond g c =
    let most = greatest_index g.P.Inx.PtrInx.greatest in (
      λ e. absurd (ok_not_err _ _ e),
      λ h.
          absurd (ok_not_err _ _ (c.in_ok-make_room.ensures.beyond.1
          (subst (λ n. (direct_capacity c.args.self.now < n) × (n ≤ most) × IsBeyond c.args.self.now.limit n) (sym c.len.ensures.value) h))),
    )

pub returns-in_err-make_room-clause-done : goal.returns-in_err-make_room-clause-done
returns-in_err-make_room-clause-done g c = on_ok_err c.from_residual.result c.in_err-make_room.field-0.0 (err_is c.from_residual.result c.in_err-make_room.field-0.0 c.from_residual.ensures.1) _

pub returns-in_err-make_room-clause-counted : goal.returns-in_err-make_room-clause-counted
returns-in_err-make_room-clause-counted g c = on_ok_err c.from_residual.result c.in_err-make_room.field-0.0 (err_is c.from_residual.result c.in_err-make_room.field-0.0 c.from_residual.ensures.1) _

pub returns-in_err-make_room-clause-emptied : goal.returns-in_err-make_room-clause-emptied
returns-in_err-make_room-clause-emptied g c = on_ok_err c.from_residual.result c.in_err-make_room.field-0.0 (err_is c.from_residual.result c.in_err-make_room.field-0.0 c.from_residual.ensures.1) _

pub returns-in_err-make_room-clause-refused : goal.returns-in_err-make_room-clause-refused
returns-in_err-make_room-clause-refused g c = on_err c.from_residual.result c.in_err-make_room.field-0.0 (err_is c.from_residual.result c.in_err-make_room.field-0.0 c.from_residual.ensures.1) _ (subst (λ n. c.make_room.new.self ≡ direct_shortened c.args.self.now n) c.len.ensures.value c.in_err-make_room.ensures.refused)

pub returns-in_err-make_room-clause-whole : goal.returns-in_err-make_room-clause-whole
returns-in_err-make_room-clause-whole g c = on_err c.from_residual.result c.in_err-make_room.field-0.0 (err_is c.from_residual.result c.in_err-make_room.field-0.0 c.from_residual.ensures.1) _ refl

pub returns-in_err-make_room-clause-short : goal.returns-in_err-make_room-clause-short
returns-in_err-make_room-clause-short g c = on_err c.from_residual.result c.in_err-make_room.field-0.0 (err_is c.from_residual.result c.in_err-make_room.field-0.0 c.from_residual.ensures.1) _ (subst (λ n. direct_capacity c.args.self.now < n) c.len.ensures.value c.in_err-make_room.ensures.short)

pub returns-in_err-make_room-clause-indexed : goal.returns-in_err-make_room-clause-indexed
returns-in_err-make_room-clause-indexed g c = on_ok_err c.from_residual.result c.in_err-make_room.field-0.0 (err_is c.from_residual.result c.in_err-make_room.field-0.0 c.from_residual.ensures.1) _

pub returns-in_err-make_room-clause-beyond : goal.returns-in_err-make_room-clause-beyond
returns-in_err-make_room-clause-beyond g c = same_error c.from_residual.result c.in_err-make_room.field-0.0 (err_is c.from_residual.result c.in_err-make_room.field-0.0 c.from_residual.ensures.1) _ _
    (subst (λ n. ◌≡◌ {A = Result (Unit {0}) ReallocationError} (Err c.in_err-make_room.field-0.0) (Err BeyondMaxCapacity)
    ↔ ((direct_capacity c.args.self.now < n) × (n ≤ greatest_index g.P.Inx.PtrInx.greatest) × IsBeyond c.args.self.now.limit n))
    c.len.ensures.value c.in_err-make_room.ensures.beyond)

pub returns-in_err-make_room-clause-with_memory : goal.returns-in_err-make_room-clause-with_memory
returns-in_err-make_room-clause-with_memory g c within allowed has =
    let len = sym c.len.ensures.value in
    absurd (false≢true (c.in_err-make_room.ensures.with_memory
    (subst (λ n. n ≤ greatest_index g.P.Inx.PtrInx.greatest) len within)
    (subst (IsWithin c.args.self.now.limit) len allowed)
    (subst (λ n. g.S.NonZeroInxGenericStack.has_memory (direct_reallocated g.S.NonZeroInxGenericStack.kind c.args.self.now n).room) len has)))

pub take_over-requires-clause-fits : goal.take_over-requires-clause-fits
take_over-requires-clause-fits g c κs within =
    subst (λ n. n ≤ direct_capacity c.make_room.new.self) c.len.ensures.value c.in_ok-make_room.ensures.place

pub returns-clause-counted : goal.returns-clause-counted
returns-clause-counted g c = c.take_over.ensures.counted

pub returns-clause-indexed : goal.returns-clause-indexed
returns-clause-indexed g c =
    subst (λ n. n ≤ greatest_index g.P.Inx.PtrInx.greatest) c.len.ensures.value c.in_ok-make_room.ensures.indexed

pub returns-clause-with_memory : goal.returns-clause-with_memory
returns-clause-with_memory g c within allowed has = refl
