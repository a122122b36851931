use Rattle.std.proofs.Common.{◌≡◌, ◌∙◌, ◌<◌, ◌≤◌, sym, ap, subst, arith, true≢false}
use Rattle.triple_arena_stack.specs.Capacity.{IsWithin}
use Rattle.triple_arena_traits.specs.Cloning.{IsCloneAnswer}
use Rattle.triple_arena_traits.proofs.Refused.{err_is, on_ok_err}
use Rattle.triple_arena_direct_arena.proofs.Cloned.{on_all_copied, beyond_room, not_beyond}
use Rattle.triple_arena_traits.specs.Entries.{entry_in}
use Rattle.triple_arena_traits.proofs.CopyLemmas.{kept_end, copy_ends, copy_same_end, on_copies, no_answer}
use Rattle.triple_arena_traits.specs.laws.FreeListLaws.{trimmed_length}
use Rattle.triple_arena_direct_arena.specs.DirectState.{DirectState, direct_capacity, direct_reallocated, direct_ready_for, direct_shortened, direct_with_slots}
use Rattle.triple_arena_direct_arena.specs.laws.DirectStepLaws.{slots-tidied}
use Rattle.triple_arena_direct_arena.proofs.direct_arena.copies.DirectArenaArenaCloneFromWith.clone_from_with.Goals as goal

pub returns-in-Err-clause-cloned : goal.returns-in-Err-clause-cloned
returns-in-Err-clause-cloned g c answer is =
    let ready = c.in_ok-make_room.ensures.done ∙ ap (direct_ready_for g.S.NonZeroInxGenericStack.kind c.args.self.now) c.last_index.ensures.value in
    let h = c.in-Err.ensures in
    (h.0, on_copies _ _ _ _ _ answer _ is h.1, h.2 ∙ ap (λ s. direct_with_slots s h.0) ready)

pub returns-in_err-make_room-clause-fits : goal.returns-in_err-make_room-clause-fits
returns-in_err-make_room-clause-fits g c =
    let is = c.in_err-make_room.ensures.refused in
    let kept = kept_end _ _ (slots-tidied c.args.self.now _ c.make_room.new.self is) in
    let size : direct_capacity c.make_room.new.self ≡ direct_capacity c.args.self.now = ap direct_capacity is in
    omega (arith, kept, size, trimmed_length c.args.self.now.slots, c.in_err-make_room.ensures.fits)

pub returns-in-Ok-clause-same_end : goal.returns-in-Ok-clause-same_end
returns-in-Ok-clause-same_end g c =
    let h = c.in-Ok.ensures in
    copy_same_end _ _ c.args.map (g.A.ArenaStates.slots c.args.source.now) h.0 c.hold_copies.new.self.slots h.1 (λ i. ap (λ (s : DirectState g.row.T.Denot). entry_in s.slots i) h.2)

pub returns-in-Ok-clause-fits : goal.returns-in-Ok-clause-fits
returns-in-Ok-clause-fits g c =
    let h = c.in-Ok.ensures in
    let ends = copy_ends _ _ c.args.map (g.A.ArenaStates.slots c.args.source.now) _ h.0 c.hold_copies.new.self.slots h.1 (λ i. ap (λ (s : DirectState g.row.T.Denot). entry_in s.slots i) h.2) in
    let size : direct_capacity c.hold_copies.new.self ≡ direct_capacity c.make_room.new.self = ap direct_capacity h.2 in
    omega (arith, ends, size, c.in_ok-make_room.ensures.place, c.last_index.ensures.value)

pub returns-in-Err-clause-fits : goal.returns-in-Err-clause-fits
returns-in-Err-clause-fits g c =
    let h = c.in-Err.ensures in
    let ends = copy_ends _ _ c.args.map (g.A.ArenaStates.slots c.args.source.now) _ h.0 c.hold_copies.new.self.slots h.1 (λ i. ap (λ (s : DirectState g.row.T.Denot). entry_in s.slots i) h.2) in
    let size : direct_capacity c.hold_copies.new.self ≡ direct_capacity c.make_room.new.self = ap direct_capacity h.2 in
    omega (arith, ends, size, c.in_ok-make_room.ensures.place, c.last_index.ensures.value)

pub hold_copies-requires-clause-fits : goal.hold_copies-requires-clause-fits
hold_copies-requires-clause-fits g c κs within =
    subst (λ n. n ≤ direct_capacity c.make_room.new.self) c.last_index.ensures.value c.in_ok-make_room.ensures.place

pub returns-in_err-make_room-clause-cloned : goal.returns-in_err-make_room-clause-cloned
returns-in_err-make_room-clause-cloned g c answer is =
    absurd (no_answer answer _ (subst (IsCloneAnswer answer) (err_is _ _ c.from_residual.ensures.1) is))

pub returns-in_err-make_room-clause-refused : goal.returns-in_err-make_room-clause-refused
returns-in_err-make_room-clause-refused g c refused =
    c.in_err-make_room.ensures.refused ∙ ap (direct_shortened c.args.self.now) c.last_index.ensures.value

pub returns-in_err-make_room-clause-short : goal.returns-in_err-make_room-clause-short
returns-in_err-make_room-clause-short g c refused =
    subst (λ n. direct_capacity c.args.self.now < n) c.last_index.ensures.value c.in_err-make_room.ensures.short

pub returns-in_err-make_room-clause-beyond : goal.returns-in_err-make_room-clause-beyond
returns-in_err-make_room-clause-beyond g c =
    beyond_room _ _ _ _ c.args.self.now.limit c.last_index.ensures.value c.last_index.ensures.indexed _ _ (err_is _ _ c.from_residual.ensures.1) c.in_err-make_room.ensures.beyond

pub returns-in_err-make_room-clause-with_memory : goal.returns-in_err-make_room-clause-with_memory
returns-in_err-make_room-clause-with_memory g c allowed memory refused =
    let last = sym c.last_index.ensures.value in
    true≢false (sym (c.in_err-make_room.ensures.with_memory c.last_index.ensures.indexed (subst (IsWithin c.args.self.now.limit) last allowed)
    (subst (λ n. g.S.NonZeroInxGenericStack.has_memory (direct_reallocated g.S.NonZeroInxGenericStack.kind c.args.self.now n).room) last memory)))

pub returns-in_err-make_room-clause-same_end : goal.returns-in_err-make_room-clause-same_end
returns-in_err-make_room-clause-same_end g c = on_ok_err _ _ (err_is _ _ c.from_residual.ensures.1) _

pub returns-in_err-make_room-clause-source_fits : goal.returns-in_err-make_room-clause-source_fits
returns-in_err-make_room-clause-source_fits g c =
    subst (λ n. n ≤ g.A.ArenaStates.capacity c.args.source.now) c.last_index.ensures.value c.last_index.ensures.fits

pub returns-in-Ok-clause-cloned : goal.returns-in-Ok-clause-cloned
returns-in-Ok-clause-cloned g c answer is =
    let ready = c.in_ok-make_room.ensures.done ∙ ap (direct_ready_for g.S.NonZeroInxGenericStack.kind c.args.self.now) c.last_index.ensures.value in
    let h = c.in-Ok.ensures in
    (h.0, on_all_copied _ _ _ _ _ answer _ is h.1, h.2 ∙ ap (λ s. direct_with_slots s h.0) ready)

pub returns-in-Ok-clause-refused : goal.returns-in-Ok-clause-refused
returns-in-Ok-clause-refused g c refused = absurd refused

pub returns-in-Ok-clause-short : goal.returns-in-Ok-clause-short
returns-in-Ok-clause-short g c refused = absurd refused

pub returns-in-Ok-clause-beyond : goal.returns-in-Ok-clause-beyond
returns-in-Ok-clause-beyond g c =
    not_beyond _ _ _ _ c.args.self.now.limit c.last_index.ensures.value c.last_index.ensures.indexed _ (λ refused. refused) _ c.in_ok-make_room.ensures.beyond

pub returns-in-Ok-clause-with_memory : goal.returns-in-Ok-clause-with_memory
returns-in-Ok-clause-with_memory g c allowed memory refused = refused

pub returns-in-Ok-clause-source_fits : goal.returns-in-Ok-clause-source_fits
returns-in-Ok-clause-source_fits g c =
    subst (λ n. n ≤ g.A.ArenaStates.capacity c.args.source.now) c.last_index.ensures.value c.last_index.ensures.fits

pub returns-in-Err-clause-refused : goal.returns-in-Err-clause-refused
returns-in-Err-clause-refused g c refused = absurd refused

pub returns-in-Err-clause-short : goal.returns-in-Err-clause-short
returns-in-Err-clause-short g c refused = absurd refused

pub returns-in-Err-clause-beyond : goal.returns-in-Err-clause-beyond
returns-in-Err-clause-beyond g c =
    not_beyond _ _ _ _ c.args.self.now.limit c.last_index.ensures.value c.last_index.ensures.indexed _ (λ refused. refused) _ c.in_ok-make_room.ensures.beyond

pub returns-in-Err-clause-with_memory : goal.returns-in-Err-clause-with_memory
returns-in-Err-clause-with_memory g c allowed memory refused = refused

pub returns-in-Err-clause-source_fits : goal.returns-in-Err-clause-source_fits
returns-in-Err-clause-source_fits g c =
    subst (λ n. n ≤ g.A.ArenaStates.capacity c.args.source.now) c.last_index.ensures.value c.last_index.ensures.fits
