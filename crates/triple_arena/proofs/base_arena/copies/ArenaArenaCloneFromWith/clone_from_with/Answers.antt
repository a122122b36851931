use Rattle.std.proofs.Common.{◌≡◌, ◌<◌, ◌≤◌, ap, sym, subst, arith, true≢false}
use Rattle.triple_arena_stack.specs.Capacity.{IsWithin}
use Rattle.triple_arena_traits.specs.ArenaState.{ArenaState, capacity}
use Rattle.triple_arena_traits.specs.Reallocation.{reallocated}
use Rattle.triple_arena_traits.specs.Cloning.{IsCloneAnswer}
use Rattle.triple_arena_traits.specs.Entries.{entry_in}
use Rattle.triple_arena.specs.laws.TouchedLaws.{tidied_slots}
use Rattle.triple_arena_traits.proofs.CopyLemmas.{kept_end, copy_ends, no_answer}
use Rattle.triple_arena_traits.proofs.Refused.{err_is, on_ok_err}
use Rattle.triple_arena_traits.specs.laws.FreeListLaws.{trimmed_length}
use Rattle.triple_arena.proofs.Cloned.{counter_given, copy_laid_out, passed_on, no_refusal, beyond_room, not_beyond}
use Rattle.triple_arena_slots.proofs.Refused.{unrefused_end}
use Rattle.triple_arena.proofs.base_arena.copies.ArenaArenaCloneFromWith.clone_from_with.Goals as goal

pub returns-in_err-make_room-clause-fits : goal.returns-in_err-make_room-clause-fits
returns-in_err-make_room-clause-fits g c =
    let is = c.in_err-make_room.ensures.refused in
    let kept = kept_end _ _ (tidied_slots c.args.self.now c.make_room.new.self is) in
    let size : capacity c.make_room.new.self ≡ capacity c.args.self.now = ap capacity is.0 in
    omega (arith, kept, size, trimmed_length c.args.self.now.slots, c.in_err-make_room.ensures.fits)

pub returns-clause-same_end : goal.returns-clause-same_end
returns-clause-same_end g c =
    let h = c.hold_copies.ensures in
    unrefused_end _ _ c.args.map (g.A.ArenaStates.slots c.args.source.now) h.0 c.hold_copies.new.self.slots c.hold_copies.result c.map_err.result c.map_err.ensures.variant h.1 (λ i. ap (λ (s : ArenaState g.row.T.Denot). entry_in s.slots i) h.2.0)

pub returns-clause-fits : goal.returns-clause-fits
returns-clause-fits g c =
    let h = c.hold_copies.ensures in
    let ends = copy_ends _ _ c.args.map (g.A.ArenaStates.slots c.args.source.now) _ h.0 c.hold_copies.new.self.slots h.1 (λ i. ap (λ (s : ArenaState g.row.T.Denot). entry_in s.slots i) h.2.0) in
    let size : capacity c.hold_copies.new.self ≡ capacity c.make_room.new.self = ap capacity h.2.0 in
    omega (arith, ends, size, c.in_ok-make_room.ensures.place, c.last_index.ensures.value)

pub hold_copies-requires-clause-fits : goal.hold_copies-requires-clause-fits
hold_copies-requires-clause-fits g c κs within = subst (λ n. n ≤ capacity c.make_room.new.self) c.last_index.ensures.value c.in_ok-make_room.ensures.place

pub returns-in_err-make_room-clause-cloned : goal.returns-in_err-make_room-clause-cloned
returns-in_err-make_room-clause-cloned g c answer is =
    absurd (no_answer answer _ (subst (IsCloneAnswer answer) (err_is _ _ c.from_residual.ensures.1) is))

pub returns-in_err-make_room-clause-refused : goal.returns-in_err-make_room-clause-refused
returns-in_err-make_room-clause-refused g c refused = c.in_err-make_room.ensures.refused

pub returns-in_err-make_room-clause-short : goal.returns-in_err-make_room-clause-short
returns-in_err-make_room-clause-short g c refused =
    subst (λ n. capacity c.args.self.now < n) c.last_index.ensures.value c.in_err-make_room.ensures.short

pub returns-in_err-make_room-clause-beyond : goal.returns-in_err-make_room-clause-beyond
returns-in_err-make_room-clause-beyond g c =
    beyond_room _ _ _ _ c.args.self.now.limit c.last_index.ensures.value c.last_index.ensures.indexed _ _ (err_is _ _ c.from_residual.ensures.1) c.in_err-make_room.ensures.beyond

pub returns-in_err-make_room-clause-with_memory : goal.returns-in_err-make_room-clause-with_memory
returns-in_err-make_room-clause-with_memory g c allowed memory refused =
    let last = sym c.last_index.ensures.value in
    true≢false (sym (c.in_err-make_room.ensures.with_memory c.last_index.ensures.indexed (subst (IsWithin c.args.self.now.limit) last allowed)
    (subst (λ n. g.S.NonZeroInxGenericStack.has_memory (reallocated g.S.NonZeroInxGenericStack.kind c.args.self.now n).room) last memory)))

pub returns-in_err-make_room-clause-same_end : goal.returns-in_err-make_room-clause-same_end
returns-in_err-make_room-clause-same_end g c = on_ok_err _ _ (err_is _ _ c.from_residual.ensures.1) _

pub returns-in_err-make_room-clause-source_fits : goal.returns-in_err-make_room-clause-source_fits
returns-in_err-make_room-clause-source_fits g c =
    subst (λ n. n ≤ g.A.ArenaStates.capacity c.args.source.now) c.last_index.ensures.value c.last_index.ensures.fits

pub returns-clause-cloned : goal.returns-clause-cloned
returns-clause-cloned g c answer is =
    let h = c.hold_copies.ensures in (
      h.0,
      passed_on _ _ _ _ _ answer c.hold_copies.result _ c.map_err.ensures.cases is h.1,
      copy_laid_out g.S.NonZeroInxGenericStack.kind c.args.self.now _ _ _ _ h.0 _ _ h.2 c.in_ok-make_room.ensures.done c.last_index.ensures.value
          (counter_given g.P.Gen.PtrGen.number _ _ _ _ _ c.unwrap_or-counter.ensures c.singular_generation.ensures c.two.ensures),
    )

pub returns-clause-refused : goal.returns-clause-refused
returns-clause-refused g c refused = absurd (no_refusal c.hold_copies.result _ c.map_err.ensures.cases refused)

pub returns-clause-short : goal.returns-clause-short
returns-clause-short g c refused = absurd (no_refusal c.hold_copies.result _ c.map_err.ensures.cases refused)

pub returns-clause-beyond : goal.returns-clause-beyond
returns-clause-beyond g c =
    not_beyond _ _ _ _ c.args.self.now.limit c.last_index.ensures.value c.last_index.ensures.indexed _ c.hold_copies.result _ c.map_err.ensures.cases c.in_ok-make_room.ensures.beyond

pub returns-clause-with_memory : goal.returns-clause-with_memory
returns-clause-with_memory g c allowed memory refused = no_refusal c.hold_copies.result _ c.map_err.ensures.cases refused

pub returns-clause-source_fits : goal.returns-clause-source_fits
returns-clause-source_fits g c =
    subst (λ n. n ≤ g.A.ArenaStates.capacity c.args.source.now) c.last_index.ensures.value c.last_index.ensures.fits
