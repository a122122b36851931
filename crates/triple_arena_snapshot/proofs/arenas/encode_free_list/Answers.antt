use Rattle.std.proofs.Common.{◌≡◌, ◌<◌, ◌^◌, length, slice_get, sym, ap, arith, subst}
use Rattle.std.proofs.lemmas.List.{length-map}
use Rattle.std.proofs.lemmas.Result.{on_ok_weaker}
use Rattle.std.specs.Int.NonZero.{non_zero_usize_get}
use Rattle.std.specs.List.{AllByRecursion}
use Rattle.std.specs.Option.{option_map}
use Rattle.triple_arena_slots.specs.Slot.{entry_of}
use Rattle.triple_arena_slots.specs.Layout.{IsLinked}
use Rattle.triple_arena_snapshot.specs.ArenaLayouts.{index}
use Rattle.triple_arena_snapshot.proofs.ArenaParts.{free_chain, free_written}
use Rattle.triple_arena_snapshot.proofs.arenas.encode_free_list.Goals as goal

pub returns-clause-written : goal.returns-clause-written
returns-clause-written g c =
    let items = g.S.NonZeroInxGenericStack.items c.backing.result.now in
    let free = c.args.arena.now.free in
    let many : c.saturating_sub-count.result ≡ length free = omega (arith, c.saturating_sub-count.ensures, ap length c.as_slice-slots.ensures, c.len.ensures.value, c.len.ensures.well_formed.total, length-map items (entry_of g.P.Gen.PtrGen.number), ap length c.backing.ensures.slots) in
    let linked = subst (λ es. IsLinked es (slice_get free 0) free) (sym c.as_slice-slots.ensures) c.backing.ensures.links in
    free_written c.encode_links.result c.args.out.now.items c.encode.new.out.items c.encode_links.new.out.items c.as_slice-slots.result.now c.saturating_sub-count.result (option_map non_zero_usize_get c.first_free.result) free many c.first_free.ensures linked c.in_ok-encode.ensures.written c.encode_links.ensures.written

pub returns-clause-fits : goal.returns-clause-fits
returns-clause-fits g c =
    let items = g.S.NonZeroInxGenericStack.items c.backing.result.now in
    let free = c.args.arena.now.free in
    let many : c.saturating_sub-count.result ≡ length free = omega (arith, c.saturating_sub-count.ensures, ap length c.as_slice-slots.ensures, c.len.ensures.value, c.len.ensures.well_formed.total, length-map items (entry_of g.P.Gen.PtrGen.number), ap length c.backing.ensures.slots) in
    let linked = subst (λ es. IsLinked es (slice_get free 0) free) (sym c.as_slice-slots.ensures) c.backing.ensures.links in
    let is = free_chain c.as_slice-slots.result.now c.saturating_sub-count.result (option_map non_zero_usize_get c.first_free.result) free many c.first_free.ensures linked in
    let small : length free < 2 ^ 64 = omega (arith, sym many, c.in_ok-encode.ensures.fits) in
    on_ok_weaker c.encode_links.result (λ all. (small, subst (AllByRecursion index.fits) is all)) c.encode_links.ensures.fits
