use Rattle.std.proofs.Common.{of_calls, ◌≡◌, ◌∙◌, ◌+◌, ◌++◌, ◌∷◌, [], length, map, refl, sym, ap, arith}
use Rattle.std.proofs.lemmas.List.{length-map, map_push}
use Rattle.std.specs.Int.NonZero.{non_zero_usize_get}
use Rattle.triple_arena_traits.specs.Entries.{entry_count}
use Rattle.triple_arena_traits.specs.laws.WalkLaws.{taken}
use Rattle.triple_arena_traits.specs.laws.PointerListLaws.{pointer_is}
use Rattle.triple_arena_traits.proofs.TransferLemmas.{transfer_start, transfer_room, transfer_on, transfer_end}
use Rattle.triple_arena_traits.proofs.transferring.transfer_entries.Goals as goal

pub walk-init : goal.walk-init
walk-init g c =
    (c.requires.callable, refl, refl, transfer_start _ _ _ _ _ _ _ _ _ _ _ c.args.f c.args.source.now _ _ c.advancer-advancer.ensures (ap (map g.X.EntrySlot.entry) c.requires.empty))

pub unwrap-requires : goal.unwrap-requires
unwrap-requires g c =
    let d = c.in-Some.ensures.step in
    let items = g.S.NonZeroInxGenericStack.items c.walk.stack in
    let room = transfer_room _ _ _ _ _ _ _ _ _ _ _ c.args.f c.args.source.now c.walk.f c.walk.source _ _ _ _ _ d.0 c.walk.invariant.3 d.2 d.3 d.4 in
    c.try_from_usize.ensures.variant.1 (omega (arith, c.saturating_add-inx.ensures, c.len.ensures, room, length-map items g.X.EntrySlot.entry, c.requires.indexed))

pub push_reserved-requires : goal.push_reserved-requires
push_reserved-requires g c =
    let d = c.in-Some.ensures.step in
    let items = g.S.NonZeroInxGenericStack.items c.walk.stack in
    let room = transfer_room _ _ _ _ _ _ _ _ _ _ _ c.args.f c.args.source.now c.walk.f c.walk.source _ _ _ _ _ d.0 c.walk.invariant.3 d.2 d.3 d.4 in
    rw (c.walk.invariant.1, c.walk.invariant.2) (omega (arith, room, length-map items g.X.EntrySlot.entry, c.requires.fits))

pub walk-smaller : goal.walk-smaller
walk-smaller g c = (taken _ _ _ _ _ c.in-Some.ensures.step.2).fewer

pub walk-preserved : goal.walk-preserved
walk-preserved g c =
    let d = c.in-Some.ensures.step in
    let f = g.X.EntrySlot.entry in
    let items = g.S.NonZeroInxGenericStack.items c.walk.stack in
    let room = transfer_room _ _ _ _ _ _ _ _ _ _ _ c.args.f c.args.source.now c.walk.f c.walk.source _ _ _ _ _ d.0 c.walk.invariant.3 d.2 d.3 d.4 in
    let here : non_zero_usize_get c.saturating_add-inx.result ≡ length (map f items) + 1 = omega (arith, c.saturating_add-inx.ensures, c.len.ensures, room, length-map items f, c.requires.indexed) in
    let put = ap (map f) (g.met.S.NonZeroInxGenericStack.items_with_items _ _) ∙ map_push f items _ ∙ ap (λ y. map f items ++ y ∷ []) (ap f c.push_reserved.ensures.value ∙ c.holding.ensures) in
    let to = g.met.P.Ptr.numbers_of c._from_raw-to.result ∙ pointer_is _ _ _ _ (ap g.P.Inx.PtrInx.number c._from_raw-to.ensures.index ∙ rw c.unwrap.ensures at c.try_from_usize.ensures.number ∙ here) (ap g.P.Gen.PtrGen.number c._from_raw-to.ensures.generation) in (
      search of_calls,
      g.met.S.NonZeroInxGenericStack.room_with_items _ _ ∙ c.walk.invariant.1,
      g.met.S.NonZeroInxGenericStack.limit_with_items _ _ ∙ c.walk.invariant.2,
      transfer_on _ _ _ _ _ _ _ _ _ _ _ c.args.f c.args.source.now c.walk.f c.f-value.new.self c.walk.source c.take_next.new.arena _ _ (map f items) _ _ d.0 c._from_raw-to.result c.f-value.result c.walk.invariant.3 d.2 d.3 d.4
          (rw d.1 at c.f-value.ensures) to put,
    )

pub returns : goal.returns
returns g c =
    let d = c.in_default.ensures.step in
    let end = transfer_end _ _ _ _ _ _ _ _ _ _ _ c.args.f c.args.source.now c.walk.f c.walk.source _ _ _ c.walk.invariant.3 d.0 in
    record {
      transferred = rw d.1 end.0;
      emptied = ap (λ a. entry_count (g.A.ArenaStates.slots a)) d.1 ∙ end.1;
      count = sym (length-map (g.S.NonZeroInxGenericStack.items c.walk.stack) g.X.EntrySlot.entry) ∙ end.2;
      room = c.walk.invariant.1;
      limit = c.walk.invariant.2;
    }
