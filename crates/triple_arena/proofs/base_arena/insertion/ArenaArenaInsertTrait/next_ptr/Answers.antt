use Rattle.std.proofs.Common.{◌∙◌, ap, subst, arith}
use Rattle.std.specs.Int.NonZero.{non_zero_usize_get}
use Rattle.std.specs.Option.{option_map}
use Rattle.triple_arena_ptr.specs.Pointers.{Pointer}
use Rattle.triple_arena_traits.specs.ArenaState.{entry}
use Rattle.triple_arena_slots.specs.Layout.{Shows}
use Rattle.triple_arena_traits.specs.laws.WellFormedLaws.{place_within, place_free}
use Rattle.triple_arena_slots.proofs.Links.{one_more}
use Rattle.triple_arena_traits.specs.laws.PointerListLaws.{pointer_is}
use Rattle.triple_arena.proofs.base_arena.insertion.ArenaArenaInsertTrait.next_ptr.Goals as goal

pub place-inx-requires-after_bounds : goal.place-inx-requires-after_bounds
place-inx-requires-after_bounds g c κs within root =
    let shows = subst (Shows g.P.Gen.PtrGen.number _ _ _) c.self.view_is c.self.invariant in
    omega (arith, one_more g.P.Gen.PtrGen.number _ _ _ c.args.self.now (ap (option_map non_zero_usize_get) root) shows c.requires, ap (λ s. s.greatest) c.self.view_is)

pub unwrap-requires : goal.unwrap-requires
unwrap-requires g c =
    let shows = subst (Shows g.P.Gen.PtrGen.number _ _ _) c.self.view_is c.self.invariant in
    c.try_from_usize.ensures.variant.1 (omega (arith, c.place-inx.ensures c.args.self.now _ shows, place_within c.args.self.now shows.well c.requires, ap (λ s. s.greatest) c.self.view_is))

pub returns-clause-pointer : goal.returns-clause-pointer
returns-clause-pointer g c =
    let shows = subst (Shows g.P.Gen.PtrGen.number _ _ _) c.self.view_is c.self.invariant in
    g.met.P.Ptr.numbers_of c._from_raw.result
    ∙ pointer_is _ _ _ _ (ap g.P.Inx.PtrInx.number c._from_raw.ensures.index ∙ rw c.unwrap.ensures at c.try_from_usize.ensures.number ∙ c.place-inx.ensures c.args.self.now _ shows)
    (ap g.P.Gen.PtrGen.number c._from_raw.ensures.generation ∙ ap (λ s. s.counter) c.self.view_is)

pub returns-clause-free : goal.returns-clause-free
returns-clause-free g c =
    let shows = subst (Shows g.P.Gen.PtrGen.number _ _ _) c.self.view_is c.self.invariant in
    ap (λ (n : Pointer). entry c.args.self.now n.0) (g.met.P.Ptr.numbers_of c._from_raw.result)
    ∙ ap (entry c.args.self.now) (ap g.P.Inx.PtrInx.number c._from_raw.ensures.index ∙ rw c.unwrap.ensures at c.try_from_usize.ensures.number ∙ c.place-inx.ensures c.args.self.now _ shows) ∙ place_free c.args.self.now shows.well
