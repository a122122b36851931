use Rattle.std.proofs.Common.{◌∙◌, sym, ap, subst, arith}
use Rattle.std.specs.Int.NonZero.{non_zero_usize_get}
use Rattle.std.specs.Option.{option_map}
use Rattle.triple_arena_slots.specs.Layout.{Shows}
use Rattle.triple_arena_slots.proofs.Links.{root_head, root_indexed, index_of_number}
use Rattle.triple_arena.proofs.base_arena.Arena.freelist_root.Goals as goal

pub returns : goal.returns
returns g c =
    let shows = subst (Shows g.P.Gen.PtrGen.number _ _ _) c.self.view_is c.self.invariant in
    let root = ap (option_map non_zero_usize_get) (sym c.root.ensures ∙ c.in_ok-root.was) in
    index_of_number g.P.Inx.PtrInx.number _ _ _ c.try_from_usize.ensures.variant c.try_from_usize.ensures.number (omega (arith, root_indexed g.P.Gen.PtrGen.number _ _ _ _ c.args.self.now root shows, ap (λ s. s.greatest) c.self.view_is))
    ∙ sym (root_head g.P.Gen.PtrGen.number _ _ _ _ c.args.self.now root shows)
