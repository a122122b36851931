use Rattle.std.proofs.Common.{◌≡◌, ◌∙◌, Some, refl, sym, ap}
use Rattle.std.specs.Option.{option_map}
use Rattle.triple_arena_ptr.specs.Pointers.{is_same}
use Rattle.triple_arena_traits.specs.laws.PointerListLaws.{same_is}
use Rattle.triple_arena_commands.proofs.name_table.NameTable.has_at.Goals as goal

pub returns-in-Some : goal.returns-in-Some
returns-in-Some g c =
    let q = c.in-Some.q in
    let p = c.args.p in
    let same : g.P.PartialEq.eq q p ≡ is_same (g.P.Ptr.numbers q) (g.P.Ptr.numbers p) =
    rw (g.met.P.Ptr.numbers_of q, g.met.P.Ptr.numbers_of p, g.met.P.Ptr.equates q p, g.met.P.Inx.PtrInx.equates (g.P.Ptr.index_of q) (g.P.Ptr.index_of p), g.met.P.Gen.PtrGen.equates (g.P.Ptr.generation_of q) (g.P.Ptr.generation_of p)) refl in
    λ holds. ap (option_map g.P.Ptr.numbers) (sym c.in-Some.ensures) ∙ ap Some (same_is _ _ (sym same ∙ sym c.eq.ensures ∙ holds))
