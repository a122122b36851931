use Rattle.std.proofs.Common.{◌≡◌, ◌∙◌, ◌-◌, ◌++◌, ◌∷◌, [], length, map, replicate, None, Some, ap, arith, append_assoc}
use Rattle.std.proofs.lemmas.List.{map_push}
use Rattle.std.specs.Int.NonZero.{non_zero_usize_get}
use Rattle.triple_arena_traits.proofs.copying.push_at.Goals as goal

pub returns-clause-slots : goal.returns-clause-slots
returns-clause-slots g c =
    let f = g.X.EntrySlot.entry in
    let old = g.S.NonZeroInxGenericStack.items c.args.stack.now in
    let items = g.S.NonZeroInxGenericStack.items c.extend.new.stack in
    let n = non_zero_usize_get c.args.inx in
    let k : c.get.result - 1 - length (map f old) ≡ n - 1 - length (map f old) = omega (arith, c.get.ensures.value) in
    ap (map f) (g.met.S.NonZeroInxGenericStack.items_with_items _ _)
    ∙ map_push f items _
    ∙ ap (λ l. l ++ f c.push_reserved.result.1.now ∷ []) c.extend.ensures.slots
    ∙ append_assoc (map f old) (replicate (c.get.result - 1 - length (map f old)) None) (f c.push_reserved.result.1.now ∷ [])
    ∙ ap (λ y. map f old ++ (replicate (c.get.result - 1 - length (map f old)) None ++ y ∷ [])) (ap f c.push_reserved.ensures.value ∙ c.holding.ensures)
    ∙ ap (λ m. map f old ++ (replicate m None ++ Some (g.P.Gen.PtrGen.number c.args.generation, c.args.value) ∷ [])) k
