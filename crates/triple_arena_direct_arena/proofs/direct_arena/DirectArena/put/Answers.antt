use Rattle.std.proofs.Common.{◌∙◌, Some, ap, subst, arith}
use Rattle.std.specs.Int.NonZero.{non_zero_usize_get}
use Rattle.triple_arena_traits.specs.Items.{with_item}
use Rattle.triple_arena_traits.specs.FreeEnd.{extended}
use Rattle.triple_arena_direct_arena.specs.DirectState.{inserted_at}
use Rattle.triple_arena_direct_arena.specs.DirectLayout.{Counts}
use Rattle.triple_arena_direct_arena.proofs.Held.{made, Counts-inserted_at, counted_within}
use Rattle.triple_arena_direct_arena.proofs.direct_arena.DirectArena.put.Goals as goal

pub overflow_add-self : goal.overflow_add-self
overflow_add-self g c =
    let counts = Counts-inserted_at _ c.args.self.now (non_zero_usize_get c.args.inx, g.P.Gen.PtrGen.number c.args.generation) c.args.value c.args.inx.ok c.requires (subst (Counts _) c.self.view_is c.self.invariant) in
    omega (arith, counted_within _ _ counts, ap (λ s. s.greatest) c.self.view_is)

pub invariant_of-self : goal.invariant_of-self
invariant_of-self g c =
    let i = non_zero_usize_get c.args.inx in
    let e = Some (g.P.Gen.PtrGen.number c.args.generation, c.args.value) in
    (made g.P.Gen.PtrGen.number _ _ _ _ _ (inserted_at c.args.self.now (i, g.P.Gen.PtrGen.number c.args.generation) c.args.value)
    (c.occupy.ensures.slots ∙ ap (λ s. with_item (extended s.slots i) i e) c.self.view_is)
    (c.occupy.ensures.room ∙ ap (λ s. s.room) c.self.view_is)
    (c.occupy.ensures.limit ∙ ap (λ s. s.limit) c.self.view_is)
    (ap (λ s. s.greatest) c.self.view_is)
    (Counts-inserted_at _ c.args.self.now (i, g.P.Gen.PtrGen.number c.args.generation) c.args.value c.args.inx.ok c.requires (subst (Counts _) c.self.view_is c.self.invariant))).0

pub returns : goal.returns
returns g c =
    let i = non_zero_usize_get c.args.inx in
    let e = Some (g.P.Gen.PtrGen.number c.args.generation, c.args.value) in
    (made g.P.Gen.PtrGen.number _ _ _ _ _ (inserted_at c.args.self.now (i, g.P.Gen.PtrGen.number c.args.generation) c.args.value)
    (c.occupy.ensures.slots ∙ ap (λ s. with_item (extended s.slots i) i e) c.self.view_is)
    (c.occupy.ensures.room ∙ ap (λ s. s.room) c.self.view_is)
    (c.occupy.ensures.limit ∙ ap (λ s. s.limit) c.self.view_is)
    (ap (λ s. s.greatest) c.self.view_is)
    (Counts-inserted_at _ c.args.self.now (i, g.P.Gen.PtrGen.number c.args.generation) c.args.value c.args.inx.ok c.requires (subst (Counts _) c.self.view_is c.self.invariant))).1
