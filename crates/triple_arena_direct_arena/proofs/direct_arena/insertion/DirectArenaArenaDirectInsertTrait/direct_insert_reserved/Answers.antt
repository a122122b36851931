use Rattle.std.proofs.Common.{◌≡◌, ◌∙◌, ◌<◌, ℕ, sym, ap, subst, arith}
use Rattle.std.specs.Int.NonZero.{non_zero_usize_get}
use Rattle.triple_arena_ptr.specs.Pointers.{Pointer}
use Rattle.triple_arena_traits.proofs.CopyLemmas.{some_within}
use Rattle.triple_arena_traits.specs.laws.PointerListLaws.{pointer_is}
use Rattle.triple_arena_direct_arena.specs.DirectState.{inserted_at, direct_capacity}
use Rattle.triple_arena_traits.specs.DirectInsertion.{IsVacant}
use Rattle.triple_arena_direct_arena.proofs.Held.{found_inserted_at, others_inserted_at}
use Rattle.triple_arena_direct_arena.proofs.direct_arena.insertion.DirectArenaArenaDirectInsertTrait.direct_insert_reserved.Goals as goal

pub unwrap-inx-requires : goal.unwrap-inx-requires
unwrap-inx-requires g c =
    some_within (λ n. non_zero_usize_get n ≡ g.P.Inx.PtrInx.number c.inx.result) c.try_into_usize.result _ _ c.try_into_usize.ensures.number (omega (arith, ap g.P.Inx.PtrInx.number c.inx.ensures, ap (λ (q : ℕ × ℕ). q.0) (g.met.P.Ptr.numbers_of c.args.p), c.requires.within, c.capacity-capacity.ensures.value, c.capacity-capacity.ensures.indexed))

pub returns-clause-found : goal.returns-clause-found
returns-clause-found g c =
    let p : Pointer = g.P.Ptr.numbers c.args.p in
    let here : non_zero_usize_get c.unwrap-inx.result ≡ g.P.Inx.PtrInx.number (g.P.Ptr.index_of c.args.p) = rw c.unwrap-inx.ensures at c.try_into_usize.ensures.number ∙ ap g.P.Inx.PtrInx.number c.inx.ensures in
    let pointer = pointer_is _ _ _ _ here (ap g.P.Gen.PtrGen.number c.generation.ensures) ∙ sym (g.met.P.Ptr.numbers_of c.args.p) in
    let positive : 0 < p.0 = omega (arith, c.unwrap-inx.result.ok, ap (λ (q : ℕ × ℕ). q.0) pointer) in
    found_inserted_at c.args.self.now c.put.new.self p c.args.t positive (c.put.ensures ∙ ap (λ q. inserted_at c.args.self.now q c.args.t) pointer)

pub returns-clause-others : goal.returns-clause-others
returns-clause-others g c =
    let p : Pointer = g.P.Ptr.numbers c.args.p in
    let here : non_zero_usize_get c.unwrap-inx.result ≡ g.P.Inx.PtrInx.number (g.P.Ptr.index_of c.args.p) = rw c.unwrap-inx.ensures at c.try_into_usize.ensures.number ∙ ap g.P.Inx.PtrInx.number c.inx.ensures in
    let pointer = pointer_is _ _ _ _ here (ap g.P.Gen.PtrGen.number c.generation.ensures) ∙ sym (g.met.P.Ptr.numbers_of c.args.p) in
    let positive : 0 < p.0 = omega (arith, c.unwrap-inx.result.ok, ap (λ (q : ℕ × ℕ). q.0) pointer) in
    others_inserted_at c.args.self.now c.put.new.self p c.args.t positive c.requires.free (c.put.ensures ∙ ap (λ q. inserted_at c.args.self.now q c.args.t) pointer)

pub put-requires-after_bounds : goal.put-requires-after_bounds
put-requires-after_bounds g c κs within =
    let here : non_zero_usize_get c.unwrap-inx.result ≡ g.P.Inx.PtrInx.number (g.P.Ptr.index_of c.args.p) = rw c.unwrap-inx.ensures at c.try_into_usize.ensures.number ∙ ap g.P.Inx.PtrInx.number c.inx.ensures in
    subst (IsVacant c.args.self.now.slots (direct_capacity c.args.self.now)) (ap (λ (q : Pointer). q.0) (g.met.P.Ptr.numbers_of c.args.p) ∙ sym here) c.requires

pub returns-clause-inserted : goal.returns-clause-inserted
returns-clause-inserted g c =
    let here : non_zero_usize_get c.unwrap-inx.result ≡ g.P.Inx.PtrInx.number (g.P.Ptr.index_of c.args.p) = rw c.unwrap-inx.ensures at c.try_into_usize.ensures.number ∙ ap g.P.Inx.PtrInx.number c.inx.ensures in
    let pointer = pointer_is _ _ _ _ here (ap g.P.Gen.PtrGen.number c.generation.ensures) ∙ sym (g.met.P.Ptr.numbers_of c.args.p) in
    c.put.ensures ∙ ap (λ q. inserted_at c.args.self.now q c.args.t) pointer

pub returns-clause-limit : goal.returns-clause-limit
returns-clause-limit g c = ap (λ s. s.limit) c.put.ensures

pub returns-clause-capacity : goal.returns-clause-capacity
returns-clause-capacity g c = ap direct_capacity c.put.ensures
