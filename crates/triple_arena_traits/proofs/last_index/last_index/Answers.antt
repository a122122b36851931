use Rattle.std.proofs.Common.{◌≡◌, ◌∙◌, ℕ, IsSome, length, refl, sym, ap, arith}
use Rattle.std.specs.Int.NonZero.{non_zero_usize_get}
use Rattle.triple_arena_traits.specs.Entries.{entry_in}
use Rattle.triple_arena_traits.specs.FreeList.{trimmed}
use Rattle.triple_arena_traits.specs.laws.WalkLaws.{found, live_within}
use Rattle.triple_arena_traits.proofs.CopyLemmas.{none_of_none, some_within}
use Rattle.triple_arena_traits.specs.laws.FreeListLaws.{trimmed_length}
use Rattle.triple_arena_traits.proofs.FreeEnd.{end_is, end_none}
use Rattle.triple_arena_traits.proofs.last_index.last_index.Goals as goal

pub unwrap-requires : goal.unwrap-requires
unwrap-requires g c =
    let slots = g.A.ArenaStates.slots c.args.arena.now in
    let p = g.P.Ptr.numbers c.in-Some.p in
    let last = rw c.in-Some.is at c.find_last_inx_ptr.ensures in
    let live : IsSome (entry_in slots p.0) = rw (found slots p last.live).entry refl in
    let here = ap g.P.Inx.PtrInx.number c.inx.ensures ∙ sym (ap (λ (q : ℕ × ℕ). q.0) (g.met.P.Ptr.numbers_of c.in-Some.p)) in
    some_within _ c.try_into_usize.result _ _ c.try_into_usize.ensures.number (omega (arith, here, (live_within slots p.0 live).1, c.capacity-capacity.ensures.fits, c.capacity-capacity.ensures.indexed))

pub returns-in-Some : goal.returns-in-Some
returns-in-Some g c =
    let slots = g.A.ArenaStates.slots c.args.arena.now in
    let p = g.P.Ptr.numbers c.in-Some.p in
    let last = rw c.in-Some.is at c.find_last_inx_ptr.ensures in
    let live : IsSome (entry_in slots p.0) = rw (found slots p last.live).entry refl in
    let here : non_zero_usize_get c.unwrap.result ≡ p.0 = rw c.unwrap.ensures at c.try_into_usize.ensures.number ∙ ap g.P.Inx.PtrInx.number c.inx.ensures ∙ sym (ap (λ (q : ℕ × ℕ). q.0) (g.met.P.Ptr.numbers_of c.in-Some.p)) in
    let value : c.get.result ≡ length (trimmed slots) = c.get.ensures.value ∙ here ∙ end_is slots p.0 live last.none_above in
    record {
      value = value;
      indexed = omega (arith, value, trimmed_length slots, c.capacity-capacity.ensures.fits, c.capacity-capacity.ensures.indexed);
      fits = omega (arith, value, trimmed_length slots, c.capacity-capacity.ensures.fits, c.capacity-capacity.ensures.value);
    }

pub returns-in-None : goal.returns-in-None
returns-in-None g c =
    let slots = g.A.ArenaStates.slots c.args.arena.now in
    record { value = end_none slots (λ i. none_of_none slots i (rw c.in-None.is at c.find_last_inx_ptr.ensures)); indexed = omega arith; fits = omega arith }
