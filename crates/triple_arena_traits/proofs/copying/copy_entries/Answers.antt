use Rattle.std.proofs.Common.{of_calls, ◌≡◌, ◌∙◌, ◌+◌, ℕ, map, refl, sym, ap, arith}
use Rattle.std.proofs.lemmas.List.{length-map}
use Rattle.std.specs.Option.{option_copied}
use Rattle.std.specs.Int.NonZero.{non_zero_usize_get}
use Rattle.triple_arena_traits.specs.Entries.{entry_count}
use Rattle.triple_arena_traits.specs.laws.WalkLaws.{taken}
use Rattle.triple_arena_traits.specs.Copying.{put_after}
use Rattle.triple_arena_traits.specs.laws.PointerListLaws.{pointer_is}
use Rattle.triple_arena_traits.proofs.Listing.{count_within}
use Rattle.triple_arena_traits.proofs.CopyLemmas.{copy_start, count-put_after, next_of, copy_on, copy_refused, copy_end, shared_some, some_within}
use Rattle.triple_arena_traits.proofs.copying.copy_entries.Goals as goal

pub walk-init : goal.walk-init
walk-init g c = (
  c.requires.callable,
  refl,
  refl,
  copy_start _ _ c.args.f _ _ _ (ap (map g.X.EntrySlot.entry) c.requires.empty) c.advancer-advancer.ensures,
  sym (ap (λ items. entry_count (map g.X.EntrySlot.entry items)) c.requires.empty),
)

pub unwrap-requires : goal.unwrap-requires
unwrap-requires g c =
    let steps = rw c.in-Some.is at (g.met.A.CompactArenaTrait.advanced _ _ _ _ c.advance.ensures.steps) in
    let n = next_of _ _ _ c.args.f _ _ _ _ _ _ c.walk.invariant.3 steps in
    shared_some c.get.result n.value (c.get.ensures.value ∙ n.found)

pub returns-in-Err-clause-copied : goal.returns-in-Err-clause-copied
returns-in-Err-clause-copied g c =
    let steps = rw c.in-Some.is at (g.met.A.CompactArenaTrait.advanced _ _ _ _ c.advance.ensures.steps) in
    copy_refused _ _ _ c.args.f _ c.in-Some.p _ _ c.walk.f c.f.new.self _ c.unwrap.result c.in-Err.refusal c.walk.invariant.3 steps (sym c.get.ensures.value ∙ ap option_copied c.unwrap.ensures) (rw c.in-Err.is at c.f.ensures)

pub returns-in-Err-clause-count : goal.returns-in-Err-clause-count
returns-in-Err-clause-count g c = c.walk.invariant.4

pub returns-in-Err-clause-ends : goal.returns-in-Err-clause-ends
returns-in-Err-clause-ends g c = omega (arith, c.walk.invariant.3.ends, length-map (g.S.NonZeroInxGenericStack.items c.walk.stack) g.X.EntrySlot.entry)

pub unwrap-inx-requires : goal.unwrap-inx-requires
unwrap-inx-requires g c =
    let steps = rw c.in-Some.is at (g.met.A.CompactArenaTrait.advanced _ _ _ _ c.advance.ensures.steps) in
    let n = next_of _ _ _ c.args.f _ _ _ _ _ _ c.walk.invariant.3 steps in
    some_within (λ n. non_zero_usize_get n ≡ g.P.Inx.PtrInx.number c.inx.result) c.try_into_usize.result _ _ c.try_into_usize.ensures.number (omega (arith, ap g.P.Inx.PtrInx.number c.inx.ensures, ap (λ (q : ℕ × ℕ). q.0) (g.met.P.Ptr.numbers_of c.in-Some.p), n.inside, c.capacity-capacity.ensures.fits, c.capacity-capacity.ensures.indexed))

pub push_at-requires-clause-within : goal.push_at-requires-clause-within
push_at-requires-clause-within g c κs within =
    let here : non_zero_usize_get c.unwrap-inx.result ≡ g.P.Inx.PtrInx.number (g.P.Ptr.index_of c.in-Some.p) = rw c.unwrap-inx.ensures at c.try_into_usize.ensures.number ∙ ap g.P.Inx.PtrInx.number c.inx.ensures in
    let steps = rw c.in-Some.is at (g.met.A.CompactArenaTrait.advanced _ _ _ _ c.advance.ensures.steps) in
    let n = next_of _ _ _ c.args.f _ _ _ _ _ _ c.walk.invariant.3 steps in
    rw (c.walk.invariant.1, c.walk.invariant.2) (omega (arith, here, ap (λ (q : ℕ × ℕ). q.0) (g.met.P.Ptr.numbers_of c.in-Some.p), n.within, c.requires.fits))

pub push_at-requires-clause-past : goal.push_at-requires-clause-past
push_at-requires-clause-past g c κs within =
    let here : non_zero_usize_get c.unwrap-inx.result ≡ g.P.Inx.PtrInx.number (g.P.Ptr.index_of c.in-Some.p) = rw c.unwrap-inx.ensures at c.try_into_usize.ensures.number ∙ ap g.P.Inx.PtrInx.number c.inx.ensures in
    let steps = rw c.in-Some.is at (g.met.A.CompactArenaTrait.advanced _ _ _ _ c.advance.ensures.steps) in
    let n = next_of _ _ _ c.args.f _ _ _ _ _ _ c.walk.invariant.3 steps in
    omega (arith, here, ap (λ (q : ℕ × ℕ). q.0) (g.met.P.Ptr.numbers_of c.in-Some.p), n.past, length-map (g.S.NonZeroInxGenericStack.items c.walk.stack) g.X.EntrySlot.entry)

pub walk-smaller : goal.walk-smaller
walk-smaller g c = (taken _ _ _ _ _ (rw c.in-Some.is at (g.met.A.CompactArenaTrait.advanced _ _ _ _ c.advance.ensures.steps))).fewer

-- an entry is put past the slots, so that there are fewer entries than its index
pub overflow_add-count : goal.overflow_add-count
overflow_add-count g c =
    let steps = rw c.in-Some.is at (g.met.A.CompactArenaTrait.advanced _ _ _ _ c.advance.ensures.steps) in
    let n = next_of _ _ _ c.args.f _ _ _ _ _ _ c.walk.invariant.3 steps in
    omega (arith, c.walk.invariant.4, count_within (map g.X.EntrySlot.entry (g.S.NonZeroInxGenericStack.items c.walk.stack)), n.past, n.inside, c.capacity-capacity.ensures.fits)

pub walk-preserved : goal.walk-preserved
walk-preserved g c =
    let here : non_zero_usize_get c.unwrap-inx.result ≡ g.P.Inx.PtrInx.number (g.P.Ptr.index_of c.in-Some.p) = rw c.unwrap-inx.ensures at c.try_into_usize.ensures.number ∙ ap g.P.Inx.PtrInx.number c.inx.ensures in
    let pointer = pointer_is _ _ _ _ here (ap g.P.Gen.PtrGen.number c.generation.ensures) ∙ sym (g.met.P.Ptr.numbers_of c.in-Some.p) in
    let steps = rw c.in-Some.is at (g.met.A.CompactArenaTrait.advanced _ _ _ _ c.advance.ensures.steps) in
    let n = next_of _ _ _ c.args.f _ _ _ _ _ _ c.walk.invariant.3 steps in
    let put = c.push_at.ensures.slots ∙ ap (λ q. put_after (map g.X.EntrySlot.entry (g.S.NonZeroInxGenericStack.items c.walk.stack)) q c.in-Ok.value) pointer in (
      search of_calls,
      c.push_at.ensures.room ∙ c.walk.invariant.1,
      c.push_at.ensures.limit ∙ c.walk.invariant.2,
      copy_on _ _ _ c.args.f _ c.in-Some.p _ _ c.walk.f c.f.new.self _ _ c.unwrap.result c.in-Ok.value c.walk.invariant.3 steps (sym c.get.ensures.value ∙ ap option_copied c.unwrap.ensures) (rw c.in-Ok.is at c.f.ensures) put,
      ap (λ n. n + 1) c.walk.invariant.4 ∙ sym (ap entry_count put ∙ count-put_after _ (g.P.Ptr.numbers c.in-Some.p) c.in-Ok.value n.past),
    )

pub returns-clause-copied : goal.returns-clause-copied
returns-clause-copied g c =
    copy_end _ _ _ c.args.f _ _ _ _ _ c.walk.invariant.3 (rw c.in_default.is at (g.met.A.CompactArenaTrait.advanced _ _ _ _ c.advance.ensures.steps))

pub returns-clause-count : goal.returns-clause-count
returns-clause-count g c = c.walk.invariant.4

pub returns-clause-ends : goal.returns-clause-ends
returns-clause-ends g c = omega (arith, c.walk.invariant.3.ends, length-map (g.S.NonZeroInxGenericStack.items c.walk.stack) g.X.EntrySlot.entry)
