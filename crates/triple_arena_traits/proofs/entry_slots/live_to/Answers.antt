use Rattle.std.proofs.Common.{◌≡◌, ◌∙◌, ◌+◌, ◌-◌, ◌<◌, length, map, sym, ap, arith, inl, inr}
use Rattle.std.proofs.lemmas.Bool.{cases_eq}
use Rattle.std.specs.Int.NonZero.{non_zero_usize_get}
use Rattle.triple_arena_traits.specs.Entries.{entry_in}
use Rattle.triple_arena_traits.proofs.SlotEntries.{entry_here, none_of, none_at, none_past}
use Rattle.triple_arena_traits.proofs.entry_slots.live_to.Goals as goal

pub returns-then-is_live : goal.returns-then-is_live
returns-then-is_live g c =
    let here : non_zero_usize_get c.saturating_add.result ≡ c.down.at - 1 + 1 = omega (arith, c.down-test.true) in
    let within : c.down.at - 1 < length c.as_slice-slots.result.now = omega (arith, c.down-test.true, c.down.invariant.0, ap length c.as_slice-slots.ensures) in
    let entry = entry_here g.X.EntrySlot.entry (g.S.NonZeroInxGenericStack.items c.args.stack.now) c.as_slice-slots.result.now (c.down.at - 1) _ c.as_slice-slots.ensures within c.index-slots-at.is in (
      rw (here, entry) (sym c.is_live.ensures ∙ c.if-is_live.true),
      omega (arith, c.down.invariant.1, c.down-test.true),
      λ i to above. c.down.invariant.2 i to (omega (arith, c.down-test.true)),
    )

pub down-preserved : goal.down-preserved
down-preserved g c =
    let within : c.down.at - 1 < length c.as_slice-slots.result.now = omega (arith, c.down-test.true, c.down.invariant.0, ap length c.as_slice-slots.ensures) in
    let entry = entry_here g.X.EntrySlot.entry (g.S.NonZeroInxGenericStack.items c.args.stack.now) c.as_slice-slots.result.now (c.down.at - 1) _ c.as_slice-slots.ensures within c.index-slots-at.is in
    let at : c.down.at - 1 + 1 ≡ c.down.at = omega (arith, c.down-test.true) in (
      omega (arith, c.down.invariant.0),
      omega (arith, c.down.invariant.1),
      λ i to above. elim (cases_eq i c.down.at) [
        | inl same ↦ ap (entry_in (map g.X.EntrySlot.entry (g.S.NonZeroInxGenericStack.items c.args.stack.now))) (same ∙ sym at) ∙ entry ∙ none_of _ (sym c.is_live.ensures ∙ c.if-is_live.false)
        | inr other ↦ c.down.invariant.2 i to (omega (arith, c.down-test.true))
      ],
    )

pub down-init : goal.down-init
down-init g c = (
  omega (arith, ap length c.as_slice-slots.ensures),
  omega arith,
  λ i to above. none_past g.X.EntrySlot.entry (g.S.NonZeroInxGenericStack.items c.args.stack.now) i (omega (arith, above, to, ap length c.as_slice-slots.ensures)),
)

pub returns : goal.returns
returns g c i to = none_at g.X.EntrySlot.entry (g.S.NonZeroInxGenericStack.items c.args.stack.now) i (λ positive within. c.down.invariant.2 i to (omega (arith, c.down-test.false, positive)))
