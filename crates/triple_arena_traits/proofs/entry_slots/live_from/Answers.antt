use Rattle.std.proofs.Common.{◌≡◌, ◌∙◌, ◌+◌, ◌-◌, length, map, sym, ap, arith, inl, inr}
use Rattle.std.proofs.lemmas.Bool.{cases_eq, cases_lt}
use Rattle.std.specs.Int.NonZero.{non_zero_usize_get}
use Rattle.triple_arena_traits.specs.Entries.{entry_in}
use Rattle.triple_arena_traits.proofs.SlotEntries.{entry_here, none_of, none_past}
use Rattle.triple_arena_traits.proofs.entry_slots.live_from.Goals as goal

pub returns-then-is_live : goal.returns-then-is_live
returns-then-is_live g c =
    let here : non_zero_usize_get c.args.from ≡ (c.get-at.result - 1) + 1 = omega arith in
    let entry = entry_here g.X.EntrySlot.entry (g.S.NonZeroInxGenericStack.items c.args.stack.now) _ (c.get-at.result - 1) _ c.as_slice-slots.ensures c.if-at-slots.true c.index-slots-at.is in (
      rw (here, entry) (sym c.is_live.ensures ∙ c.if-is_live.true),
      omega arith,
      λ i from below. absurd (omega arith),
    )

pub returns-then-is_live-2 : goal.returns-then-is_live-2
returns-then-is_live-2 g c =
    let here : non_zero_usize_get c.saturating_add.result ≡ c.up.at + 1 = omega arith in
    let entry = entry_here g.X.EntrySlot.entry (g.S.NonZeroInxGenericStack.items c.args.stack.now) _ c.up.at _ c.as_slice-slots.ensures c.up-test.true c.index-slots-at-in-up.is in (
      rw (here, entry) (sym c.is_live-in-up.ensures ∙ c.if-is_live-2.true),
      omega (arith, c.up.invariant.0),
      λ i from below. c.up.invariant.1 i from (omega arith),
    )

pub up-preserved : goal.up-preserved
up-preserved g c =
    let entry = entry_here g.X.EntrySlot.entry (g.S.NonZeroInxGenericStack.items c.args.stack.now) _ c.up.at _ c.as_slice-slots.ensures c.up-test.true c.index-slots-at-in-up.is in (
      omega (arith, c.up.invariant.0),
      λ i from within. elim (cases_eq i (c.up.at + 1)) [
        | inl same ↦ ap (entry_in (map g.X.EntrySlot.entry (g.S.NonZeroInxGenericStack.items c.args.stack.now))) same ∙ entry ∙ none_of _ (sym c.is_live-in-up.ensures ∙ c.if-is_live-2.false)
        | inr other ↦ c.up.invariant.1 i from (omega arith)
      ],
    )

pub returns : goal.returns
returns g c i from =
    elim (cases_lt c.up.at i) [
      | inr within ↦ c.up.invariant.1 i from within
      | inl past ↦ none_past g.X.EntrySlot.entry (g.S.NonZeroInxGenericStack.items c.args.stack.now) i (omega (arith, past, c.up-test.false, ap length c.as_slice-slots.ensures))
    ]
