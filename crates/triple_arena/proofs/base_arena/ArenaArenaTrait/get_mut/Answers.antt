use Rattle.triple_arena_traits.proofs.SlotEntries.{none_of}
use Rattle.std.proofs.Common.{◌≡◌, ◌∙◌, IsSome, None, map, inl, sym, ap, subst, inr}
use Rattle.std.proofs.Math.Path.{fun_ext}
use Rattle.std.specs.Int.NonZero.{non_zero_usize_get}
use Rattle.triple_arena_traits.specs.Entries.{look_up}
use Rattle.triple_arena_traits.specs.ArenaState.{ArenaState, with_value}
use Rattle.triple_arena_slots.specs.Slot.{entry_of}
use Rattle.triple_arena_slots.specs.Layout.{entry_at}
use Rattle.triple_arena_traits.specs.laws.WellFormedLaws.{live_entry, value_read}
use Rattle.triple_arena_slots.proofs.Links.{lent}
use Rattle.triple_arena_traits.specs.laws.HistoryLaws.{Continues-written, found_as_given}
use Rattle.triple_arena.proofs.base_arena.ArenaArenaTrait.get_mut.Goals as goal

pub invariant_of-self-lent : goal.invariant_of-self-lent
invariant_of-self-lent g c w =
    let live = subst (λ n. IsSome (entry_at g.P.Gen.PtrGen.number (g.S.NonZeroInxGenericStack.items c.self.inside.slots.slots.stack) n)) (sym c.in_ok-inx.ensures.index) (live_entry (map (entry_of g.P.Gen.PtrGen.number) (g.S.NonZeroInxGenericStack.items c.self.inside.slots.slots.stack)) (g.P.Ptr.numbers c.args.p) (sym c.in_ok-inx.ensures.live)) in
    (lent g.P.Gen.PtrGen.number _ _ _ _ _ _ _ _ _ _ _ c.args.self.now (non_zero_usize_get c.in_ok-inx.inx) w c.self.invariant c.self.view_is live
    (g.met.S.NonZeroInxGenericStack.items_with_items _ _) (g.met.S.NonZeroInxGenericStack.room_with_items _ _) (g.met.S.NonZeroInxGenericStack.limit_with_items _ _)).0

pub returns : goal.returns
returns g c =
    let live = subst (λ n. IsSome (entry_at g.P.Gen.PtrGen.number (g.S.NonZeroInxGenericStack.items c.self.inside.slots.slots.stack) n)) (sym c.in_ok-inx.ensures.index) (live_entry (map (entry_of g.P.Gen.PtrGen.number) (g.S.NonZeroInxGenericStack.items c.self.inside.slots.slots.stack)) (g.P.Ptr.numbers c.args.p) (sym c.in_ok-inx.ensures.live)) in (
      ap (λ (F : g.row.T.Denot → ArenaState g.row.T.Denot). inl (c.uncounted_value_mut.result.ghost_name, F)) (fun_ext (λ w.
          (lent g.P.Gen.PtrGen.number _ _ _ _ _ _ _ _ _ _ _ c.args.self.now (non_zero_usize_get c.in_ok-inx.inx) w c.self.invariant c.self.view_is live
          (g.met.S.NonZeroInxGenericStack.items_with_items _ _) (g.met.S.NonZeroInxGenericStack.room_with_items _ _) (g.met.S.NonZeroInxGenericStack.limit_with_items _ _)).1
          ∙ ap (λ n. with_value c.args.self.now n w) c.in_ok-inx.ensures.index)),
      let value = sym (value_read c.args.self.now _ (g.P.Ptr.numbers c.args.p) (non_zero_usize_get c.in_ok-inx.inx) _ c.self.view_is c.in_ok-inx.ensures.index (sym c.in_ok-inx.ensures.live) c.uncounted_value_mut.ensures.value) in
          record {
            value = value;
            writes_back = tt;
            history = found_as_given c.args.self.now (g.P.Ptr.numbers c.args.p) _ value;
            written = Continues-written c.args.self.now (g.P.Ptr.numbers c.args.p).0;
          },
    )

pub returns-in_err-inx : goal.returns-in_err-inx
returns-in_err-inx g c =
    let none = sym (subst (λ (s : ArenaState g.row.T.Denot). look_up s.slots (g.P.Ptr.numbers c.args.p) ≡ None) c.self.view_is (none_of _ (sym c.in_err-inx.ensures.live))) in
    rw c.from_residual.ensures (
      ap inr c.self.view_is,
      record {
        value = none;
        writes_back = tt;
        history = found_as_given c.args.self.now (g.P.Ptr.numbers c.args.p) None none;
        written = Continues-written c.args.self.now (g.P.Ptr.numbers c.args.p).0;
      },
    )
