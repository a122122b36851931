use Rattle.std.proofs.Common.{◌≡◌, ◌∙◌, IsSome, None, inl, inr, sym, ap, subst}
use Rattle.std.specs.Option.{option_map}
use Rattle.triple_arena_traits.proofs.SlotEntries.{none_of}
use Rattle.std.proofs.Math.Path.{fun_ext}
use Rattle.std.specs.Int.NonZero.{non_zero_usize_get}
use Rattle.triple_arena_traits.specs.ArenaState.{ArenaState, entry, with_value}
use Rattle.triple_arena_slots.specs.Layout.{entry_at}
use Rattle.triple_arena_traits.specs.laws.WellFormedLaws.{entry_value_read}
use Rattle.triple_arena_slots.proofs.Links.{lent}
use Rattle.triple_arena_traits.specs.laws.HistoryLaws.{Continues-written}
use Rattle.triple_arena.proofs.base_arena.ArenaArenaTrait.get_inx_mut.Goals as goal

pub invariant_of-self-lent : goal.invariant_of-self-lent
invariant_of-self-lent g c w =
    let live = subst (λ n. IsSome (entry_at g.P.Gen.PtrGen.number (g.S.NonZeroInxGenericStack.items c.self.inside.slots.slots.stack) n)) (sym c.in_ok-inx.ensures.index) (sym c.in_ok-inx.ensures.live) in
    (lent g.P.Gen.PtrGen.number _ _ _ _ _ _ _ _ _ _ _ c.args.self.now (non_zero_usize_get c.in_ok-inx.inx) w c.self.invariant c.self.view_is live
    (g.met.S.NonZeroInxGenericStack.items_with_items _ _) (g.met.S.NonZeroInxGenericStack.room_with_items _ _) (g.met.S.NonZeroInxGenericStack.limit_with_items _ _)).0

pub returns : goal.returns
returns g c =
    let live = subst (λ n. IsSome (entry_at g.P.Gen.PtrGen.number (g.S.NonZeroInxGenericStack.items c.self.inside.slots.slots.stack) n)) (sym c.in_ok-inx.ensures.index) (sym c.in_ok-inx.ensures.live) in (
      ap (λ (F : g.row.T.Denot → ArenaState g.row.T.Denot). inl (c.uncounted_value_mut.result.ghost_name, F)) (fun_ext (λ w.
          (lent g.P.Gen.PtrGen.number _ _ _ _ _ _ _ _ _ _ _ c.args.self.now (non_zero_usize_get c.in_ok-inx.inx) w c.self.invariant c.self.view_is live
          (g.met.S.NonZeroInxGenericStack.items_with_items _ _) (g.met.S.NonZeroInxGenericStack.room_with_items _ _) (g.met.S.NonZeroInxGenericStack.limit_with_items _ _)).1
          ∙ ap (λ n. with_value c.args.self.now n w) c.in_ok-inx.ensures.index)),
      record {
        value = sym (entry_value_read c.args.self.now _ (g.P.Inx.PtrInx.number c.args.inx) (non_zero_usize_get c.in_ok-inx.inx) _ c.self.view_is c.in_ok-inx.ensures.index c.uncounted_value_mut.ensures.value);
        writes_back = tt;
        written = Continues-written c.args.self.now (g.P.Inx.PtrInx.number c.args.inx);
      },
    )

pub invariant_of-self : goal.invariant_of-self
invariant_of-self g c = c.self.invariant

pub uncounted_value_mut-requires-after_bounds : goal.uncounted_value_mut-requires-after_bounds
uncounted_value_mut-requires-after_bounds g c κs within =
    subst (λ n. IsSome (entry_at g.P.Gen.PtrGen.number (g.S.NonZeroInxGenericStack.items c.self.inside.slots.slots.stack) n)) (sym c.in_ok-inx.ensures.index) (sym c.in_ok-inx.ensures.live)

pub returns-in_err-inx : goal.returns-in_err-inx
returns-in_err-inx g c =
    rw c.from_residual.ensures (
      ap inr c.self.view_is,
      record {
        value = ap (option_map (λ e. e.1)) (sym (subst (λ (s : ArenaState g.row.T.Denot). entry s (g.P.Inx.PtrInx.number c.args.inx) ≡ None) c.self.view_is (none_of _ (sym c.in_err-inx.ensures.live))));
        writes_back = tt;
        written = Continues-written c.args.self.now (g.P.Inx.PtrInx.number c.args.inx);
      },
    )
