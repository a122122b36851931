use Rattle.std.proofs.Common.{◌∙◌, inl, sym, ap}
use Rattle.std.proofs.Math.Path.{fun_ext}
use Rattle.std.specs.Int.NonZero.{non_zero_usize_get}
use Rattle.triple_arena_direct_arena.specs.DirectState.{DirectState, direct_with_value}
use Rattle.triple_arena_direct_arena.proofs.Held.{lent, entry_value_read}
use Rattle.triple_arena_direct_arena.proofs.direct_arena.DirectArenaArenaTrait.get_inx_mut.Goals as goal

pub invariant_of-self-lent : goal.invariant_of-self-lent
invariant_of-self-lent g c w =
    (lent g.P.Gen.PtrGen.number _ _ _ _ _ _ _ _ c.args.self.now (non_zero_usize_get c.in_ok-inx.inx) w c.self.invariant c.self.view_is
    (g.met.S.NonZeroInxGenericStack.items_with_items _ _) (g.met.S.NonZeroInxGenericStack.room_with_items _ _) (g.met.S.NonZeroInxGenericStack.limit_with_items _ _)).0

pub returns : goal.returns
returns g c = (
  ap (λ (F : g.row.T.Denot → DirectState g.row.T.Denot). inl (c.uncounted_value_mut.result.ghost_name, F)) (fun_ext (λ w.
      (lent g.P.Gen.PtrGen.number _ _ _ _ _ _ _ _ c.args.self.now (non_zero_usize_get c.in_ok-inx.inx) w c.self.invariant c.self.view_is
      (g.met.S.NonZeroInxGenericStack.items_with_items _ _) (g.met.S.NonZeroInxGenericStack.room_with_items _ _) (g.met.S.NonZeroInxGenericStack.limit_with_items _ _)).1
      ∙ ap (λ n. direct_with_value c.args.self.now n w) c.in_ok-inx.ensures.index)),
  record {
    value = sym (entry_value_read _ c.args.self.now.slots (g.P.Inx.PtrInx.number c.args.inx) (non_zero_usize_get c.in_ok-inx.inx) _ (ap (λ s. s.slots) c.self.view_is) c.in_ok-inx.ensures.index c.uncounted_value_mut.ensures.value);
    writes_back = tt;
    written = λ value h none. none;
  },
)
