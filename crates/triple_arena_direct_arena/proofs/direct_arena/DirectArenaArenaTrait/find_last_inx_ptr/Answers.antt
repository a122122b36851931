use Rattle.std.proofs.Common.{◌≡◌, map, subst}
use Rattle.triple_arena_traits.specs.Entries.{entry_count}
use Rattle.triple_arena_traits.specs.laws.WellFormedLaws.{none_counted}
use Rattle.triple_arena_direct_arena.specs.DirectSlot.{direct_slot_entry}
use Rattle.triple_arena_direct_arena.proofs.direct_arena.DirectArenaArenaTrait.find_last_inx_ptr.Goals as goal

pub returns-in_err-inx : goal.returns-in_err-inx
returns-in_err-inx g c =
    rw c.from_residual.ensures (subst (λ s. entry_count s.slots ≡ 0) c.self.view_is (none_counted (map (direct_slot_entry g.P.Gen.PtrGen.number) (g.S.NonZeroInxGenericStack.items c.self.inside.slots.stack)) (rw (c.in_err-inx.was, c.uncounted_stack.ensures) at c.last_live.ensures)))
