-- How two values that a call wrote stand in the slots.
use Rattle.std.proofs.Common.{◌≡◌, ◌≢◌, ℕ, List, Option, Some, IsSome, sym, subst, ◌∙◌}
use Rattle.triple_arena_traits.specs.Items.{item, with_item}
use Rattle.triple_arena_traits.specs.ArenaState.{ArenaState, with_value}
use Rattle.triple_arena_traits.specs.Entries.{entry_in}
use Rattle.triple_arena_slots.specs.Slot.{entry_of, with_slot_value}
use Rattle.triple_arena_slots.specs.Layout.{entry_at, Shows}
use Rattle.triple_arena_slots.specs.Lends.{with_value_at}
use Rattle.triple_arena_traits.specs.SlotPairs.{WritesTwo}
use Rattle.triple_arena_slots.specs.declared.slot.ArenaSlot.{ArenaSlot}
use Rattle.triple_arena_traits.specs.laws.ItemLaws.{item-with_other}
use Rattle.triple_arena_traits.proofs.SlotEntries.{entry_item, live_slot}
use Rattle.triple_arena_slots.proofs.Links.{Shows-with_value}

module _ {P T I G : Type 0} (number : G → ℕ) where
  value_there : (es : List (ArenaSlot P T I G)) (root : Option ℕ) (i len : ℕ) (e : ArenaSlot P T I G) (w : T) (s : ArenaState T) → item es i ≡ Some e → IsSome (entry_at number es i) → Shows number es root len s → Shows number (with_item es i (with_slot_value e w)) root len (with_value s i w)
  value_there es root i len e w s there live shows =
      subst (λ o. Shows number (with_value_at with_slot_value es i o w) root len (with_value s i w)) there (Shows-with_value number es root i len w s live shows)

  -- with other values in two slots the state has them too
  pub Shows-two_written : (es es' : List (ArenaSlot P T I G)) (root : Option ℕ) (i j len : ℕ) (x y : T) (s : ArenaState T) → i ≢ j → IsSome (entry_in s.slots i) → IsSome (entry_in s.slots j) → WritesTwo with_slot_value es es' i j x y → Shows number es root len s → Shows number es' root len (with_value (with_value s i x) j y)
  Shows-two_written es es' root i j len x y s apart live_i live_j w shows =
      let here : IsSome (entry_at number es i) = subst (λ xs. IsSome (entry_in xs i)) (sym shows.slots) live_i in
      let live : IsSome (entry_of number w.second) = live_slot (entry_of number) es j w.second w.at_second (subst (λ xs. IsSome (entry_in xs j)) (sym shows.slots) live_j) in
      let one = with_item es i (with_slot_value w.first x) in
      let there : item one j ≡ Some w.second = item-with_other es i j (with_slot_value w.first x) (λ e. apart (sym e)) ∙ w.at_second in
      rw w.written (value_there one root j len w.second y (with_value s i x) there (subst (λ o. IsSome o) (sym (entry_item (entry_of number) one j w.second there)) live) (value_there es root i len w.first x s w.at_first here shows))
