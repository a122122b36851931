-- What the slots end as, where a `&mut` to one, to a value, to all of them or to their stack is returned.
use Rattle.std.specs.Prelude.{ℕ, ◌+◌, List, length, Option, Some, None}
use Rattle.std.specs.Borrow.{Lends, Array, Fml, RattleType, MutBor}
use Rattle.std.specs.List.{refill}
use Rattle.std.specs.declared.fmt.Debug as gDebug
use Rattle.std.specs.declared.hash.Hash as gHash
use Rattle.std.specs.declared.cmp.PartialEq as gPartialEq
use Rattle.std.specs.declared.cmp.PartialOrd as gPartialOrd
use Rattle.std.specs.declared.cmp.Ord as gOrd
use Rattle.triple_arena_ptr.specs.declared.inx.PtrInx as gPtrInx
use Rattle.triple_arena_traits.specs.Items.{item, with_item}
use Rattle.triple_arena_slots.specs.declared.slot.ArenaSlot.{ArenaSlot}
use Rattle.triple_arena_slots.specs.declared.slot_stack.SlotStack.{SlotStack}
use Rattle.triple_arena_slots.specs.declared.slots.Slots.{Slots}
use Rattle.triple_arena_slots.specs.contracts.slot.ArenaSlot.{the_row as slot_row}
use Rattle.triple_arena_slots.specs.contracts.slot_stack.SlotStack.{the_row as stack_row}
use Rattle.triple_arena_slots.specs.contracts.slots.Slots.{the_row}

-- the slots with another value in the entry at an index, where `with_value` puts a value into a slot
abbrev pub with_value_at : {X T : Type 0} → (X → T → X) → List X → ℕ → Option X → T → List X
with_value_at with_value es i None value = es
with_value_at with_value es i (Some slot) value = with_item es i (with_value slot value)

module _ (P T X S I G : RattleType) where
  -- once the borrow ends, the stack is the one that was last written
  abbrev pub lends_stack : MutBor (SlotStack P.Denot T.Denot X.Denot S.Denot I.Denot G.Denot) → MutBor S.Denot → Fml
  lends_stack slots stack = Lends (stack_row P T X S I G) S slots stack (λ w. record slots.now { stack = w })

module _ (P T X S I G : RattleType) (items : S.Denot → List X.Denot) (with_items : S.Denot → List X.Denot → S.Denot) where
  -- once the borrow ends, the slot of that index is the one that was last written, and one more was touched
  abbrev pub lends_slot : MutBor (SlotStack P.Denot T.Denot X.Denot S.Denot I.Denot G.Denot) → ℕ → MutBor X.Denot → Fml
  lends_slot slots i slot =
      Lends (stack_row P T X S I G) X slots slot (λ w. record slots.now {
        stack = with_items slots.now.stack (with_item (items slots.now.stack) i w);
        steps = record slots.now.steps { count = slots.now.steps.count + 1 };
      })

  -- once the borrow ends, the entry at that index has the value that was last written
  abbrev pub lends_value : (X.Denot → T.Denot → X.Denot) → MutBor (SlotStack P.Denot T.Denot X.Denot S.Denot I.Denot G.Denot) → ℕ → MutBor T.Denot → Fml
  lends_value with_value slots i value =
      Lends (stack_row P T X S I G) T slots value (λ w. record slots.now {
        stack = with_items slots.now.stack (with_value_at with_value (items slots.now.stack) i (item (items slots.now.stack) i) w);
      })

  -- the stack with these slots, as many as it has
  abbrev pub refilled : SlotStack P.Denot T.Denot X.Denot S.Denot I.Denot G.Denot → List X.Denot → SlotStack P.Denot T.Denot X.Denot S.Denot I.Denot G.Denot
  refilled slots ws =
      record slots { stack = with_items slots.stack (refill (length (items slots.stack)) (items slots.stack) ws) }

  -- once the borrow ends, the slots are those that were last written
  abbrev pub lends_refilled : MutBor (SlotStack P.Denot T.Denot X.Denot S.Denot I.Denot G.Denot) → MutBor (List X.Denot) → Fml
  lends_refilled slots written = Lends (stack_row P T X S I G) (Array X 0) slots written (refilled slots.now)

module _ (P T S I G : RattleType) (inx : gPtrInx.Ghosts I.Denot) (debug : gDebug.Ghosts I.Denot) (hash : gHash.Ghosts I.Denot) (equal : gPartialEq.Ghosts I.Denot) (compared : gPartialOrd.Ghosts I.Denot) (order : gOrd.Ghosts I.Denot)
    (items : S.Denot → List (ArenaSlot P.Denot T.Denot I.Denot G.Denot)) (with_items : S.Denot → List (ArenaSlot P.Denot T.Denot I.Denot G.Denot) → S.Denot) where
  -- the same of the slots of an `Arena`
  abbrev pub with_slots : Slots P.Denot T.Denot S.Denot I.Denot G.Denot → List (ArenaSlot P.Denot T.Denot I.Denot G.Denot) → Slots P.Denot T.Denot S.Denot I.Denot G.Denot
  with_slots slots ws = record slots { slots = refilled P T (slot_row P T I G inx debug hash equal compared order) S I G items with_items slots.slots ws }

  abbrev pub lends_slots : MutBor (Slots P.Denot T.Denot S.Denot I.Denot G.Denot) → MutBor (List (ArenaSlot P.Denot T.Denot I.Denot G.Denot)) → Fml
  lends_slots slots written = Lends (the_row P T S I G inx debug hash equal compared order) (Array (slot_row P T I G inx debug hash equal compared order) 0) slots written (with_slots slots.now)
