-- What the slots show of an arena.
use Rattle.std.specs.Prelude.{ℕ, List}
use Rattle.std.specs.Int.NonZero.{non_zero_usize_get}
use Rattle.std.specs.Option.{option_map}
use Rattle.triple_arena_traits.specs.ArenaState.{ArenaState}
use Rattle.triple_arena_slots.specs.Layout.{Shows}
use Rattle.triple_arena_slots.specs.declared.slot.ArenaSlot.{ArenaSlot}
use Rattle.triple_arena_slots.specs.declared.slots.Slots.{Slots}

module _ {P T S I G : Type 0} (number : G → ℕ) (items : S → List (ArenaSlot P T I G)) where
  -- the slots, their first free index and the count of entries are those of the state
  abbrev pub SlotsShow : Slots P T S I G → ℕ → ArenaState T → Type 0
  SlotsShow slots len s = Shows number (items slots.slots.stack) (option_map non_zero_usize_get slots.root) len s

  -- there is such a state
  abbrev pub IsShown : Slots P T S I G → Type 0
  IsShown slots = (s : ArenaState T) × (len : ℕ) × SlotsShow slots len s
