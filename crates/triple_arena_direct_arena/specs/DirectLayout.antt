-- How a direct arena lies in its slots. No public clause cites this module.
use Rattle.std.specs.Prelude.{◌≡◌, ℕ, List, map, Option}
use Rattle.triple_arena_direct_arena.specs.DirectState.{DirectState, direct_len, SlotsFit}
use Rattle.triple_arena_direct_arena.specs.DirectSlot.{direct_slot_entry}
use Rattle.triple_arena_direct_arena.specs.declared.slot.DirectSlot.{DirectSlot}

module _ {P T I G : Type 0} where
  -- the state that these slots stand for, with room, limit and greatest index
  abbrev pub direct_of : (number : G → ℕ) (es : List (DirectSlot P T I G)) (room : ℕ) (limit : Option ℕ) (greatest : ℕ) → DirectState T
  direct_of number es room limit greatest =
      record { slots = map (direct_slot_entry number) es; room = room; limit = limit; greatest = greatest }

-- the count of entries is that of the state, and its slots fit
pub record Counts {T : Type 0} (len : ℕ) (s : DirectState T) : Type 0 where
  pub counted : len ≡ direct_len s
  pub fits : SlotsFit s
