-- A direct arena whose values were written, and nothing else of it.
use Rattle.std.specs.Prelude.{◌≡◌, is_some}
use Rattle.triple_arena_ptr.specs.Pointers.{Pointer}
use Rattle.triple_arena_traits.specs.Entries.{look_up}
use Rattle.triple_arena_traits.specs.Values.{with_values_in, generations_in}
use Rattle.triple_arena_direct_arena.specs.DirectState.{DirectState, direct_len}

module _ {T : Type 0} where
  -- the arena with the values of the other
  abbrev pub direct_with_values_of : DirectState T → DirectState T → DirectState T
  direct_with_values_of s w = record s { slots = with_values_in s.slots w.slots }

  -- the same pointers are valid, and nothing but values differs
  pub record DiffersInValues (old new : DirectState T) : Type 0 where
    pub pointers : (q : Pointer) → is_some (look_up new.slots q) ≡ is_some (look_up old.slots q)
    pub generations : generations_in new.slots ≡ generations_in old.slots
    pub len : direct_len new ≡ direct_len old
    pub room : new.room ≡ old.room
    pub limit : new.limit ≡ old.limit
    pub greatest : new.greatest ≡ old.greatest

  -- whatever values are written, the same pointers are valid
  abbrev pub DirectKeepsPointers : DirectState T → Type 0
  DirectKeepsPointers s = (w : DirectState T) → DiffersInValues s (direct_with_values_of s w)
