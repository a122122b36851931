-- An arena whose values were written, and nothing else of it.
use Rattle.std.specs.Prelude.{◌≡◌, ℕ, List, [], ◌∷◌, map, Option, Some, None, is_some}
use Rattle.std.specs.Option.{option_map}
use Rattle.triple_arena_ptr.specs.Pointers.{Pointer}
use Rattle.triple_arena_traits.specs.Entries.{look_up}
use Rattle.triple_arena_traits.specs.ArenaState.{ArenaState, arena_len}

module _ {T : Type 0} where
  -- the entry with the value of the other, where both are there
  abbrev pub with_value_of : Option (ℕ × T) → Option (ℕ × T) → Option (ℕ × T)
  with_value_of None w = None
  with_value_of (Some e) None = Some e
  with_value_of (Some e) (Some w) = Some (e.0, w.1)

  -- the entries with the values of the others
  abbrev pub with_values_in : List (Option (ℕ × T)) → List (Option (ℕ × T)) → List (Option (ℕ × T))
  with_values_in [] ws = []
  with_values_in (e ∷ es) [] = e ∷ es
  with_values_in (e ∷ es) (w ∷ ws) = with_value_of e w ∷ with_values_in es ws

  -- the arena with the values of the other
  abbrev pub with_values_of : ArenaState T → ArenaState T → ArenaState T
  with_values_of s w = record s { slots = with_values_in s.slots w.slots }

  -- the generations of the entries, by their indexes
  abbrev pub generations_in : List (Option (ℕ × T)) → List (Option ℕ)
  generations_in slots = map (option_map (λ e. e.0)) slots

  -- the same pointers are valid, and nothing but values differs
  pub record SamePointers (old new : ArenaState T) : Type 0 where
    pub pointers : (q : Pointer) → is_some (look_up new.slots q) ≡ is_some (look_up old.slots q)
    pub generations : generations_in new.slots ≡ generations_in old.slots
    pub len : arena_len new ≡ arena_len old
    pub counter : new.counter ≡ old.counter
    pub free : new.free ≡ old.free
    pub room : new.room ≡ old.room
    pub limit : new.limit ≡ old.limit
    pub greatest : new.greatest ≡ old.greatest

  -- whatever values are written, the same pointers are valid
  abbrev pub KeepsPointers : ArenaState T → Type 0
  KeepsPointers s = (w : ArenaState T) → SamePointers s (with_values_of s w)
