-- Closures that are called at each entry while a compression moves it.
use Rattle.std.specs.Prelude.{◌≡◌, List, map}
use Rattle.std.specs.List.{FoldsTo}
use Rattle.triple_arena_ptr.specs.Pointers.{Pointer}
use Rattle.triple_arena_traits.specs.Walks.{keys_of}

-- one call of the closure: the old pointer, the value, the new pointer, and the value that was given back
pub record Move (P T : Type 0) : Type 0 where
  pub from : P
  pub old : T
  pub to : P
  pub new : T

module _ {P T : Type 0} (numbers : P → Pointer) where
  -- the entries that the closure was called at
  abbrev pub moved_from : List (Move P T) → List (Pointer × T)
  moved_from = map (λ m. (numbers m.from, m.old))

  -- the new pointers that it was called with
  abbrev pub moved_to : List (Move P T) → List Pointer
  moved_to = map (λ m. numbers m.to)

module _ {P T F : Type 0} (numbers : P → Pointer) (step : F → P → T → P → T → F → Type 0) where
  -- one call, from the closure as it was to the closure as it is then
  abbrev pub MoveTurn : F → Move P T → F → Type 0
  MoveTurn before m after = step before m.from m.old m.to m.new after

  -- the closure was called at these entries, in their order, each with its pointer, its value and the pointer that `rank`
  -- gives it, and gave these values back
  pub record Moves (rank : Pointer → Pointer) (f : F) (es : List (Pointer × T)) (values : List T) : Type 0 where
    pub moves : List (Move P T)
    pub last : F
    pub ran : FoldsTo MoveTurn f moves last
    pub came : moved_from numbers moves ≡ es
    pub went : moved_to numbers moves ≡ map rank (keys_of es)
    pub gave : map (λ m. m.new) moves ≡ values
