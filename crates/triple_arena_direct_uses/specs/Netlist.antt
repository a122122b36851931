-- The wires of a netlist.
use Rattle.std.specs.Prelude.{ℕ, List, [], ◌∷◌, ◌++◌, map, Option}
use Rattle.triple_arena_ptr.specs.Pointers.{Pointer}
use Rattle.triple_arena.specs.Walks.{keys, values}

module _ {P G : Type 0} (numbers : P → Pointer) (held : G → List P) where
  -- the wires of these gates: each leads from the pointer of its gate to one that the gate holds
  abbrev pub wires_of : List Pointer → List G → List (Pointer × Pointer)
  wires_of [] gates = []
  wires_of (k ∷ ks) [] = []
  wires_of (k ∷ ks) (gate ∷ gates) = map (λ p. (k, numbers p)) (held gate) ++ wires_of ks gates

  -- the wires of all gates, in the order of their indexes
  abbrev pub wires : List (Option (ℕ × G)) → List (Pointer × Pointer)
  wires slots = wires_of (keys slots) (values slots)

-- a wire, both ends of which are renamed
abbrev pub rewired : (Pointer → Pointer) → Pointer × Pointer → Pointer × Pointer
rewired rename wire = (rename wire.0, rename wire.1)
