-- A circuit: what is read under each pointer, and what is saved of it.
use Rattle.std.specs.Prelude.{◌≡◌, ◌≢◌, ℕ, suc, ◌-◌, ◌^◌, ◌++◌, ◌∷◌, List, [], map, Option, None, Some}
use Rattle.std.specs.Int.{w32, w64}
use Rattle.std.specs.Option.{option_map}
use Rattle.triple_arena_ptr.specs.Pointers.{Pointer}
use Rattle.triple_arena_ptr.specs.declared.P0.{P0}
use Rattle.triple_arena_ptr.specs.declared.Q2.{Q2}
use Rattle.triple_arena.specs.ArenaState.{ArenaState}
use Rattle.triple_arena.specs.Entries.{look_up}
use Rattle.triple_arena_snapshot.specs.Coding.{Coding}
use Rattle.triple_arena_snapshot.specs.Layouts.{both, list, number, option, pointer, positive}
use Rattle.triple_arena_snapshot.specs.ArenaCodings.{arena_content}
use Rattle.triple_arena_snapshot.specs.ArenaLayouts.{arena_coding}
use Rattle.triple_arena_snapshot.specs.Shapes.{arena_shape}
use Rattle.triple_arena_snapshot.specs.Files.{file_of}
use Rattle.triple_arena_snapshot.specs.laws.CodingLaws.{wide32, wide64}
use Rattle.triple_arena_snapshot_uses.specs.declared.circuit.Cell.{Cell}
use Rattle.triple_arena_snapshot_uses.specs.declared.circuit.Net.{Net}

-- the numbers of a cell's pointer, and those of a net's
abbrev pub p0_numbers : P0 → Pointer
p0_numbers p = (suc p.0, suc p.1)

abbrev pub q2_numbers : Q2 → Pointer
q2_numbers p = (suc p.0, suc p.1)

-- a cell as it is read: its kind, and the nets that it reads
abbrev pub CellRead : Type 0
CellRead = ℕ × List Pointer

-- a net as it is read: its label, and the cell that drives it, if one does
abbrev pub NetRead : Type 0
NetRead = ℕ × Option Pointer

abbrev pub cell_read : Cell → CellRead
cell_read cell = (cell.kind, map q2_numbers cell.reads.items)

abbrev pub net_read : Net → NetRead
net_read net = (net.label, option_map p0_numbers net.driver)

-- the cells and the nets
abbrev pub Parts : Type 0
Parts = ArenaState Cell × ArenaState Net

-- the cell under a pointer, and the net under a pointer
abbrev pub cell_at : Parts → Pointer → Option CellRead
cell_at parts c = option_map cell_read (look_up parts.0.slots c)

abbrev pub net_at : Parts → Pointer → Option NetRead
net_at parts n = option_map net_read (look_up parts.1.slots n)

-- what is saved of both arenas
abbrev pub CircuitContent : Type 0
CircuitContent = (List (Option (ℕ × CellRead)) × (ℕ × List ℕ)) × (List (Option (ℕ × NetRead)) × (ℕ × List ℕ))

abbrev pub circuit_content : Parts → CircuitContent
circuit_content parts = (arena_content cell_read parts.0, arena_content net_read parts.1)

-- how cells and nets stand as bytes, and how both arenas do: their pointers have indexes and generations of 64 bits
abbrev pub wide : Coding ℕ
wide = number w64 (2 ^ 64) wide64

abbrev pub cell_coding : Coding CellRead
cell_coding = both (number w32 (2 ^ 32) wide32) (list (pointer wide wide))

abbrev pub net_coding : Coding NetRead
net_coding = both wide (option (pointer wide wide))

abbrev pub circuit_coding : Coding CircuitContent
circuit_coding = both (arena_coding (2 ^ 64 - 1) 8 None (positive wide) cell_coding) (arena_coding (2 ^ 64 - 1) 8 None (positive wide) net_coding)

-- the shapes of a cell, tag 128, of a pair of a `u32` and a vector of `Q2`; of a net, tag 129, of a pair of a `u64` and an option
-- of `P0`; and of a pair of both arenas
abbrev pub cell_shape : List ℕ
cell_shape = 128 ∷ 22 ∷ 3 ∷ 23 ∷ 26 ∷ []

abbrev pub net_shape : List ℕ
net_shape = 129 ∷ 22 ∷ 4 ∷ 21 ∷ 25 ∷ []

abbrev pub circuit_shape : List ℕ
circuit_shape = 22 ∷ arena_shape cell_shape ++ arena_shape net_shape

-- their file
abbrev pub file_of_circuit : Parts → List ℕ
file_of_circuit parts = file_of circuit_shape (circuit_coding.encoding (circuit_content parts))

-- something new is read under the next pointer, under which nothing was read; under each other is read what was
pub record IsAdded {R : Type 0} (old : Pointer → Option R) (next p : Pointer) (read : R) (after : Pointer → Option R) : Type 0 where
  pub found : after p ≡ Some read
  pub free : old p ≡ None
  pub is_next : p ≡ next
  pub others : (q : Pointer) → q ≢ p → after q ≡ old q
