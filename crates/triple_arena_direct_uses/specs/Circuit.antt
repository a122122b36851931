-- A circuit: what is read of its cells and nets, and what its calls make of them.
use Rattle.std.specs.Prelude.{◌≡◌, ◌-◌, ◌^◌, ℕ, suc, not, cond, ◌||◌, Bool, true, false, List, [], ◌∷◌, ◌++◌, map, Option, Some, None, IsSome}
use Rattle.std.proofs.Common.{refl}
use Rattle.std.specs.List.{filter, list_any}
use Rattle.std.specs.Option.{option_map, option_map_or, option_and_then}
use Rattle.triple_arena_base.specs.declared.errors.CompactError.{CompactError}
use Rattle.triple_arena_ptr.specs.Numbers.{counting_to, raise, wraps}
use Rattle.triple_arena_ptr.specs.Pointers.{Pointer, is_same}
use Rattle.triple_arena_ptr.specs.declared.P0.{P0}
use Rattle.triple_arena_ptr.specs.declared.Q2.{Q2}
use Rattle.triple_arena.specs.Entries.{look_up}
use Rattle.triple_arena.specs.ArenaState.{ArenaState}
use Rattle.triple_arena.specs.Compression.{rank, raised_if_any, wraps_after}
use Rattle.triple_arena_direct.specs.Holding.{Holding, itself, nothing, option, vector, both, part}
use Rattle.triple_arena_direct.specs.Renaming.{AllResolve, RefusesStray}
use Rattle.triple_arena_direct.specs.RenamingBoth.{RefusesBothStray}
use Rattle.triple_arena_direct.specs.CompactBothError.{CompactBothError}
use Rattle.triple_arena_uses.specs.Entities.{p0_numbers}
use Rattle.triple_arena_direct_uses.specs.declared.circuit.Cell.{Cell}
use Rattle.triple_arena_direct_uses.specs.declared.circuit.Net.{Net}
use Rattle.triple_arena_direct_uses.specs.declared.circuit.CircuitError.{CircuitError}
use Rattle.triple_arena_direct_uses.specs.declared.circuit.CircuitError.TheVariants.{NoCell, NoNet, InUse, Memory}

-- the numbers of a net's pointer
abbrev pub q2_numbers : Q2 → Pointer
q2_numbers p = (suc p.0, suc p.1)

-- a cell as it is read: its kind, and the nets that it reads
pub record CellRead : Type 0 where
  pub kind : ℕ
  pub reads : List Pointer

-- a net as it is read: its label, the cell that drives it, if one does, and the cells that read it
pub record NetRead : Type 0 where
  pub label : ℕ
  pub driver : Option Pointer
  pub sinks : List Pointer

abbrev pub cell_read : Cell → CellRead
cell_read cell = record { kind = cell.kind; reads = map q2_numbers cell.reads.items }

abbrev pub net_read : Net → NetRead
net_read net = record { label = net.label; driver = option_map p0_numbers net.driver; sinks = map p0_numbers net.sinks.items }

-- the cells and the nets
pub record Wiring : Type 0 where
  pub cells : ArenaState Cell
  pub nets : ArenaState Net

-- the cell under a pointer, and the net under a pointer
abbrev pub cell_at : Wiring → Pointer → Option CellRead
cell_at wiring c = option_map cell_read (look_up wiring.cells.slots c)

abbrev pub net_at : Wiring → Pointer → Option NetRead
net_at wiring n = option_map net_read (look_up wiring.nets.slots n)

-- a net leads to a cell: the cell drives it or reads it
abbrev pub leads_to : Pointer → NetRead → Bool
leads_to c net = option_map_or (λ p. is_same p c) net.driver false || list_any (λ p. is_same p c) net.sinks

-- a cell reads a net
abbrev pub reads_net : Pointer → CellRead → Bool
reads_net n cell = list_any (λ p. is_same p n) cell.reads

-- some net leads to the cell, and some cell reads the net
abbrev pub IsLedTo : Wiring → Pointer → Type 0
IsLedTo wiring c = (n : Pointer) × (net : NetRead) × (net_at wiring n ≡ Some net) × (leads_to c net ≡ true)

abbrev pub IsReadByCell : Wiring → Pointer → Type 0
IsReadByCell wiring n = (c : Pointer) × (cell : CellRead) × (cell_at wiring c ≡ Some cell) × (reads_net n cell ≡ true)

-- a net with another driver, and with one more sink; a cell that reads one more net
abbrev pub with_driver : Pointer → NetRead → NetRead
with_driver c net = record net { driver = Some c }

abbrev pub with_sink : Pointer → NetRead → NetRead
with_sink c net = record net { sinks = net.sinks ++ c ∷ [] }

abbrev pub with_read : Pointer → CellRead → CellRead
with_read n cell = record cell { reads = cell.reads ++ n ∷ [] }

-- a net that no longer leads to a cell as a sink, and that no longer leads to it at all
abbrev pub without_sink : Pointer → NetRead → NetRead
without_sink c net = record net { sinks = filter (λ p. not (is_same p c)) net.sinks }

abbrev pub without_cell : Pointer → NetRead → NetRead
without_cell c net = without_sink c (record net { driver = option_and_then (λ p. cond (is_same p c) None (Some p)) net.driver })

-- a cell that no longer reads a net
abbrev pub without_net : Pointer → CellRead → CellRead
without_net n cell = record cell { reads = filter (λ p. not (is_same p n)) cell.reads }

-- both a net and a cell are there
abbrev pub AreThere : Wiring → (n c : Pointer) → Type 0
AreThere wiring n c = IsSome (net_at wiring n) × IsSome (cell_at wiring c)

-- why a call on a net and a cell was refused, and why one that takes memory was
abbrev pub RefusesEnds : Wiring → (n c : Pointer) → CircuitError → Type 0
RefusesEnds wiring n c NoNet = net_at wiring n ≡ None
RefusesEnds wiring n c NoCell = IsSome (net_at wiring n) × (cell_at wiring c ≡ None)
RefusesEnds wiring n c InUse = ⊥
RefusesEnds wiring n c (Memory e) = ⊥

abbrev pub RefusesMore : Wiring → (n c : Pointer) → CircuitError → Type 0
RefusesMore wiring n c NoNet = net_at wiring n ≡ None
RefusesMore wiring n c NoCell = IsSome (net_at wiring n) × (cell_at wiring c ≡ None)
RefusesMore wiring n c InUse = ⊥
RefusesMore wiring n c (Memory e) = AreThere wiring n c

-- why a cell stays, and why a net stays
abbrev pub KeepsCell : Wiring → Pointer → CircuitError → Type 0
KeepsCell wiring c NoCell = cell_at wiring c ≡ None
KeepsCell wiring c InUse = IsSome (cell_at wiring c) × IsLedTo wiring c
KeepsCell wiring c NoNet = ⊥
KeepsCell wiring c (Memory e) = ⊥

abbrev pub KeepsNet : Wiring → Pointer → CircuitError → Type 0
KeepsNet wiring n NoNet = net_at wiring n ≡ None
KeepsNet wiring n InUse = IsSome (net_at wiring n) × IsReadByCell wiring n
KeepsNet wiring n NoCell = ⊥
KeepsNet wiring n (Memory e) = ⊥

-- each look-up is as before
pub record IsReadAsBefore (old new : Wiring) : Type 0 where
  pub cells : (c : Pointer) → cell_at new c ≡ cell_at old c
  pub nets : (n : Pointer) → net_at new n ≡ net_at old n

-- what recasting goes through: the pointers of a net's cells, and those of a cell's nets
abbrev pub cells_in_net : Holding P0 Net
cells_in_net =
    part {S = Net} (λ net. (net.driver, net.sinks)) (λ net ends. record net { driver = ends.0; sinks = ends.1 }) (λ net a. refl) (λ net. refl) (λ net a b. refl)
    (both (option itself) (vector itself))

abbrev pub nets_in_cell : Holding Q2 Cell
nets_in_cell = part {S = Cell} (λ cell. cell.reads) (λ cell reads. record cell { reads = reads }) (λ cell a. refl) (λ cell. refl) (λ cell a b. refl) (vector itself)

-- a cell holds no cell, and a net no net
abbrev pub cells_in_cell : Holding P0 Cell
cells_in_cell = nothing

abbrev pub nets_in_net : Holding Q2 Net
nets_in_net = nothing

-- a net whose cells were renamed, and a cell whose nets were
abbrev pub cells_renamed : (Pointer → Pointer) → NetRead → NetRead
cells_renamed rename net = record net { driver = option_map rename net.driver; sinks = map rename net.sinks }

abbrev pub nets_renamed : (Pointer → Pointer) → CellRead → CellRead
nets_renamed rename cell = record cell { reads = map rename cell.reads }

-- where a compaction moves the entry of a pointer: all come to stand under the raised counter; and whether that wraps it
abbrev pub moved : {T : Type 0} → ArenaState T → Pointer → Pointer
moved s p = rank s (raised_if_any (raise (counting_to (2 ^ 64 - 1))) s) p

abbrev pub moving_wraps : {T : Type 0} → ArenaState T → Bool
moving_wraps s = wraps_after (wraps (counting_to (2 ^ 64 - 1))) false s

-- each cell to which a net leads is there, and each net that a cell reads
abbrev pub CellsAreThere : Wiring → Type 0
CellsAreThere wiring = AllResolve p0_numbers wiring.cells.slots cells_in_net.held wiring.nets.slots

abbrev pub NetsAreThere : Wiring → Type 0
NetsAreThere wiring = AllResolve q2_numbers wiring.nets.slots nets_in_cell.held wiring.cells.slots

pub record EndsAreThere (wiring : Wiring) : Type 0 where
  pub cells_there : CellsAreThere wiring
  pub nets_there : NetsAreThere wiring

-- why the cells stay where they are: a net leads to one that isn't there, or memory was refused, and there is one; why the
-- nets do; and why both do
abbrev pub CellsStay : Wiring → CompactError P0 → Type 0
CellsStay wiring = RefusesStray p0_numbers wiring.cells.slots cells_in_net.held wiring.nets.slots

abbrev pub NetsStay : Wiring → CompactError Q2 → Type 0
NetsStay wiring = RefusesStray q2_numbers wiring.nets.slots nets_in_cell.held wiring.cells.slots

abbrev pub BothStay : Wiring → CompactBothError P0 Q2 → Type 0
BothStay wiring = RefusesBothStray p0_numbers q2_numbers wiring.cells.slots cells_in_net.held wiring.nets.slots nets_in_cell.held
