-- What recasting goes through in cells and nets, and what is read under a name.
use Rattle.std.specs.Prelude.{◌≡◌, ℕ, List, Option, Some}
use Rattle.std.proofs.Common.{refl}
use Rattle.std.specs.BTreeMap.{BTreeMap, get}
use Rattle.std.specs.Option.{option_map, option_and_then}
use Rattle.std.specs.String.{string_cmp}
use Rattle.std.specs.declared.string.String.{String}
use Rattle.triple_arena_direct.specs.ArenaState.{ArenaState}
use Rattle.triple_arena_direct.specs.Concrete.{p0_numbers, q2_numbers, renamed_if_live}
use Rattle.triple_arena_direct.specs.Entries.{look_up}
use Rattle.triple_arena_direct.specs.Holding.{Holding, itself, nothing, option, vector, part}
use Rattle.triple_arena_direct.specs.Pointers.{Pointer}
use Rattle.triple_arena_direct.specs.declared.P0.{P0}
use Rattle.triple_arena_direct.specs.declared.Q2.{Q2}
use Rattle.triple_arena_direct_uses.specs.declared.names_beside_two.Cell.{Cell}
use Rattle.triple_arena_direct_uses.specs.declared.names_beside_two.Kind.{Kind}
use Rattle.triple_arena_direct_uses.specs.declared.names_beside_two.NamedNetlist.{NamedNetlist}
use Rattle.triple_arena_direct_uses.specs.declared.names_beside_two.Net.{Net}

-- a cell holds the nets that it reads, and no cell
abbrev pub nets_in_cell : Holding Q2 Cell
nets_in_cell = part {S = Cell} (λ cell. cell.reads) (λ cell reads. record cell { reads = reads }) (λ cell a. refl) (λ cell. refl) (λ cell a b. refl) (vector itself)

abbrev pub cells_in_cell : Holding P0 Cell
cells_in_cell = nothing

-- a net holds the cell that drives it, and no net
abbrev pub cells_in_net : Holding P0 Net
cells_in_net = part {S = Net} (λ net. net.driver) (λ net driver. record net { driver = driver }) (λ net a. refl) (λ net. refl) (λ net a b. refl) (option itself)

abbrev pub nets_in_net : Holding Q2 Net
nets_in_net = nothing

-- the kind of the cell to which a name leads, and the label of the net
abbrev pub kind_named : {Z : Type 0} → ArenaState Cell → BTreeMap (String Z) P0 → String Z → Option Kind
kind_named cells names name = option_and_then (λ c. option_map (λ cell. cell.kind) (look_up cells.slots c)) (option_map p0_numbers (get string_cmp names name))

abbrev pub label_named : {Z : Type 0} → ArenaState Net → BTreeMap (String Z) Q2 → String Z → Option ℕ
label_named nets names name = option_and_then (λ n. option_map (λ net. net.label) (look_up nets.slots n)) (option_map q2_numbers (get string_cmp names name))

-- each name leads to the new pointer of the entry to which it led; one that led to none stays
abbrev pub NamesFollow : {Z P T : Type 0} (numbers : P → Pointer) (rename : Pointer → Pointer) (slots : List (Option (ℕ × T))) (old new : BTreeMap (String Z) P) → Type 0
NamesFollow {Z = Z} numbers rename slots old new =
    (name : String Z) → option_map numbers (get string_cmp new name) ≡ option_map (renamed_if_live rename slots) (option_map numbers (get string_cmp old name))

-- so each leads to the kind, or to the label, to which it led
pub record StayNamed (old new : NamedNetlist) : Type 0 where
  pub kinds : (name : _) (kind : Kind) → kind_named old.cells old.cell_names name ≡ Some kind → kind_named new.cells new.cell_names name ≡ Some kind
  pub labels : (name : _) (label : ℕ) → label_named old.nets old.net_names name ≡ Some label → label_named new.nets new.net_names name ≡ Some label
