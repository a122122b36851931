-- Names of cells and nets: what is read of where they lead.
use Rattle.std.specs.Prelude.{Option}
use Rattle.std.specs.BTreeMap.{BTreeMap, get}
use Rattle.std.specs.Option.{option_map}
use Rattle.std.specs.String.{string_cmp}
use Rattle.std.specs.declared.string.String.{String}
use Rattle.triple_arena_ptr.specs.Pointers.{Pointer}
use Rattle.triple_arena_ptr.specs.declared.P0.{P0}
use Rattle.triple_arena_ptr.specs.declared.Q2.{Q2}
use Rattle.triple_arena_direct.specs.Concrete.{renamed_if_live}
use Rattle.triple_arena_uses.specs.Entities.{p0_numbers}
use Rattle.triple_arena_direct_uses.specs.Circuit.{Wiring, q2_numbers, moved}
use Rattle.triple_arena_direct_uses.specs.declared.circuit.names.Place.{Place}
use Rattle.triple_arena_direct_uses.specs.declared.circuit.names.Place.TheVariants.{Cell, Net}

-- a place with another pointer, of a cell or of a net
abbrev pub on_place : {C N D M : Type 0} → (C → D) → (N → M) → Place C N → Place D M
on_place f g (Cell c) = Cell (f c)
on_place f g (Net n) = Net (g n)

-- a place as it is read, by the numbers of its pointer
abbrev pub place_read : Place P0 Q2 → Place Pointer Pointer
place_read place = on_place p0_numbers q2_numbers place

-- where a name leads, if there is one
abbrev pub name_at : {Z : Type 0} → BTreeMap (String Z) (Place P0 Q2) → String Z → Option (Place Pointer Pointer)
name_at names name = option_map place_read (get string_cmp names name)

-- a place once the circuit is compacted: its cell or net, if it is there, by its new pointer
abbrev pub place_moved : Wiring → Place Pointer Pointer → Place Pointer Pointer
place_moved wiring place = on_place (renamed_if_live (moved wiring.cells) wiring.cells.slots) (renamed_if_live (moved wiring.nets) wiring.nets.slots) place
