-- Names of cells and nets whose pointers are replaced.
use Rattle.std.specs.Prelude.{◌≡◌, Option, Some, None}
use Rattle.std.proofs.Common.{refl, ap}
use Rattle.std.specs.Option.{option_map}
use Rattle.triple_arena_ptr.specs.Pointers.{Pointer}
use Rattle.triple_arena_ptr.specs.declared.P0.{P0}
use Rattle.triple_arena_ptr.specs.declared.Q2.{Q2}
use Rattle.triple_arena_uses.specs.Entities.{p0_numbers}
use Rattle.triple_arena_direct_uses.specs.Circuit.{q2_numbers}
use Rattle.triple_arena_direct_uses.specs.Names.{on_place, place_read}
use Rattle.triple_arena_direct_uses.specs.declared.circuit.names.Place.{Place}
use Rattle.triple_arena_direct_uses.specs.declared.circuit.names.Place.TheVariants.{Cell, Net}

-- where a name leads, where pointers are replaced whose numbers are given
module _ (cells : P0 → P0) (nets : Q2 → Q2) (f g : Pointer → Pointer) (cell : (c : P0) → p0_numbers (cells c) ≡ f (p0_numbers c)) (net : (n : Q2) → q2_numbers (nets n) ≡ g (q2_numbers n)) where
  pub read_follows : (o : Option (Place P0 Q2)) → option_map place_read (option_map (on_place cells nets) o) ≡ option_map (on_place f g) (option_map place_read o)
  read_follows None = refl
  read_follows (Some (Cell c)) = ap (λ p. Some (Cell p)) (cell c)
  read_follows (Some (Net n)) = ap (λ p. Some (Net p)) (net n)
