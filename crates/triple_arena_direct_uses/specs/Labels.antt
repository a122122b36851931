-- What labels hold: cells, and nets; and what is read of them.
use Rattle.std.specs.Prelude.{◌≡◌, ℕ, map}
use Rattle.std.proofs.Common.{refl}
use Rattle.triple_arena_ptr.specs.Pointers.{Pointer}
use Rattle.triple_arena_ptr.specs.declared.P0.{P0}
use Rattle.triple_arena_ptr.specs.declared.Q2.{Q2}
use Rattle.triple_arena_direct.specs.Concrete.{p0_numbers, q2_numbers}
use Rattle.triple_arena_direct.specs.Holding.{Holding, itself, vector, part, labelled}
use Rattle.triple_arena_direct_uses.specs.declared.labels.Labels.{Labels}

abbrev pub cells_labelled : Holding P0 Labels
cells_labelled = part {S = Labels} (λ s. s.cells) (λ s cells. record s { cells = cells }) (λ s a. refl) (λ s. refl) (λ s a b. refl) (vector (labelled itself))

abbrev pub nets_labelled : Holding Q2 Labels
nets_labelled = part {S = Labels} (λ s. s.nets) (λ s nets. record s { nets = nets }) (λ s a. refl) (λ s. refl) (λ s a b. refl) (vector (labelled itself))

-- a label as it is read, with the numbers of its pointer; and with that renamed
abbrev pub label_read : {P : Type 0} → (P → Pointer) → ℕ × P → ℕ × Pointer
label_read numbers row = (row.0, numbers row.1)

abbrev pub label_renamed : (Pointer → Pointer) → ℕ × Pointer → ℕ × Pointer
label_renamed rename row = (row.0, rename row.1)

-- each label is read with the new pointer of what it led to
pub record AreReadRenamed (rename_cell rename_net : Pointer → Pointer) (old new : Labels) : Type 0 where
  pub labels_of_cells : map (label_read p0_numbers) new.cells.items ≡ map (label_renamed rename_cell) (map (label_read p0_numbers) old.cells.items)
  pub labels_of_nets : map (label_read q2_numbers) new.nets.items ≡ map (label_renamed rename_net) (map (label_read q2_numbers) old.nets.items)
