-- Slots that are lent so that their values alone can change.
use Rattle.std.specs.Prelude.{ℕ, List, [], ◌∷◌, map, length, Option, Some, None}
use base.Fml.{Lft, GName, Fml, fsep, fobs, fbor, ffalse}
use base.Stored.{coded_list}
use types.SemTy.{SemTy, Arr, Body}
use denote.Memory.{mem}
use denote.RattleType.{RattleType}
use denote.RawPtr.{Ptr, block_ptr, null_ptr}
use denote.Slice.{room}

module _ {L T : Type 0} (with_value : L → T → L) where
  -- the slot with the value of this entry, if there is one
  abbrev pub filled : L → Option (ℕ × T) → L
  filled x None = x
  filled x (Some e) = with_value x e.1

  -- the slots with the values of the entries
  abbrev pub filled_all : List L → List (Option (ℕ × T)) → List L
  filled_all [] es = []
  filled_all (x ∷ xs) [] = x ∷ xs
  filled_all (x ∷ xs) (e ∷ es) = filled x e ∷ filled_all xs es

  -- the slot, and the slots, with the values of the others
  module _ (entry : L → Option (ℕ × T)) where
    abbrev pub kept : L → L → L
    kept x w = filled x (entry w)

    abbrev pub kept_all : List L → List L → List L
    kept_all xs ws = filled_all xs (map entry ws)

module _ (L : RattleType) {T : Type 0} (with_value : L.Denot → T → L.Denot) (entry : L.Denot → Option (ℕ × T)) where
  -- these slots in memory, whatever their values
  abbrev pub Kept : List L.Denot → SemTy
  Kept xs = record {
    rep = List L.Denot;
    coded = coded_list L.coded;
    size = 0;
    own_at = λ ws b o. (Arr (mem L) (length xs)).own_at (kept_all with_value entry xs ws) b o;
  }

  -- these slots lie here, lent under this name for as long as the lifetime lasts
  abbrev pub kept_at : Lft → GName → Ptr → List L.Denot → Fml
  kept_at κ γ null_ptr xs = ffalse
  kept_at κ γ (block_ptr b o) xs = fsep (room L (length xs)) (fsep (fobs γ ((coded_list L.coded).code xs)) (fbor κ (Body (Kept xs) b o γ)))
