-- Writes that change nothing.
use Rattle.std.proofs.Common.{◌≡◌, List, [], ◌∷◌, slice_get, slice_set, Option, Some, None, OnSome, refl, ℕ, zero, suc, ap}

-- where there is no item, a write changes nothing
pub set_absent : {X : Type 0} (xs : List X) (i : ℕ) (x : X) → None ≡ slice_get xs i → xs ≡ slice_set xs i x
set_absent [] i x none = refl
set_absent (y ∷ ys) zero x none = cc
set_absent (y ∷ ys) (suc i) x none = ap (λ zs. y ∷ zs) (set_absent ys i x none)

-- a write of what stands there changes nothing
pub set_same : {X : Type 0} (xs : List X) (i : ℕ) (x : X) → Some x ≡ slice_get xs i → slice_set xs i x ≡ xs
set_same [] i x found = refl
set_same (y ∷ ys) zero x found = cc
set_same (y ∷ ys) (suc i) x found = ap (λ zs. y ∷ zs) (set_same ys i x found)

pub on_some : {A P : Type 0} (o : Option A) → P → OnSome o P
on_some (Some x) p = p
on_some None p = tt
