-- A slot that is pushed right past the last one.
use Rattle.std.proofs.Common.{◌≡◌, ℕ, zero, suc, ◌+◌, ◌-◌, List, [], ◌∷◌, ◌++◌, length, replicate, Option, None, slice_set, refl, sym, ap, ◌∙◌, arith}
use Rattle.triple_arena_traits.specs.Items.{with_item}
use Rattle.triple_arena_traits.specs.FreeEnd.{extended}

module _ {A : Type 0} where
  set_last : (xs : List A) (k : ℕ) (d x : A) → k ≡ length xs → slice_set (xs ++ d ∷ []) k x ≡ xs ++ x ∷ []
  set_last [] zero d x e = refl
  set_last [] (suc k) d x e = absurd (omega (arith, e))
  set_last (y ∷ ys) zero d x e = absurd (omega (arith, e))
  set_last (y ∷ ys) (suc k) d x e = ap (λ xs. y ∷ xs) (set_last ys k d x (omega (arith, e)))

module _ {A : Type 0} where
  -- it stands at its index, as one that is put where there was a free slot
  pub pushed_next : (xs : List (Option A)) (i : ℕ) (x : Option A) → i ≡ length xs + 1 → xs ++ x ∷ [] ≡ with_item (extended xs i) i x
  pushed_next xs zero x next = absurd (omega (arith, next))
  pushed_next xs (suc k) x next =
      let one : suc k - length xs ≡ 1 = omega (arith, next) in
      sym (ap (λ n. slice_set (xs ++ replicate n None) k x) one ∙ set_last xs k None x (omega (arith, next)))
