-- Walks round a ring.
use Rattle.std.specs.Prelude.{List, [], ◌∷◌, length}
use Rattle.std.proofs.Common.{◌≡◌, ℕ, zero, suc, Option, Some, None, refl, sym, ap, ◌∙◌}
use Rattle.triple_arena_ptr.specs.Pointers.{Pointer}
use Rattle.triple_arena_chain.specs.Chains.{Node, after_at, IsRun}
use Rattle.triple_arena_surject.specs.Rings.{along}

module _ {T : Type 0} (nodes : Pointer → Option (Node T)) where
  -- a walk along a run is the run
  along_run : (p : Pointer) (rest : List Pointer) (then : Option Pointer) → IsRun nodes (p ∷ rest) then → along nodes (length (p ∷ rest)) (Some p) ≡ p ∷ rest
  along_run p [] then is = refl
  along_run p (q ∷ qs) then is = ap (λ ps. p ∷ ps) (ap (along nodes (suc (length qs))) is.1 ∙ along_run q qs then is.2)

  -- from nowhere it goes nowhere
  pub along_nowhere : (n : ℕ) → along nodes n None ≡ []
  along_nowhere zero = refl
  along_nowhere (suc n) = refl

  -- where more are left, it goes on behind its first
  pub along_taken : (n m : ℕ) (next : Option Pointer) (p : Pointer) (then : Option Pointer) → n ≡ suc m → next ≡ Some p → then ≡ after_at nodes p → along nodes n next ≡ p ∷ along nodes m then
  along_taken n m next p then more is so = ap (λ k. along nodes k next) more ∙ ap (along nodes (suc m)) is ∙ ap (λ q. p ∷ along nodes m q) (sym so)

  -- a walk round a ring of so many
  pub along_round : (p : Pointer) (rest : List Pointer) (n : ℕ) → IsRun nodes (p ∷ rest) (Some p) → length (p ∷ rest) ≡ n → along nodes n (Some p) ≡ p ∷ rest
  along_round p rest n run size = ap (λ k. along nodes k (Some p)) (sym size) ∙ along_run p rest (Some p) run
