-- What the tickets of leases find, once they are renamed.
use Rattle.std.proofs.Common.{◌≡◌, ℕ, List, [], ◌∷◌, map, not, cond, Option, Some, None, is_some, IsSome, refl, sym, ap, ◌∙◌}
use Rattle.std.specs.Option.{option_map}
use Rattle.triple_arena_base.specs.Held.{held_all, held_itself, held_nothing}
use Rattle.triple_arena_ptr.specs.Pointers.{Pointer}
use Rattle.triple_arena.specs.Entries.{look_up}
use Rattle.triple_arena_direct.specs.Renaming.{first_unresolved}

-- items that hold themselves, and values that hold none
held_themselves : {I : Type 0} (xs : List I) → held_all held_itself xs ≡ xs
held_themselves [] = refl
held_themselves (x ∷ xs) = ap (λ ys. x ∷ ys) (held_themselves xs)

pub nothing_held : {I T : Type 0} (xs : List T) → held_all (held_nothing {I = I}) xs ≡ []
nothing_held [] = refl
nothing_held (x ∷ xs) = nothing_held xs

pub nothing_filled : {T : Type 0} (o : Option T) → option_map (λ v. v) o ≡ o
nothing_filled None = refl
nothing_filled (Some x) = refl

-- the first of some pointers finds something, if each does
head_live : {P T : Type 0} (found : Option T) (p : P) (rest : Option P) → cond (not (is_some found)) (Some p) rest ≡ None
    → IsSome found × (rest ≡ None)
head_live None p rest none = absurd cc
head_live (Some x) p rest none = (refl, none)

-- tickets that are held themselves, and their new ones
pub names_kept : {P : Type 0} (numbers : P → Pointer) (rename : Pointer → Pointer) (ps qs : List P)
    → map numbers (held_all held_itself qs) ≡ map rename (map numbers (held_all held_itself ps))
    → map numbers qs ≡ map rename (map numbers ps)
names_kept numbers rename ps qs names =
    ap (map numbers) (sym (held_themselves qs)) ∙ names ∙ ap (λ xs. map rename (map numbers xs)) (held_themselves ps)

module _ {P T : Type 0} (numbers : P → Pointer) (rename : Pointer → Pointer) (old new : List (Option (ℕ × T)))
    (found : (q : Pointer) → IsSome (look_up old q) → look_up new (rename q) ≡ look_up old q) where
  -- where each of some pointers finds something, their new pointers find the same
  same_found : (ps qs : List P) → first_unresolved numbers old ps ≡ None → map numbers qs ≡ map rename (map numbers ps)
      → map (λ p. look_up new (numbers p)) qs ≡ map (λ p. look_up old (numbers p)) ps
  same_found [] [] none names = refl
  same_found [] (q ∷ qs) none names = absurd cc
  same_found (p ∷ ps) [] none names = absurd cc
  same_found (p ∷ ps) (q ∷ qs) none names =
      let live = head_live (look_up old (numbers p)) p (first_unresolved numbers old ps) none in
      let head : numbers q ≡ rename (numbers p) = cc in
      let tail : map numbers qs ≡ map rename (map numbers ps) = cc in
      ap (λ x. x ∷ map (λ r. look_up new (numbers r)) qs) (ap (look_up new) head ∙ found (numbers p) live.0)
      ∙ ap (λ xs. look_up old (numbers p) ∷ xs) (same_found ps qs live.1 tail)

  pub kept_found : (ps qs : List P) → None ≡ first_unresolved numbers old (held_all held_itself ps)
      → map numbers (held_all held_itself qs) ≡ map rename (map numbers (held_all held_itself ps))
      → map (λ p. look_up new (numbers p)) qs ≡ map (λ p. look_up old (numbers p)) ps
  kept_found ps qs none names =
      same_found ps qs (ap (first_unresolved numbers old) (sym (held_themselves ps)) ∙ sym none) (names_kept numbers rename ps qs names)

-- the first of some pointers that finds nothing, as a holder of them tells it
pub first_kept : {P T : Type 0} (numbers : P → Pointer) (slots : List (Option (ℕ × T))) (ps : List P) (first : Option P)
    → first ≡ first_unresolved numbers slots (held_all held_itself ps) → first_unresolved numbers slots ps ≡ first
first_kept numbers slots ps first is = ap (first_unresolved numbers slots) (sym (held_themselves ps)) ∙ sym is
