-- Two arenas, of which the values of each hold pointers to the other alone.
use Rattle.std.proofs.Common.{◌≡◌, ℕ, List, [], ◌∷◌, ◌++◌, length, Option, refl, sym, ap, ◌∙◌, arith}
use Rattle.triple_arena_base.specs.Held.{KeepsHeld, held_all}
use Rattle.triple_arena_base.specs.Readings.{FollowsNames}
use Rattle.triple_arena_base.specs.declared.errors.CompactError.{CompactError}
use Rattle.triple_arena_recasting.specs.declared.errors.CompactBothError.{CompactBothError}
use Rattle.triple_arena_recasting.specs.declared.errors.CompactBothError.TheVariants.{First, Second}
use Rattle.triple_arena_ptr.specs.Pointers.{Pointer}
use Rattle.triple_arena_traits.specs.Entries.{entry_count}
use Rattle.triple_arena_traits.specs.Walks.{values}
use Rattle.triple_arena_recasting.specs.Renaming.{first_unresolved, Refuses, RefusesStray}
use Rattle.triple_arena_recasting.specs.RenamingBoth.{StandApart, RefusesBoth, RefusesBothStray}
use Rattle.triple_arena_recasting.specs.laws.RenamingLaws.{many_renamed, front_resolved, held_resolve, refuses_stray}

-- values that hold nothing
module _ {P T : Type 0} (held : T → List P) (nothing : (v : T) → held v ≡ []) where
  -- hold nothing together
  pub none_in_all : (vs : List T) → held_all held vs ≡ []
  none_in_all [] = refl
  none_in_all (v ∷ vs) = ap (λ l. l ++ held_all held vs) (nothing v) ∙ none_in_all vs

  -- and stay, where they are filled with as much
  pub none_put : (refill : T → List P → T) → KeepsHeld held refill → (v : T) (l : List P) → length l ≡ length (held v) → refill v l ≡ v
  none_put refill law v [] count = ap (refill v) (sym (nothing v)) ∙ law v
  none_put refill law v (p ∷ l) count = let none : length (held v) ≡ 0 = ap length (nothing v) in absurd (omega arith)

  -- so that any other kind stands apart from them
  pub none_apart : {Q : Type 0} (refill : T → List P → T) → KeepsHeld held refill → (held_too : T → List Q) (refill_too : T → List Q → T) → StandApart held refill held_too refill_too
  none_apart refill law held_too refill_too =
      ((λ v ps count. ap held_too (none_put refill law v ps count)), (λ v qs count. nothing (refill_too v qs) ∙ sym (nothing v)))

  -- and what is read of them stays
  pub none_read : {R : Type 0} (numbers : P → Pointer) (refill : T → List P → T) → KeepsHeld held refill → (read : T → R) → FollowsNames numbers held refill read (λ rename r. r)
  none_read numbers refill law read rename v l names = ap read (none_put refill law v l (many_renamed numbers rename (held v) l names))

  -- the first pointer that finds nothing is another's
  pub stray_beside : {S U : Type 0} (numbers : P → Pointer) (held_beside : U → List P) (slots : List (Option (ℕ × S))) (holders : List (Option (ℕ × U))) (vs : List T) (refusal : CompactError P)
      → Refuses (entry_count slots) (first_unresolved numbers slots (held_all held vs ++ held_all held_beside (values holders))) refusal → RefusesStray numbers slots held_beside holders refusal
  stray_beside numbers held_beside slots holders vs refusal refuses = refuses_stray held_beside numbers slots holders refusal (rw (none_in_all vs) at refuses)

-- why neither of two arenas was compacted, in look-ups
module _ {P Q T U : Type 0} (numbers : P → Pointer) (numbers_too : Q → Pointer) (own : T → List P) (held_too : T → List Q) (held : U → List P) (own_too : U → List Q)
    (none : (v : T) → own v ≡ []) (none_too : (v : U) → own_too v ≡ []) (slots : List (Option (ℕ × T))) (slots_too : List (Option (ℕ × U))) where
  pub both_stray : (refusal : CompactBothError P Q)
      → RefusesBoth (entry_count slots) (first_unresolved numbers slots (held_all own (values slots) ++ held_all held (values slots_too)))
      (entry_count slots_too) (first_unresolved numbers_too slots_too (held_all own_too (values slots_too) ++ held_all held_too (values slots))) refusal
      → RefusesBothStray numbers numbers_too slots held slots_too held_too refusal
  both_stray (First refusal) refuses = stray_beside own none numbers held slots slots_too (values slots) refusal refuses
  both_stray (Second refusal) (resolved, refuses) = (
    held_resolve held numbers slots slots_too (front_resolved numbers slots (held_all own (values slots)) (held_all held (values slots_too)) resolved).1,
    stray_beside own_too none_too numbers_too held_too slots_too slots (values slots_too) refusal refuses,
  )
