-- Unions one after another, and how often a key's set gets another name by them.
use Rattle.std.specs.Prelude.{◌≡◌, ◌≢◌, ◌⊎◌, ℕ, ◌+◌, List, [], ◌∷◌, Option}
use Rattle.triple_arena_ptr.specs.Pointers.{Pointer}
use Rattle.triple_arena_surject.specs.Surject.{SurjectState, set_at, IsUnion}

module _ {A B K V : Type 0} where
  -- each of these states is made by a union of two sets of the one before
  abbrev pub AreUnions : SurjectState A B K V → List (SurjectState A B K V) → Type 0
  AreUnions s [] = Unit {0}
  AreUnions s (t ∷ ts) = ((p q : Pointer) × (gives : Option V) × IsUnion s p q gives t) × AreUnions t ts

  -- the last of these states
  abbrev pub last_of : SurjectState A B K V → List (SurjectState A B K V) → SurjectState A B K V
  last_of s [] = s
  last_of s (t ∷ ts) = last_of t ts

  -- from state to state the set of a pointer gets another name so often
  abbrev pub IsRenamedOften : SurjectState A B K V → List (SurjectState A B K V) → Pointer → ℕ → Type 0
  IsRenamedOften s [] r k = k ≡ 0
  IsRenamedOften s (t ∷ ts) r k =
      ((set_at t r ≡ set_at s r) × IsRenamedOften t ts r k)
      ⊎ ((j : ℕ) × (k ≡ j + 1) × (set_at t r ≢ set_at s r) × IsRenamedOften t ts r j)
