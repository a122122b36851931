-- Where an option holds something.
use Rattle.std.proofs.Common.{◌≡◌, ℕ, ◌<◌, List, length, Option, Some, None, is_some, IsSome, slice_get, refl, sym, ap, ◌∙◌, inl, inr, true≢false, arith}
use Rattle.std.proofs.lemmas.Option.{slice_get_cases}
use Rattle.std.specs.Option.{option_map}

-- a value is there where it is there once it is mapped
pub some_mapped : {A B : Type 0} (f : A → B) (o : Option A) (p : Option B) → option_map f o ≡ p → IsSome p → IsSome o
some_mapped f None p is there = absurd (true≢false (sym (ap is_some is ∙ there)))
some_mapped f (Some x) p is there = refl

-- an item is there below the length
pub some_below : {A : Type 0} (xs : List A) (i : ℕ) → i < length xs → IsSome (slice_get xs i)
some_below xs i within =
    elim (slice_get_cases xs i).1 [
      | inl here ↦ ap is_some here.2
      | inr past ↦ absurd (omega (arith, past.0, within))
    ]

-- nothing is there where nothing is there once it is mapped
pub none_mapped : {A B : Type 0} (f : A → B) (o : Option A) → None ≡ option_map f o → o ≡ None
none_mapped f None none = refl
none_mapped f (Some x) none = absurd (cc)
