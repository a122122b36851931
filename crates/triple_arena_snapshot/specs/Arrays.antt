-- How arrays stand as bytes, with the law, in one term; and how values wait for their array.
use Rattle.std.specs.Prelude.{◌≡◌, ℕ, List, [], ◌∷◌, ◌++◌, length, map, Option, Some, None}
use Rattle.std.specs.List.{flat_map, AllByRecursion}
use Rattle.triple_arena_snapshot.specs.Coding.{Coding}
use Rattle.triple_arena_snapshot.specs.Codings.{many_at_front}
use Rattle.triple_arena_snapshot.specs.laws.ArrayLaws.{array_again}

-- so many values, in order
abbrev pub array : {K : Type 0} → ℕ → Coding K → Coding (List K)
array n c = record {
  fits = λ ks. (length ks ≡ n) × AllByRecursion c.fits ks;
  encoding = flat_map c.encoding;
  decoding = many_at_front c.decoding n;
  decodes = array_again n c.fits c.encoding c.decoding c.decodes;
}

-- the values of places, as far as each has one
abbrev pub values_of : {A : Type 0} → List (Option A) → List A
values_of [] = []
values_of (None ∷ places) = []
values_of (Some x ∷ places) = x ∷ values_of places

-- each place has a value
abbrev pub AreFull : {A : Type 0} → List (Option A) → Type 0
AreFull places = map Some (values_of places) ≡ places

-- there is a last place, and it has a value
abbrev pub EndsInValue : {A : Type 0} → List (Option A) → Type 0
EndsInValue {A} places = (x : A) × (others : List (Option A)) × (places ≡ others ++ Some x ∷ [])
