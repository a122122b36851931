-- What the calls of `InvalidationOption` and `InvalidationResult` answer, by variant.
use Rattle.std.specs.Prelude.{◌≡◌, Bool, true, false, Option, Some, None, Result, Ok, Err, ⊤}
use Rattle.triple_arena_base.specs.declared.invalidation.InvalidationOption.{InvalidationOption}
use Rattle.triple_arena_base.specs.declared.invalidation.InvalidationOption.TheVariants as option
use Rattle.triple_arena_base.specs.declared.invalidation.InvalidationResult.{InvalidationResult}
use Rattle.triple_arena_base.specs.declared.invalidation.InvalidationResult.TheVariants.{Success, GenerationOverflow, InvalidPtr}

abbrev pub is_success_option : {T : Type 0} → InvalidationOption T → Bool
is_success_option (option.Success t) = true
is_success_option (option.GenerationOverflow t) = false

abbrev pub allowed_option : {T : Type 0} → InvalidationOption T → T
allowed_option (option.Success t) = t
allowed_option (option.GenerationOverflow t) = t

abbrev pub strict_option : {T : Type 0} → InvalidationOption T → Result T T
strict_option (option.Success t) = Ok t
strict_option (option.GenerationOverflow t) = Err t

abbrev pub overflowing_option : {T : Type 0} → InvalidationOption T → T × Bool
overflowing_option (option.Success t) = (t, false)
overflowing_option (option.GenerationOverflow t) = (t, true)

-- the second has the variant of the first, with a value x in the place of t such that `takes t x`
abbrev pub MapsOption : {T U : Type 0} → (T → U → Type 0) → InvalidationOption T → InvalidationOption U → Type 0
MapsOption {U = U} takes (option.Success t) v = (x : U) × (takes t x × (v ≡ option.Success x))
MapsOption {U = U} takes (option.GenerationOverflow t) v = (x : U) × (takes t x × (v ≡ option.GenerationOverflow x))

abbrev pub is_success : {T : Type 0} → InvalidationResult T → Bool
is_success (Success t) = true
is_success (GenerationOverflow t) = false
is_success InvalidPtr = false

abbrev pub is_overflow : {T : Type 0} → InvalidationResult T → Bool
is_overflow (Success t) = false
is_overflow (GenerationOverflow t) = true
is_overflow InvalidPtr = false

abbrev pub is_invalid : {T : Type 0} → InvalidationResult T → Bool
is_invalid (Success t) = false
is_invalid (GenerationOverflow t) = false
is_invalid InvalidPtr = true

abbrev pub allowed : {T : Type 0} → InvalidationResult T → Option T
allowed (Success t) = Some t
allowed (GenerationOverflow t) = Some t
allowed InvalidPtr = None

abbrev pub strict : {T : Type 0} → InvalidationResult T → Result T (Option T)
strict (Success t) = Ok t
strict (GenerationOverflow t) = Err (Some t)
strict InvalidPtr = Err None

abbrev pub overflowing : {T : Type 0} → InvalidationResult T → Option T × Bool
overflowing (Success t) = (Some t, false)
overflowing (GenerationOverflow t) = (Some t, true)
overflowing InvalidPtr = (None, false)

abbrev pub as_option : {T : Type 0} → InvalidationResult T → Option (InvalidationOption T)
as_option (Success t) = Some (option.Success t)
as_option (GenerationOverflow t) = Some (option.GenerationOverflow t)
as_option InvalidPtr = None

-- p holds of the value, if there is one
abbrev pub ForValue : {T : Type 0} → InvalidationResult T → (T → Type 0) → Type 0
ForValue (Success t) p = p t
ForValue (GenerationOverflow t) p = p t
ForValue InvalidPtr p = ⊤

abbrev pub MapsResult : {T U : Type 0} → (T → U → Type 0) → InvalidationResult T → InvalidationResult U → Type 0
MapsResult {U = U} takes (Success t) v = (x : U) × (takes t x × (v ≡ Success x))
MapsResult {U = U} takes (GenerationOverflow t) v = (x : U) × (takes t x × (v ≡ GenerationOverflow x))
MapsResult takes InvalidPtr v = v ≡ InvalidPtr
