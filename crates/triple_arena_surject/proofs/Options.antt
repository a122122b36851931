-- Of options: what is there, and what isn't.
use Rattle.std.proofs.Common.{◌≡◌, Option, Some, None, IsSome, refl, sym, subst}
use Rattle.std.specs.Option.{option_map}

module _ {A : Type 0} where
  pub some_there : (o : Option A) (x : A) → o ≡ Some x → IsSome o
  some_there o x is = subst IsSome (sym is) refl

  pub none_there : (o : Option A) → o ≡ None → IsSome o → ⊥
  none_there None is some = absurd (cc)
  none_there (Some x) is some = absurd (cc)

  pub some_is : (o : Option A) → IsSome o → (x : A) × (o ≡ Some x)
  some_is None some = absurd (cc)
  some_is (Some x) some = (x, refl)

  pub some_of_map : {B : Type 0} (f : A → B) (o : Option A) → IsSome (option_map f o) → IsSome o
  some_of_map f None some = some
  some_of_map f (Some x) some = refl

  pub map_of_some : {B : Type 0} (f : A → B) (o : Option A) → IsSome o → IsSome (option_map f o)
  map_of_some f None some = some
  map_of_some f (Some x) some = refl
