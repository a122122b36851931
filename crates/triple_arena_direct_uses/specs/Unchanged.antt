-- What a refusal leaves of several things together.
use Rattle.std.specs.Prelude.{◌≡◌}

-- both are as before
pub record AreUnchanged {A B : Type 0} (old new : A) (old_too new_too : B) : Type 0 where
  pub first : new ≡ old
  pub second : new_too ≡ old_too

-- so of three
pub record AllUnchanged {A B C : Type 0} (old new : A) (old_too new_too : B) (old_third new_third : C) : Type 0 where
  pub first : new ≡ old
  pub second : new_too ≡ old_too
  pub third : new_third ≡ old_third
