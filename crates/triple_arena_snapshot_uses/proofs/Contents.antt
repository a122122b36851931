-- Contents of values, and of what is loaded.
use Rattle.std.proofs.Common.{◌≡◌, ℕ, Option, Some, None, Result, Ok, Err, IfOk, refl, sym, ap}
use Rattle.std.specs.Option.{option_map}
use Rattle.triple_arena_snapshot.specs.declared.fault.LoadError.{LoadError}
use Rattle.triple_arena_snapshot.specs.Coding.{Reading}
use Rattle.triple_arena_snapshot.specs.Files.{LoadsFrom}

-- a number is its own content
pub same_numbers : (o : Option ℕ) → option_map (λ n. n) o ≡ o
same_numbers None = refl
same_numbers (Some n) = refl

-- what was read, or another
abbrev pub read_or : {K : Type 0} → K → Reading K → K
read_or other (Ok k) = k
read_or other (Err e) = other

-- what holds of each value of a content holds of the value that was loaded of it
pub of_loaded : {X K : Type 0} (content : X → K) (k : K) (Good : X → Type 0) (result : Result X LoadError) → LoadsFrom content result (Ok k)
    → ((x : X) → content x ≡ k → Good x) → IfOk result Good
of_loaded content k Good (Ok x) loaded good = good x (sym (ap (read_or k) loaded))
of_loaded content k Good (Err e) loaded good = tt
