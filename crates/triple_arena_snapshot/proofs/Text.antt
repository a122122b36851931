-- Text as it is read: by how many bytes it has, and whether they are UTF-8.
use Rattle.std.proofs.Common.{◌≡◌, ℕ, Bool, true, false, List, Ok, Err, refl}
use Rattle.std.specs.Prelude.{length}
use Rattle.std.specs.Int.{w64}
use Rattle.std.specs.Str.{IsUtf8, is_utf8}
use Rattle.std.proofs.lemmas.Str.{IsUtf8-from_is_utf8}
use Rattle.triple_arena_snapshot.specs.declared.fault.Fault.TheVariants.{Text}
use Rattle.triple_arena_snapshot.specs.Codings.{number_at_front, front_of, text_at_front}

module _ (bytes : List ℕ) (n : ℕ) (rest front behind : List ℕ) (counted : number_at_front w64 bytes ≡ Ok (n, rest)) (split : front_of n rest ≡ Ok (front, behind)) where
  pub text_read : is_utf8 front ≡ true → text_at_front bytes ≡ Ok (front, behind)
  text_read test = rw (counted, split, test) refl

  pub text_refused : is_utf8 front ≡ false → text_at_front bytes ≡ Err (Text, length rest)
  text_refused test = rw (counted, split, test) refl

by_test : (b : Bool) → (b ≡ true → ⊥) → b ≡ false
by_test true h = absurd (h refl)
by_test false h = refl

-- bytes that aren't UTF-8 fail the test
pub fails_test : (bytes : List ℕ) → (IsUtf8 bytes → ⊥) → is_utf8 bytes ≡ false
fails_test bytes refuse = by_test (is_utf8 bytes) (λ e. refuse (IsUtf8-from_is_utf8 bytes e))
