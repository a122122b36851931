-- How values stand as bytes, in one term: their bytes, what is read of bytes, and the law that ties both. An impl of `Codec`
-- names such a term. A list of bytes is a list of numbers below 256.
use Rattle.std.specs.Prelude.{◌≡◌, ℕ, Bool, true, false, List, [], ◌∷◌, ◌++◌, length, Result, Ok, Err}
use Rattle.triple_arena_snapshot.specs.declared.fault.Fault.{Fault}
use Rattle.triple_arena_snapshot.specs.declared.fault.Fault.TheVariants.{Trailing}
use Rattle.triple_arena_snapshot.specs.declared.fault.DecodeError.{DecodeError}
use Rattle.triple_arena_snapshot.specs.declared.fault.DecodeError.TheVariants as errors

-- what is read of bytes, or the first fault in them, and how many bytes were left where it stands
abbrev pub Reading : Type 0 → Type 0
Reading A = Result A (Fault × ℕ)

-- what is read of the front of bytes: a value, and the bytes behind it
abbrev pub Decoded : Type 0 → Type 0
Decoded K = Reading (K × List ℕ)

-- what is read next, by what was read
infixl 10 ◌>>=◌
abbrev pub ◌>>=◌ : {A B : Type 0} → Reading A → (A → Reading B) → Reading B
(Ok x) >>= f = f x
(Err e) >>= f = Err e

-- what was read, if nothing is left behind it
abbrev pub alone : {K : Type 0} → K × List ℕ → Reading K
alone (k, []) = Ok k
alone (k, b ∷ rest) = Err (Trailing, length (b ∷ rest))

-- what is read of bytes, all of them
abbrev pub whole : {K : Type 0} → (List ℕ → Decoded K) → List ℕ → Reading K
whole decoding bytes = decoding bytes >>= alone

-- how values of K stand as bytes: those that fit are read again, whatever stands behind them, which is left
pub record Coding (K : Type 0) : Type 1 where
  pub fits : K → Type 0
  pub encoding : K → List ℕ
  pub decoding : List ℕ → Decoded K
  pub decodes : (k : K) (rest : List ℕ) → fits k → decoding (encoding k ++ rest) ≡ Ok (k, rest)

-- a refusal is the first fault, unless it is for want of memory
abbrev pub Fails : {Y : Type 0} → DecodeError → Reading Y → Type 0
Fails errors.Memory read = Unit {0}
Fails (errors.Malformed fault left) read = read ≡ Err (fault, left)

-- what a function returned, as `content` sees it, is what is read, unless memory was refused
abbrev pub Gives : {X Y : Type 0} → (X → Y) → Result X DecodeError → Reading Y → Type 0
Gives content (Ok x) read = read ≡ Ok (content x)
Gives content (Err e) read = Fails e read

-- why no value was read, by whether reading one asks for memory: one that asks for none isn't refused any
abbrev pub MayFail : (asks : Bool) → DecodeError → Type 0
MayFail true e = Unit {0}
MayFail false errors.Memory = ⊥
MayFail false (errors.Malformed fault left) = Unit {0}
