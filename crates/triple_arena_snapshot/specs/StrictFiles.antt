-- How a strict arena stands as bytes, with the law, in one term: as the arena inside, of which no entry is past the counter.
use Rattle.std.proofs.Common.{refl}
use Rattle.std.specs.Prelude.{◌≡◌, ℕ, ◌&&◌, Bool, false, if◌then◌else◌, List, length, Option, Err, Ok}
use Rattle.triple_arena_direct.specs.Gone.{is_any_past}
use Rattle.triple_arena_snapshot.specs.declared.fault.Fault.TheVariants.{Counter}
use Rattle.triple_arena_snapshot.specs.Coding.{Coding, Decoded, ◌>>=◌}
use Rattle.triple_arena_snapshot.specs.ArenaLayouts.{arena_coding}

-- whether an entry is of a generation past the counter, where generations count
abbrev pub is_past : {K : Type 0} (counting : Bool) → List (Option (ℕ × K)) × (ℕ × List ℕ) → Bool
is_past counting k = counting && is_any_past k.1.0 k.0

-- what is read, if no entry is of a generation past the counter: else that is a fault of the value as a whole
abbrev pub checked : {K : Type 0} (counting : Bool) → (List ℕ → Decoded (List (Option (ℕ × K)) × (ℕ × List ℕ))) → List ℕ → Decoded (List (Option (ℕ × K)) × (ℕ × List ℕ))
checked counting decoding bytes = decoding bytes >>= λ x. if is_past counting x.0 then Err (Counter, length bytes) else Ok x

-- a strict arena
abbrev pub strict_arena_coding : {K : Type 0} (counting : Bool) (last width : ℕ) (limit : Option ℕ) → Coding ℕ → Coding K → Coding (List (Option (ℕ × K)) × (ℕ × List ℕ))
strict_arena_coding counting last width limit generation value = let inside = arena_coding last width limit generation value in record {
  fits = λ k. inside.fits k × (is_past counting k ≡ false);
  encoding = inside.encoding;
  decoding = checked counting inside.decoding;
  decodes = λ k rest fits. rw (inside.decodes k rest fits.0, fits.1) refl;
}
