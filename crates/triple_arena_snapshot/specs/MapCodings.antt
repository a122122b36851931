-- How maps stand as bytes: how many entries there are, and each key with its value, in the order of the keys, which rise.
use Rattle.std.specs.Prelude.{ℕ, zero, suc, if◌then◌else◌, Bool, List, [], ◌∷◌, ◌++◌, length, Ok, Err}
use Rattle.std.specs.Int.{w64}
use Rattle.std.specs.List.{list_all}
use Rattle.std.specs.declared.cmp.Ordering.{Ordering}
use Rattle.std.specs.Ordering.{is_lt}
use Rattle.std.specs.Map.{keys_of}
use Rattle.triple_arena_snapshot.specs.declared.fault.Fault.TheVariants.{Order}
use Rattle.triple_arena_snapshot.specs.Coding.{Decoded, ◌>>=◌}
use Rattle.triple_arena_snapshot.specs.Codings.{number_at_front}

-- whether a key is above each of these
abbrev pub is_above : {K : Type 0} → (K → K → Ordering) → List K → K → Bool
is_above order keys k = list_all (λ j. is_lt (order j k)) keys

module _ {K L : Type 0} (order : K → K → Ordering) (key : List ℕ → Decoded K) (value : List ℕ → Decoded L) where
  -- the entries before, and so many behind them, each of a key above those before it
  abbrev pub entries_behind : List (K × L) → ℕ → List ℕ → Decoded (List (K × L))
  entries_behind before zero bytes = Ok (before, bytes)
  entries_behind before (suc n) bytes =
      key bytes >>= λ k. if is_above order (keys_of before) k.0
      then (value k.1 >>= λ v. entries_behind (before ++ (k.0, v.0) ∷ []) n v.1) else Err (Order, length bytes)

  abbrev pub entries_at_front : List ℕ → Decoded (List (K × L))
  entries_at_front bytes = number_at_front w64 bytes >>= λ n. entries_behind [] n.0 n.1
