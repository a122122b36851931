-- A cache of the last used keys: its keys with their values, and the ring in which it keeps them.
use Rattle.std.specs.Prelude.{◌≡◌, ℕ, zero, suc, ◌+◌, ◌≤◌, ◌<◌, List, [], ◌∷◌, length, nat_eq, Option, Some, None, Contains}
use Rattle.std.specs.HashMap.{HashMap, get}
use Rattle.std.specs.Map.{lookup, remove_entry}
use Rattle.std.specs.Option.{option_map, option_and_then}
use Rattle.triple_arena_chain.specs.Pointers.{Pointer}
use Rattle.triple_arena_chain.specs.Chains.{Node, value_at, after_at, IsLinked, IsRun}

-- what a cache has: each key with its value, the last used first; and how many it keeps at most
pub record CacheState (T : Type 0) : Type 0 where
  pub entries : List (ℕ × T)
  pub most : ℕ

-- the place of a key in a map of places
abbrev pub place_in : {P S : Type 0} → (P → Pointer) → HashMap ℕ P S → ℕ → Option Pointer
place_in numbers places k = option_map numbers (get nat_eq places k)

module _ {T : Type 0} where
  -- a cache after a key is used: it stands first with its value, where it has one
  abbrev pub put_first : ℕ → Option T → List (ℕ × T) → List (ℕ × T)
  put_first k None entries = entries
  put_first k (Some v) entries = (k, v) ∷ remove_entry (nat_eq k) entries

  abbrev pub used_first : ℕ → CacheState T → CacheState T
  used_first k s = record s { entries = put_first k (lookup (nat_eq k) s.entries) s.entries }

  -- of a value that is given, or not, and one that was had: which stays, and which is left over, if one is
  abbrev pub exchanged : (given : Option T) (had : T) → T × Option T
  exchanged None had = (had, None)
  exchanged (Some value) had = (value, Some had)

  -- the key and the value under a pointer; none where it finds nothing, or the one entry of the ring that has none
  abbrev pub use_at : (Pointer → Option (Node (Option (ℕ × T)))) → Pointer → Option (ℕ × T)
  use_at nodes p = option_and_then (λ pair. pair) (value_at nodes p)

  abbrev pub put_before : Option (ℕ × T) → List (ℕ × T) → List (ℕ × T)
  put_before None rest = []
  put_before (Some pair) rest = pair ∷ rest

  -- the keys and values from a pointer on, up to the entry that has none, of so many entries at most
  abbrev pub uses_from : ℕ → (Pointer → Option (Node (Option (ℕ × T)))) → Option Pointer → List (ℕ × T)
  uses_from zero nodes at = []
  uses_from (suc n) nodes None = []
  uses_from (suc n) nodes (Some p) = put_before (use_at nodes p) (uses_from n nodes (after_at nodes p))

  -- these pointers stand in one ring with the entry that has no key, which they follow, and there are no other entries; under
  -- each is a key whose place it is, and each place is one of them
  pub record IsOrder (nodes : Pointer → Option (Node (Option (ℕ × T)))) (len : ℕ) (bare : Pointer) (place : ℕ → Option Pointer) (most : ℕ) (order : List Pointer) : Type 0 where
    pub linked : IsLinked nodes
    pub run : IsRun nodes (bare ∷ order) (Some bare)
    pub keyless : value_at nodes bare ≡ Some None
    pub all : length order + 1 ≡ len
    pub placed : (p : Pointer) → Contains order p → (pair : ℕ × T) × (value_at nodes p ≡ Some (Some pair)) × (place pair.0 ≡ Some p)
    pub found : (k : ℕ) (p : Pointer) → place k ≡ Some p → Contains order p × (v : T) × (value_at nodes p ≡ Some (Some (k, v)))
    pub within : length order ≤ most
    pub some : 0 < most
