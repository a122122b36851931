-- Compression of an arena, and where it moves the entries.
use Rattle.std.specs.Prelude.{ℕ, ◌==◌, Bool, false, cond, List, [], ◌∷◌, map, take, Option, Some, unwrap_or}
use Rattle.triple_arena_ptr.specs.Pointers.{Pointer}
use Rattle.triple_arena_traits.specs.Entries.{entry_count}
use Rattle.triple_arena_traits.specs.ArenaState.{ArenaState, arena_len}

module _ {T : Type 0} where
  -- entries with these values, in their order, from index 1 on, each under this generation
  abbrev pub closed_up : ℕ → List T → List (Option (ℕ × T))
  closed_up generation values = map (λ value. Some (generation, value)) values

  -- compression: there are entries with these values, from index 1 on, under this counter, and no other slot
  abbrev pub compressed : ArenaState T → ℕ → List T → ArenaState T
  compressed s counter values = record s { slots = closed_up counter values; counter = counter; free = [] }

  -- the counter, raised if there is an entry
  abbrev pub raised_if_any : (ℕ → ℕ) → ArenaState T → ℕ
  raised_if_any raise s = cond (arena_len s == 0) s.counter (raise s.counter)

  -- the counter after a compression: the first one with a reset, else raised if there is an entry
  abbrev pub counter_after : (first : ℕ) (raise : ℕ → ℕ) (reset : Bool) → ArenaState T → ℕ
  counter_after first raise reset s = cond reset first (raised_if_any raise s)

  -- whether a compression wraps the counter: never with a reset, nor without entries
  abbrev pub wraps_after : (ℕ → Bool) → Bool → ArenaState T → Bool
  wraps_after wraps reset s = cond reset false (cond (arena_len s == 0) false (wraps s.counter))

  -- the number of the entry at an index among the entries, counted from 1: how many there are up to it
  abbrev pub rank_among : List (Option (ℕ × T)) → ℕ → ℕ
  rank_among slots i = entry_count (take i slots)

  -- where compression under a counter moves the entry of a pointer: the k-th entry to index k
  abbrev pub rank : ArenaState T → ℕ → Pointer → Pointer
  rank s counter p = (rank_among s.slots p.0, counter)

module _ {T : Type 0} where
  -- where a compression moves the entry of a pointer in these slots: under this generation, or under its own where none is
  -- given
  abbrev pub rank_in : Option ℕ → List (Option (ℕ × T)) → Pointer → Pointer
  rank_in generation slots p = (rank_among slots p.0, unwrap_or generation p.1)

  -- entries with these values, in their order, from index 1 on, under the generations of these pointers
  abbrev pub placed : List Pointer → List T → List (Option (ℕ × T))
  placed [] values = []
  placed (p ∷ ps) [] = []
  placed (p ∷ ps) (value ∷ values) = Some (p.1, value) ∷ placed ps values
