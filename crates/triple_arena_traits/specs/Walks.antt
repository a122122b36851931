-- Walks over the entries of an arena, by their indexes.
use Rattle.std.specs.Prelude.{◌≡◌, ℕ, ◌+◌, ◌-◌, ◌≤◌, nat_le, nat_lt, ◌&&◌, not, Bool, true, false, IsTrue, IsSome, cond, List, [], ◌∷◌, map, length, Option, Some, None, max, min, ◌⊎◌}
use Rattle.triple_arena_ptr.specs.Pointers.{Pointer}
use Rattle.triple_arena_traits.specs.Entries.{entry_in, look_up}

-- where an advancer stands: at an index, or nowhere, which is 0; and whether it goes downward
pub record Stand : Type 0 where
  pub place : ℕ
  pub reverse : Bool

-- an index as a place; nowhere where it is past the greatest
abbrev pub place_of : (greatest i : ℕ) → ℕ
place_of greatest i = cond (nat_le i greatest) i 0

-- where the advancer of an index stands: past the greatest index, a reverse one stands at the greatest
abbrev pub standing_at : (greatest i : ℕ) (reverse : Bool) → Stand
standing_at greatest i reverse = record { place = cond reverse (min i greatest) (place_of greatest i); reverse = reverse }

-- an index is ahead of a stand: a forward one is at or below it, a reverse one at or above it; nothing is ahead of nowhere
abbrev pub is_ahead : Stand → ℕ → Bool
is_ahead s i = nat_lt 0 s.place && cond s.reverse (nat_le i s.place) (nat_le s.place i)

-- the first index is met before the second
abbrev pub is_before : (s : Stand) (i j : ℕ) → Bool
is_before s i j = cond s.reverse (nat_lt j i) (nat_lt i j)

-- where a stand is after an answer, over so many slots: past the index that was answered; where there was none, a forward
-- one is past the slots and a reverse one nowhere
abbrev pub moved : (greatest n : ℕ) (s : Stand) (answer : Option Pointer) → Stand
moved greatest n s (Some p) = record s { place = cond s.reverse (p.0 - 1) (place_of greatest (p.0 + 1)) }
moved greatest n s None =
    record s { place = cond s.reverse 0 (cond (nat_lt 0 s.place) (place_of greatest (max s.place (n + 1) + 1)) 0) }

-- how many more steps answer a pointer at most, however the arena changes between them
abbrev pub steps_left : (greatest : ℕ) (s : Stand) → ℕ
steps_left greatest s = cond s.reverse s.place (cond (nat_lt 0 s.place) (greatest + 1 - s.place) 0)

module _ {T : Type 0} where
  -- the answer is the live pointer ahead that is met first, and there is none only where none is ahead
  abbrev pub Answers : List (Option (ℕ × T)) → Stand → Option Pointer → Type 0
  Answers slots s None = (i : ℕ) → IsTrue (is_ahead s i) → entry_in slots i ≡ None
  Answers slots s (Some p) =
      IsSome (look_up slots p) × IsTrue (is_ahead s p.0)
      × ((i : ℕ) → IsTrue (is_ahead s i) → IsTrue (is_before s i p.0) → entry_in slots i ≡ None)

  -- a step of an advancer over these slots, none of which is past the greatest index
  pub record Steps (greatest : ℕ) (slots : List (Option (ℕ × T))) (before : Stand) (answer : Option Pointer) (after : Stand) : Type 0 where
    pub answers : Answers slots before answer
    pub moves : after ≡ moved greatest (length slots) before answer
    pub within : length slots ≤ greatest

  -- a forward stand at the least live index, or nowhere where there is none; every entry is ahead of it
  pub record IsAtFirst (slots : List (Option (ℕ × T))) (s : Stand) : Type 0 where
    pub forward : s.reverse ≡ false
    pub live : (s.place ≡ 0) ⊎ IsSome (entry_in slots s.place)
    pub all : (i : ℕ) → IsSome (entry_in slots i) → IsTrue (is_ahead s i)

  -- a forward stand that every entry is ahead of
  pub record IsBeforeAll (slots : List (Option (ℕ × T))) (s : Stand) : Type 0 where
    pub forward : s.reverse ≡ false
    pub all : (i : ℕ) → IsSome (entry_in slots i) → IsTrue (is_ahead s i)

  -- a walk through arenas that may change from step to step: the slots at each step, and the pointer that it answered
  abbrev pub Walk : ℕ → Stand → List (List (Option (ℕ × T)) × Pointer) → Stand → Type 0
  Walk greatest s [] t = t ≡ s
  Walk greatest s ((slots, p) ∷ rest) t = (u : Stand) × Steps greatest slots s (Some p) u × Walk greatest u rest t

  -- the pointer and the value of the entry at an index before others, where there is one and it is asked for
  abbrev pub put_entry : Bool → ℕ → Option (ℕ × T) → List (Pointer × T) → List (Pointer × T)
  put_entry asked at None rest = rest
  put_entry asked at (Some e) rest = cond asked (((at, e.0), e.1) ∷ rest) rest

  -- the pointers and the values of the entries whose index meets a test, in rising order, where the first slot has the
  -- index `at`
  abbrev pub entries_where : (ℕ → Bool) → ℕ → List (Option (ℕ × T)) → List (Pointer × T)
  entries_where f at [] = []
  entries_where f at (slot ∷ rest) = put_entry (f at) at slot (entries_where f (at + 1) rest)

  -- all entries, in rising order, where the first slot has the index `at`
  abbrev pub entries_from : ℕ → List (Option (ℕ × T)) → List (Pointer × T)
  entries_from at slots = entries_where (λ i. true) at slots

  -- all entries, in rising order
  abbrev pub entries : List (Option (ℕ × T)) → List (Pointer × T)
  entries slots = entries_from 1 slots

  -- the entries ahead of a forward stand, in the order in which they are met
  abbrev pub entries_ahead : Stand → List (Option (ℕ × T)) → List (Pointer × T)
  entries_ahead s slots = entries_where (is_ahead s) 1 slots

  -- the others, in rising order: a forward stand has passed them
  abbrev pub entries_behind : Stand → List (Option (ℕ × T)) → List (Pointer × T)
  entries_behind s slots = entries_where (λ i. not (is_ahead s i)) 1 slots

  -- the pointers of entries
  abbrev pub keys_of : List (Pointer × T) → List Pointer
  keys_of = map (λ e. e.0)

  -- the values of entries
  abbrev pub values_of : List (Pointer × T) → List T
  values_of = map (λ e. e.1)

  -- the pointers of all entries, in rising order
  abbrev pub keys : List (Option (ℕ × T)) → List Pointer
  keys slots = keys_of (entries slots)

  -- the values of all entries, in the order of their pointers
  abbrev pub values : List (Option (ℕ × T)) → List T
  values slots = values_of (entries slots)

  -- the pointers ahead of a forward stand, in the order in which they are met
  abbrev pub keys_ahead : Stand → List (Option (ℕ × T)) → List Pointer
  keys_ahead s slots = keys_of (entries_ahead s slots)
