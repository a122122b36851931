-- What cloning answers, and what it leaves of an arena.
use Rattle.std.specs.Prelude.{◌≡◌, ◌≤◌, ℕ, Bool, true, false, List, [], ◌∷◌, ◌++◌, length, Option, Some, None, Result, Ok, Err, MatchResult, Contains}
use Rattle.triple_arena_base.specs.declared.errors.AllocError.{AllocError}
use Rattle.triple_arena_base.specs.declared.errors.CloneFromError.{CloneFromError}
use Rattle.triple_arena_base.specs.declared.errors.CloneFromError.TheVariants.{Reallocation, Map}
use Rattle.triple_arena_ptr.specs.Pointers.{Pointer}
use Rattle.triple_arena_traits.specs.Items.{item}
use Rattle.triple_arena_traits.specs.ArenaState.{is_free}
use Rattle.triple_arena_traits.specs.Walks.{entries}
use Rattle.triple_arena_traits.specs.FreeList.{last_index}

module _ {E : Type 0} where
  -- the answer of the copy, as cloning gives it
  abbrev pub IsCloneAnswer : Result (Unit {0}) E → Result (Unit {0}) (CloneFromError E) → Type 0
  IsCloneAnswer (Ok x) result = result ≡ Ok x
  IsCloneAnswer (Err refusal) result = result ≡ Err (Map refusal)

module _ {X E : Type 0} where
  -- there was no room
  abbrev pub IsRoomRefusal : Result X (CloneFromError E) → Type 0
  IsRoomRefusal (Ok x) = ⊥
  IsRoomRefusal (Err (Reallocation refusal)) = Unit {0}
  IsRoomRefusal (Err (Map refusal)) = ⊥

  -- a value was refused
  abbrev pub IsMapRefusal : Result X (CloneFromError E) → Type 0
  IsMapRefusal (Ok x) = ⊥
  IsMapRefusal (Err (Reallocation refusal)) = ⊥
  IsMapRefusal (Err (Map refusal)) = Unit {0}

-- the next generation of a source, or the first one where it has none
abbrev pub counter_of : ℕ → Option ℕ → ℕ
counter_of first None = first
counter_of first (Some counter) = counter

module _ {T : Type 0} (infallible : T → Type 0) where
  -- there is a first entry, and the clone of its value may be refused
  abbrev pub FirstMayFail : List (Pointer × T) → Type 0
  FirstMayFail [] = ⊥
  FirstMayFail (e ∷ others) = ¬ (infallible e.1)

  -- there is an entry, and the clone of its value may be refused
  abbrev pub SomeMayFail : List (Pointer × T) → Type 0
  SomeMayFail source = (e : Pointer × T) × Contains source e × ¬ (infallible e.1)

  -- these slots hold the entries of a source, up to the first whose clone is refused, and end with the last of them
  pub record IsFront (source : List (Pointer × T)) (answer : Result (Unit {0}) AllocError) (slots : List (Option (ℕ × T))) : Type 0 where
    pub rest : List (Pointer × T)
    pub split : source ≡ entries slots ++ rest
    pub ends_live : is_free (item slots (length slots)) ≡ false
    pub ends : MatchResult answer (λ _. rest ≡ []) (λ _. FirstMayFail rest)

-- what cloning sees of a kind of arena: the slots; how many entries fit; and what a clone makes of an arena, by the last
-- index and the next generation of its source, and the slots that were copied
pub record Clonable (A T : Type 0) : Type 1 where
  pub slots : A → List (Option (ℕ × T))
  pub capacity : A → ℕ
  pub clones : A → ℕ → Option ℕ → List (Option (ℕ × T)) → A → Type 0

module _ {A T : Type 0} where
  -- a kind of arena as cloning sees it, of its three parts
  abbrev pub clonable : (slots : A → List (Option (ℕ × T))) (capacity : A → ℕ) (clones : A → ℕ → Option ℕ → List (Option (ℕ × T)) → A → Type 0) → Clonable A T
  clonable slots capacity clones = record { slots = slots; capacity = capacity; clones = clones }

  -- the index of the last entry
  abbrev pub end_of : Clonable A T → A → ℕ
  end_of kind a = last_index (kind.slots a)

module _ {A B T U : Type 0} (from : Clonable A T) (into : Clonable B U) where
  -- the second arena is cloned from the first with no refusal, so that both end with the same index; the capacity of each
  -- reaches it, as that of every arena does
  pub record ClonesInto (source : A) (old new : B) : Type 0 where
    pub next : Option ℕ
    pub copy : List (Option (ℕ × U))
    pub cloned : into.clones old (end_of from source) next copy new
    pub same_end : end_of into new ≡ end_of from source
    pub source_fits : end_of from source ≤ from.capacity source
    pub fits : end_of into new ≤ into.capacity new

module _ {A B T U : Type 0} (one : Clonable A T) (other : Clonable B U) where
  -- of two arenas one is cloned into the other: the first into the second, or the second into the first
  abbrev pub CloneTurn : A × B → Bool → A × B → Type 0
  CloneTurn old true new = (new.0 ≡ old.0) × ClonesInto one other old.0 old.1 new.1
  CloneTurn old false new = (new.1 ≡ old.1) × ClonesInto other one old.1 old.0 new.0
