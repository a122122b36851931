-- Compaction that renames: the map from old pointers to new ones, and what becomes of the pointers that values hold.
use Rattle.std.specs.Prelude.{◌≡◌, ◌<◌, not, ℕ, List, map, Option, Some, None, is_some, IsSome, Contains}
use Rattle.std.specs.Option.{option_map}
use Rattle.std.specs.List.{find, AllZip}
use Rattle.triple_arena_base.specs.declared.errors.ReallocationError.{ReallocationError}
use Rattle.triple_arena_base.specs.declared.errors.ReallocationError.TheVariants.{AllocError}
use Rattle.triple_arena_base.specs.declared.errors.CompactError.{CompactError}
use Rattle.triple_arena_base.specs.declared.errors.CompactError.TheVariants.{Unresolved, Reallocation}
use Rattle.triple_arena_ptr.specs.Pointers.{Pointer}
use Rattle.triple_arena_stack.specs.Capacity.{IsWithin}
use Rattle.triple_arena_stack.specs.StackKind.{StackKind, new_room, new_limit, reallocated_room}
use Rattle.triple_arena_traits.specs.Entries.{look_up, entry_count}

module _ {P T : Type 0} (numbers : P → Pointer) where
  -- the map has, for each pointer of these slots, its new pointer, and none for any other
  abbrev pub MapsPointers : (Pointer → Pointer) → List (Option (ℕ × T)) → List (Option (ℕ × P)) → Type 0
  MapsPointers rename slots images = (p : Pointer) → option_map numbers (look_up images p) ≡ option_map (λ _. rename p) (look_up slots p)

  -- the first of these pointers that finds nothing in the slots, if there is one
  abbrev pub first_unresolved : List (Option (ℕ × T)) → List P → Option P
  first_unresolved slots ps = find (λ p. not (is_some (look_up slots (numbers p)))) ps

-- what values lead to, that are found in the one slots, and hold pointers to the entries of the other
module _ {P T U : Type 0} (numbers : P → Pointer) (slots : List (Option (ℕ × T))) (held : U → List P) (holders : List (Option (ℕ × U))) where
  -- each pointer that one of them holds finds an entry
  abbrev pub AllResolve : Type 0
  AllResolve = (q : Pointer) (v : U) (p : P) → look_up holders q ≡ Some v → Contains (held v) p → IsSome (look_up slots (numbers p))

  -- one of them holds this pointer, which finds nothing
  pub record IsStray (p : P) : Type 0 where
    pub dead : look_up slots (numbers p) ≡ None
    pub holder : Pointer
    pub value : U
    pub found : look_up holders holder ≡ Some value
    pub holds : Contains (held value) p

-- what is renamed, of which these are the pointers that values hold, as numbers
module _ {P T : Type 0} (numbers : P → Pointer) (rename : Pointer → Pointer) (held : T → List P) (refill : T → List P → T) where
  -- a value, and the same with each pointer that it holds renamed once: it holds the new pointers, in their order, and is the
  -- old value with these in it
  pub record IsRenamed (old new : T) : Type 0 where
    pub holds : map numbers (held new) ≡ map rename (map numbers (held old))
    pub filled : new ≡ refill old (held new)

  -- values, and the same, in their order, with each pointer that they hold renamed once
  abbrev pub AreRenamed : List T → List T → Type 0
  AreRenamed olds news = AllZip IsRenamed olds news

  -- what is found, and what is found after: nothing, or a value, and the same with each pointer that it holds renamed once
  pub record IsFoundRenamed (before after : Option T) : Type 0 where
    pub holds : option_map (λ v. map numbers (held v)) after ≡ option_map (map rename) (option_map (λ v. map numbers (held v)) before)
    pub pointers : List P
    pub pointers_held : option_map held after ≡ option_map (λ _. pointers) before
    pub filled : after ≡ option_map (λ v. refill v pointers) before

-- memory was refused, which comes only where there is an entry
abbrev pub RefusesMemory : (count : ℕ) → ReallocationError → Type 0
RefusesMemory count refusal = (refusal ≡ AllocError) × (0 < count)

-- why nothing was compacted, where there are so many entries, and this is the first stored pointer that finds nothing
abbrev pub Refuses : {P : Type 0} (count : ℕ) (first : Option P) → CompactError P → Type 0
Refuses count first (Unresolved p) = first ≡ Some p
Refuses count first (Reallocation refusal) = RefusesMemory count refusal

-- the same in look-ups, where all pointers are held by values that are found in the holders
abbrev pub RefusesStray : {P T U : Type 0} (numbers : P → Pointer) (slots : List (Option (ℕ × T))) (held : U → List P) (holders : List (Option (ℕ × U))) → CompactError P → Type 0
RefusesStray numbers slots held holders (Unresolved p) = IsStray numbers slots held holders p
RefusesStray numbers slots held holders (Reallocation refusal) = RefusesMemory (entry_count slots) refusal

-- a stored pointer finds nothing, and no memory was refused
abbrev pub IsUnresolved : {P : Type 0} → CompactError P → Type 0
IsUnresolved (Unresolved p) = Unit {0}
IsUnresolved (Reallocation refusal) = ⊥

-- a new stack of this kind may have a map up to this last index, and memory is there for it
abbrev pub MapHasMemory : StackKind → (ℕ → Type 0) → ℕ → Type 0
MapHasMemory kind has_memory last = IsWithin (new_limit kind) last × has_memory (reallocated_room kind (new_room kind) 0 last)
