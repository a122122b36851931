-- Values that are inserted one after another.
use Rattle.std.specs.Prelude.{◌≡◌, ◌↔◌, ℕ, ◌+◌, ◌<◌, List, [], ◌∷◌, map, length, Option, None, IsSome, Some}
use Rattle.std.specs.List.{All}
use Rattle.triple_arena_base.specs.declared.errors.ReallocationError.{ReallocationError}
use Rattle.triple_arena_base.specs.declared.errors.ReallocationError.TheVariants.{BeyondMaxCapacity}
use Rattle.triple_arena_ptr.specs.Pointers.{Pointer}
use Rattle.triple_arena_stack.specs.Capacity.{IsFullAtLimit, CanGrow}
use Rattle.triple_arena_traits.specs.Entries.{entry_in, look_up, entry_count}
use Rattle.triple_arena_traits.specs.Histories.{History, insertion, Continues}
use Rattle.triple_arena_traits.specs.Walks.{keys_of}

module _ {A T : Type 0} (inserted : A → T → A) (grown : A → A) where
  -- the values are inserted in their order, each after growth where the arena is full
  abbrev pub all_inserted : A → List T → A
  all_inserted old [] = old
  all_inserted old (x ∷ xs) = all_inserted (inserted (grown old) x) xs

module _ {A T : Type 0} (slots : A → List (Option (ℕ × T))) (fits : History → A → Type 0) where
  -- these entries came: each is found under its pointer, at an index where none was, and each pointer that found something
  -- finds it still
  pub record EntriesCame (old : A) (came : List (Pointer × T)) (new : A) : Type 0 where
    pub found : All (λ e. look_up (slots new) e.0 ≡ Some e.1) came
    pub free : All (λ e. entry_in (slots old) e.0.0 ≡ None) came
    pub kept : (q : Pointer) → IsSome (look_up (slots old) q) → look_up (slots new) q ≡ look_up (slots old) q
    pub len : entry_count (slots new) ≡ entry_count (slots old) + length came
    pub history : Continues fits old (map insertion (keys_of came)) new

-- an arena of this capacity, this limit and so many entries refuses one more with this error: it is full, and its limit is
-- reached exactly where the error says so, and else it can't grow
pub record RefusesOneMore (has_memory : ℕ → Type 0) (capacity : ℕ) (limit : Option ℕ) (len greatest : ℕ) (error : ReallocationError) : Type 0 where
  pub beyond : (error ≡ BeyondMaxCapacity) ↔ IsFullAtLimit capacity limit len
  pub with_memory : CanGrow has_memory capacity limit greatest → ⊥
  pub was_full : len < capacity → ⊥
