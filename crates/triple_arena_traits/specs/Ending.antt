-- The ending of entries, and what the calls answer that end one.
use Rattle.std.specs.Prelude.{ℕ, ◌-◌, ◌==◌, Bool, cond, [], ◌∷◌, take, Option, Some, None}
use Rattle.triple_arena_base.specs.declared.invalidation.InvalidationOption.{InvalidationOption}
use Rattle.triple_arena_base.specs.declared.invalidation.InvalidationOption.TheVariants as option
use Rattle.triple_arena_base.specs.declared.invalidation.InvalidationResult.{InvalidationResult}
use Rattle.triple_arena_base.specs.declared.invalidation.InvalidationResult.TheVariants.{Success, GenerationOverflow, InvalidPtr}
use Rattle.triple_arena_traits.specs.Items.{with_item}
use Rattle.triple_arena_traits.specs.Entries.{with_generation_in}
use Rattle.triple_arena_traits.specs.ArenaState.{ArenaState, slot_count, arena_len}

module _ {T : Type 0} where
  -- removal at an index: the counter is raised; the last slot goes, and any other becomes the first free one
  abbrev pub removed : (ℕ → ℕ) → ArenaState T → ℕ → ArenaState T
  removed raise s i =
      cond (i == slot_count s)
      (record s { slots = take (slot_count s - 1) s.slots; counter = raise s.counter })
      (record s { slots = with_item s.slots i None; counter = raise s.counter; free = i ∷ s.free })

  -- invalidation at an index: the counter is raised, and the entry gets it as its generation
  abbrev pub invalidated : (ℕ → ℕ) → ArenaState T → ℕ → ArenaState T
  invalidated raise s i = record s { slots = with_generation_in s.slots i (raise s.counter); counter = raise s.counter }

  -- clearing: no slot is left; the counter is raised if there was an entry
  abbrev pub cleared : (ℕ → ℕ) → ArenaState T → ArenaState T
  cleared raise s = record s { slots = []; counter = cond (arena_len s == 0) s.counter (raise s.counter); free = [] }

-- the answer with a value, by whether the counter wrapped
abbrev pub told : {A : Type 0} → Bool → A → InvalidationOption A
told wrapped x = cond wrapped (option.GenerationOverflow x) (option.Success x)

-- the answer with the value of a pointer, if it is valid, by whether the counter wrapped
abbrev pub told_of : {A : Type 0} → Bool → Option A → InvalidationResult A
told_of wrapped (Some x) = cond wrapped (GenerationOverflow x) (Success x)
told_of wrapped None = InvalidPtr

-- the same answer with another value
abbrev pub map_told : {A B : Type 0} → (A → B) → InvalidationResult A → InvalidationResult B
map_told f (Success x) = Success (f x)
map_told f (GenerationOverflow x) = GenerationOverflow (f x)
map_told f InvalidPtr = InvalidPtr
