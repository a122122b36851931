-- Entries of an arena that end, what is written to others then, and whether that wraps the arena's counter.
use Rattle.std.specs.Prelude.{◌≡◌, ℕ, ◌||◌, Bool, false, List, [], ◌∷◌, map}
use Rattle.triple_arena_ptr.specs.Numbers.{Generations}
use Rattle.triple_arena_ptr.specs.Pointers.{Pointer}
use Rattle.triple_arena.specs.Histories.{History, removal, CountsUp, Continues}

-- an arena once these values were written, each at its index
abbrev pub with_values : {A X : Type 0} → (with_value : A → ℕ → X → A) → A → List (ℕ × X) → A
with_values with_value arena [] = arena
with_values with_value arena (w ∷ ws) = with_values with_value (with_value arena w.0 w.1) ws

module _ {A X : Type 0} (removes : A → ℕ → A → Type 0) (with_value : A → ℕ → X → A) where
  -- the entry at an index is removed, and then others are written
  abbrev pub EndsAt : A → ℕ → A → Type 0
  EndsAt old i new = (mid : A) × (writes : List (ℕ × X)) × removes old i mid × (new ≡ with_values with_value mid writes)

  -- the entries of these pointers end so, one after another; whether one of these removals wraps the counter
  abbrev pub EndInTurn : (wraps : A → Bool) → A → List Pointer → (wrapped : Bool) → A → Type 0
  EndInTurn wraps old [] wrapped new = (wrapped ≡ false) × (new ≡ old)
  EndInTurn wraps old (p ∷ ps) wrapped new =
      (next : A) × (later : Bool) × EndsAt old p.0 next × EndInTurn wraps next ps later new × (wrapped ≡ (wraps old || later))

  module _ (fits : History → A → Type 0) (generations : Generations) where
    -- the entry of this pointer ends so; where generations count, without a wrap, a history of the arena goes on by its removal
    pub record EndsEntry (wraps : Bool) (old : A) (p : Pointer) (new : A) : Type 0 where
      pub ended : EndsAt old p.0 new
      pub history : CountsUp generations wraps → Continues fits old (removal p ∷ []) new

    -- some entries end so in turn; where generations count, without a wrap, a history goes on by their removals
    pub record EndsEntries (wraps : A → Bool) (old : A) (wrapped : Bool) (new : A) : Type 0 where
      pub gone : List Pointer
      pub wrap : EndInTurn wraps old gone wrapped new
      pub history : CountsUp generations wrapped → Continues fits old (map removal gone) new
