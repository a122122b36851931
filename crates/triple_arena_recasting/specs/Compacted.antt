-- What a compaction gives that renames: the maps, and the arena before and after it, in the words of its trait.
use Rattle.std.specs.Prelude.{◌≡◌, ℕ, Bool, false, List, [], ◌∷◌, map, Option, None, IsSome}
use Rattle.triple_arena_base.specs.Invalidation.{allowed_option}
use Rattle.triple_arena_base.specs.declared.invalidation.InvalidationOption.{InvalidationOption}
use Rattle.triple_arena_ptr.specs.Numbers.{Generations}
use Rattle.triple_arena_ptr.specs.Pointers.{Pointer}
use Rattle.triple_arena_traits.specs.Ending.{told}
use Rattle.triple_arena_traits.specs.Entries.{look_up, entry_count}
use Rattle.triple_arena_traits.specs.Histories.{History, compression, begun_with, CountsUp, Continues}
use Rattle.triple_arena_traits.specs.Walks.{keys, values}
use Rattle.triple_arena_direct_arena.specs.DirectState.{DirectState}
use Rattle.triple_arena_recasting.specs.Renaming.{MapsPointers, AreRenamed, IsFoundRenamed}
use Rattle.triple_arena_recasting.specs.RenamingBoth.{AreRenamedBoth, IsFoundRenamedBoth}

-- the answer has the map from each old pointer of these slots to its new one, and tells whether the counter wrapped
pub record TellsMap {P T : Type 0} (numbers : P → Pointer) (rank : Pointer → Pointer) (slots : List (Option (ℕ × T))) (wraps : Bool) (answer : InvalidationOption (DirectState P)) : Type 0 where
  pub tells : answer ≡ told wraps (allowed_option answer)
  pub maps : MapsPointers numbers rank slots (allowed_option answer).slots

module _ {A T : Type 0} (slots : A → List (Option (ℕ × T))) where
  -- as many entries, and the same limit and capacity
  pub record KeepsSize (limit : A → Option ℕ) (capacity : A → ℕ) (old new : A) : Type 0 where
    pub len : entry_count (slots new) ≡ entry_count (slots old)
    pub same_limit : limit new ≡ limit old
    pub same_capacity : capacity new ≡ capacity old

  module _ (fits : History → A → Type 0) (compresses : List T → A → Type 0) (rank : Pointer → Pointer) (generations : Generations) (wraps reset : Bool) where
    -- each entry stands at the pointer that `rank` gives it, and is found there with a value that was made of the old one.
    -- Where generations count, without a reset or a wrap, a history goes on; in each case one can begin anew, if one fitted
    pub record IsCompacted (AreMade : List T → List T → Type 0) (IsFoundMade : Option T → Option T → Type 0) (old new : A) : Type 0 where
      pub ranked : keys (slots new) ≡ map rank (keys (slots old))
      pub made : AreMade (values (slots old)) (values (slots new))
      pub left : compresses (values (slots new)) new
      pub found : (p : Pointer) → IsSome (look_up (slots old) p) → IsFoundMade (look_up (slots old) p) (look_up (slots new) (rank p))
      pub history : reset ≡ false → CountsUp generations wraps → Continues fits old (compression (keys (slots old)) (keys (slots new)) ∷ []) new
      pub begun : (h : History) → fits h old → fits (begun_with (keys (slots new))) new

    -- so, with no value changed
    abbrev pub IsCompactedKeeping : A → A → Type 0
    IsCompactedKeeping = IsCompacted (λ olds news. news ≡ olds) (λ before after. after ≡ before)

    -- with each pointer of one kind renamed
    abbrev pub IsCompactedRenaming : {P : Type 0} (numbers : P → Pointer) (held : T → List P) (refill : T → List P → T) → A → A → Type 0
    IsCompactedRenaming numbers held refill = IsCompacted (AreRenamed numbers rank held refill) (IsFoundRenamed numbers rank held refill)

    -- and with each pointer of two kinds renamed
    abbrev pub IsCompactedBoth : {P Q : Type 0} (numbers : P → Pointer) (held : T → List P) (refill : T → List P → T)
        (numbers_too : Q → Pointer) (rename_too : Pointer → Pointer) (held_too : T → List Q) (refill_too : T → List Q → T) → A → A → Type 0
    IsCompactedBoth numbers held refill numbers_too rename_too held_too refill_too =
        IsCompacted (AreRenamedBoth numbers rank held refill numbers_too rename_too held_too refill_too) (IsFoundRenamedBoth numbers rank held refill numbers_too rename_too held_too refill_too)

-- each stored pointer to either of two arenas finds an entry: of neither is there a first one that finds none
pub record ResolveBoth {P Q : Type 0} (first : Option P) (first_too : Option Q) : Type 0 where
  pub first_resolved : first ≡ None
  pub second_resolved : first_too ≡ None
