-- Draining an arena.
use Rattle.std.specs.Prelude.{◌≡◌, ℕ, ◌∷◌, [], Bool, List, map, Option, Some, None, MatchOption}
use Rattle.std.specs.Borrow.{GName}
use Rattle.triple_arena_base.specs.declared.invalidation.InvalidationOption.{InvalidationOption}
use Rattle.triple_arena_ptr.specs.Numbers.{Generations}
use Rattle.triple_arena_ptr.specs.Pointers.{Pointer}
use Rattle.triple_arena_traits.specs.Entries.{look_up, entry_count, IsFirst}
use Rattle.triple_arena_traits.specs.Ending.{told}
use Rattle.triple_arena_traits.specs.Walks.{Stand, Steps, IsBeforeAll}
use Rattle.triple_arena_traits.specs.Histories.{History, ModelCall, removal, CountsUp, Continues}
use Rattle.triple_arena_traits.specs.declared.arena_iterators.drain.Drain.{Drain}

module _ {P T A I G Q : Type 0} where
  -- the arena, as the drain holds it
  abbrev pub drain_arena : Drain P T A I G Q → A
  drain_arena drain = drain.arena.now

  -- the ghost name of the reference to the arena
  abbrev pub drain_lender : Drain P T A I G Q → GName
  drain_lender drain = drain.arena.ghost_name

  -- where the drain stands
  abbrev pub drain_stand : (Q → Stand) → Drain P T A I G Q → Stand
  drain_stand stand drain = stand drain.advancer

  -- every entry of the arena is ahead of the drain, as it is of each drain that an arena gives
  abbrev pub IsDraining : (A → List (Option (ℕ × T))) → (Q → Stand) → Drain P T A I G Q → Type 0
  IsDraining slots stand drain = IsBeforeAll (slots (drain_arena drain)) (drain_stand stand drain)

module _ {A : Type 0} (fits : History → A → Type 0) (removes : A → ℕ → A → Type 0) (wraps : A → Bool) (generations : Generations) where
  -- the entry of a pointer is removed, and where that does not wrap the counter, each history that fits goes on with it
  abbrev pub TakesOut : A → Pointer → A → Type 0
  TakesOut old p new = removes old p.0 new × (CountsUp generations (wraps old) → Continues fits old (removal p ∷ []) new)

-- the removals of these pointers, one after another
abbrev pub removals : List Pointer → List ModelCall
removals ps = map removal ps

module _ {A : Type 0} (removes : A → ℕ → A → Type 0) (wraps : A → Bool) (generations : Generations) where
  -- of the removals of these pointers, one after another, none wraps the counter
  abbrev pub NoneWraps : A → List Pointer → Type 0
  NoneWraps old [] = Unit {0}
  NoneWraps old (p ∷ ps) = CountsUp generations (wraps old) × ((new : A) → removes old p.0 new → NoneWraps new ps)

module _ {P T A : Type 0} (slots : A → List (Option (ℕ × T))) (fits : History → A → Type 0) (removes : A → ℕ → A → Type 0) (wraps : A → Bool) (generations : Generations) (numbers : P → Pointer) where
  -- a step takes out the entry of least index, and tells of a wrap as its removal does; it takes out none exactly where
  -- there is no entry, and then nothing changes
  abbrev pub DrainStep : A → Option (InvalidationOption (P × T)) → A → Type 0
  DrainStep old item new =
      MatchOption item
      ((entry_count (slots old) ≡ 0) × (new ≡ old))
      (λ taken. (p : P) × (value : T) × (taken ≡ told (wraps old) (p, value)) × IsFirst (slots old) (numbers p)
      × (look_up (slots old) (numbers p) ≡ Some value) × TakesOut fits removes wraps generations old (numbers p) new)

  -- an advancer goes on, and the entry that it answers is removed
  abbrev pub TakeStep : ℕ → A → Stand → Option (P × InvalidationOption T) → A → Stand → Type 0
  TakeStep greatest old before taken new after =
      MatchOption taken
      (Steps greatest (slots old) before None after × (new ≡ old))
      (λ item. (value : T) × (item.1 ≡ told (wraps old) value) × Steps greatest (slots old) before (Some (numbers item.0)) after
      × (look_up (slots old) (numbers item.0) ≡ Some value) × TakesOut fits removes wraps generations old (numbers item.0) new)
