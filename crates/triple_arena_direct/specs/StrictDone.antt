-- What a call of a strict arena gives that is done: what is told together.
use Rattle.std.specs.Prelude.{◌≡◌, ◌≢◌, ◌≤◌, ◌<◌, ℕ, true, [], ◌∷◌, Some, None, IsSome}
use Rattle.triple_arena_ptr.specs.Numbers.{Generations, raise}
use Rattle.triple_arena_ptr.specs.Pointers.{Pointer}
use Rattle.triple_arena_stack.specs.Capacity.{IsWithin}
use Rattle.triple_arena_stack.specs.StackKind.{StackKind}
use Rattle.triple_arena_traits.specs.Entries.{look_up}
use Rattle.triple_arena_traits.specs.ArenaState.{ArenaState, arena_len, capacity, entry}
use Rattle.triple_arena_traits.specs.Insertion.{next_pointer, inserted}
use Rattle.triple_arena_traits.specs.SlotSteps.{IsTouched}
use Rattle.triple_arena_traits.specs.Ending.{removed, invalidated, cleared}
use Rattle.triple_arena_traits.specs.Reallocation.{reallocated, grown}
use Rattle.triple_arena_traits.specs.Compression.{raised_if_any}
use Rattle.triple_arena_traits.specs.Walks.{Stand, IsBeforeAll, keys}
use Rattle.triple_arena_traits.specs.Histories.{clearing, Fits, Continues}
use Rattle.triple_arena_direct.specs.Gone.{IsGoneForGood}
use Rattle.triple_arena_direct.specs.StrictCalls.{IsStrictEnding, to_clear}
use Rattle.triple_arena_direct.specs.StrictRetain.{emptied}

module _ {T : Type 0} (old : ArenaState T) where
  -- the value stands under the next pointer, which is none that was gone for good, and at whose index no entry stood. It was
  -- put into this arena, which has a place
  pub record IsStrictlyInserted (into : ArenaState T) (value : T) (p : Pointer) (after : ArenaState T) : Type 0 where
    pub pointer : p ≡ next_pointer old
    pub free : entry old p.0 ≡ None
    pub new : (q : Pointer) → IsGoneForGood old q → p ≢ q
    pub place : arena_len into < capacity into
    pub left : IsTouched (inserted into value) after
    pub found : look_up after.slots p ≡ Some value
    pub others : (q : Pointer) → q ≢ p → look_up after.slots q ≡ look_up old.slots q

  -- a full arena has grown, so that there is a place; no entry has moved
  pub record IsStrictlyGrown (kind : StackKind) (after : ArenaState T) : Type 0 where
    pub arena : after ≡ grown kind old
    pub has_place : arena_len after < capacity after
    pub next : next_pointer after ≡ next_pointer old
    pub kept : (q : Pointer) → look_up after.slots q ≡ look_up old.slots q
    pub history : Continues Fits old [] after
    pub stays_gone : (q : Pointer) → IsGoneForGood old q → IsGoneForGood after q

  -- every pointer finds what it found, and there are as many entries
  pub record KeepsLookUps (after : ArenaState T) : Type 0 where
    pub kept : (q : Pointer) → look_up after.slots q ≡ look_up old.slots q
    pub same_len : arena_len after ≡ arena_len old

  -- there is room for so many, within index and limit
  pub record IsStrictlyReallocated (kind : StackKind) (greatest min_capacity : ℕ) (after : ArenaState T) : Type 0 where
    pub left : IsTouched (reallocated kind old min_capacity) after
    pub indexed : min_capacity ≤ greatest
    pub within : IsWithin old.limit min_capacity
    pub place : min_capacity ≤ capacity after

  module _ (generations : Generations) where
    -- no entry stands at the index any more, and where generations count the pointer is gone for good
    pub record IsStrictlyRemoved (p : Pointer) (after : ArenaState T) : Type 0 where
      pub left : IsTouched (removed (raise generations) old p.0) after
      pub free : entry after p.0 ≡ None
      pub gone : look_up after.slots p ≡ None
      pub gone_for_good : generations.counting ≡ true → IsGoneForGood after p

    -- the entry of the one pointer stands under the other, and where generations count the one is gone for good
    pub record IsStrictlyRenewed (p q : Pointer) (after : ArenaState T) : Type 0 where
      pub left : IsTouched (invalidated (raise generations) old p.0) after
      pub found : look_up after.slots q ≡ look_up old.slots p
      pub gone_for_good : generations.counting ≡ true → IsGoneForGood after p

    -- what stands is as it was, and so are limit and capacity; where generations count, what stands no more is gone for good
    pub record KeepsTheRest (after : ArenaState T) : Type 0 where
      pub kept : (q : Pointer) → IsSome (look_up after.slots q) → look_up after.slots q ≡ look_up old.slots q
      pub limit : after.limit ≡ old.limit
      pub same_capacity : capacity after ≡ capacity old
      pub gone_for_good : generations.counting ≡ true → (q : Pointer) → IsSome (look_up old.slots q) → look_up after.slots q ≡ None → IsGoneForGood after q

    -- the drain begins before all entries, and the counter is raised if there is one. Let go, it leaves an empty arena, as one
    -- strict call; where generations count, the pointers of all entries are gone for good then
    pub record IsStrictlyDraining (kind : StackKind) (stand : Stand) (now : ArenaState T) : Type 0 where
      pub arena : now ≡ record old { counter = raised_if_any (raise generations) old }
      pub draining : IsBeforeAll now.slots stand
      pub leaves : IsTouched (cleared (raise generations) old) (emptied now)
      pub call : IsStrictEnding kind generations old to_clear (clearing (keys old.slots) ∷ []) (emptied now)
      pub gone_for_good : generations.counting ≡ true → (q : Pointer) → IsSome (look_up old.slots q) → IsGoneForGood (emptied now) q
