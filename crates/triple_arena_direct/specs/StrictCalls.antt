-- Calls of a strict arena, one after another, as they change its state.
use Rattle.std.specs.Prelude.{◌≡◌, ◌≤◌, ◌⊎◌, ℕ, ◌||◌, not, IsTrue, Bool, true, false, List, [], ◌∷◌, ◌++◌, length}
use Rattle.triple_arena_ptr.specs.Numbers.{Generations, raise}
use Rattle.triple_arena_ptr.specs.Pointers.{Pointer}
use Rattle.triple_arena_stack.specs.StackKind.{StackKind}
use Rattle.triple_arena_traits.specs.ArenaState.{ArenaState, arena_len, capacity, with_value, IsWellFormed}
use Rattle.triple_arena_traits.specs.Insertion.{next_pointer, inserted}
use Rattle.triple_arena_traits.specs.SlotSteps.{IsTouched}
use Rattle.triple_arena_traits.specs.Ending.{removed, invalidated, cleared}
use Rattle.triple_arena_traits.specs.FreeList.{tidied, without_free_end}
use Rattle.triple_arena_traits.specs.Reallocation.{reallocated, with_limit, grown}
use Rattle.triple_arena_traits.specs.Recasting.{written}
use Rattle.triple_arena_traits.specs.Compression.{compressed, raised_if_any, closed_up}
use Rattle.triple_arena_traits.specs.Walks.{keys}
use Rattle.triple_arena_traits.specs.Histories.{ModelCall, insertion, removal, invalidation, clearing, compression, resizing, is_live, Fits, Continues}
use Rattle.triple_arena_direct.specs.Gone.{IsGoneForGood}
use Rattle.triple_arena_direct.specs.StrictAnswers.{is_exhausted, is_exhausted_for_any}
use Rattle.triple_arena_direct.specs.StrictRetain.{ended_entries, pointers_lost}

-- a call that may change a strict arena: to insert a value; to write one under a pointer, or these under these pointers; to
-- remove or to invalidate a pointer; to clear; to retain all but those of these pointers; to compress, after which these
-- values stand; to reallocate to so many; to set a limit; to tidy the free list; to give up the free slots at the end
pub data StrictCall (T : Type 0) : Type 0 where
  to_insert : T → StrictCall T
  to_write : Pointer → T → StrictCall T
  to_write_each : List Pointer → List T → StrictCall T
  to_remove : Pointer → StrictCall T
  to_invalidate : Pointer → StrictCall T
  to_clear : StrictCall T
  to_retain : List Pointer → StrictCall T
  to_compress : List T → StrictCall T
  to_reallocate : ℕ → StrictCall T
  to_limit : ℕ → StrictCall T
  to_tidy : StrictCall T
  to_give_up_end : StrictCall T

module _ {T : Type 0} where
  -- nothing was done, but that slots may have been touched
  abbrev pub IsRefusedCall : ArenaState T → List ModelCall → ArenaState T → Type 0
  IsRefusedCall s calls t = (calls ≡ []) × IsTouched s t

  -- one model call was made, and left this, how many slots were touched aside
  abbrev pub IsDone : ModelCall → ArenaState T → List ModelCall → ArenaState T → Type 0
  IsDone call after calls t = (calls ≡ call ∷ []) × IsTouched after t

  -- the one or the other, as is said
  abbrev pub IsUnless : Bool → ModelCall → ArenaState T → ArenaState T → List ModelCall → ArenaState T → Type 0
  IsUnless true call after s calls t = IsRefusedCall s calls t
  IsUnless false call after s calls t = IsDone call after calls t

module _ {T : Type 0} (kind : StackKind) (generations : Generations) where
  -- no entry can be ended under this pointer: there is none, or the counter is exhausted
  abbrev pub cannot_end : ArenaState T → Pointer → Bool
  cannot_end s p = not (is_live s p) || is_exhausted generations s

  -- a call, the model calls that it is, and the state after it. Whether a full arena grows for an insertion, and whether a
  -- reallocation is done, isn't said, since memory may be refused; nor whether a limit is
  abbrev pub IsStrictStep : ArenaState T → StrictCall T → List ModelCall → ArenaState T → Type 0
  IsStrictStep s (to_insert value) calls t =
      IsWellFormed s
      × (((capacity s ≤ arena_len s) × IsRefusedCall s calls t)
      ⊎ IsDone (insertion (next_pointer s)) (inserted (grown kind s) value) calls t)
  IsStrictStep s (to_write p value) calls t = IsTrue (is_live s p) × (calls ≡ []) × (t ≡ with_value s p.0 value)
  IsStrictStep s (to_write_each ps values) calls t = (calls ≡ []) × (t ≡ written with_value ps values s)
  IsStrictStep s (to_remove p) calls t = IsUnless (cannot_end s p) (removal p) (removed (raise generations) s p.0) s calls t
  IsStrictStep s (to_invalidate p) calls t =
      IsUnless (cannot_end s p) (invalidation p (p.0, raise generations s.counter)) (invalidated (raise generations) s p.0) s calls t
  IsStrictStep s to_clear calls t =
      IsUnless (is_exhausted_for_any generations s) (clearing (keys s.slots)) (cleared (raise generations) s) s calls t
  IsStrictStep s (to_retain gone) calls t =
      IsUnless (is_exhausted_for_any generations s)
      (clearing (pointers_lost s (ended_entries (raise generations) gone s))) (ended_entries (raise generations) gone s) s calls t
  IsStrictStep s (to_compress values) calls t =
      (length values ≡ arena_len s)
      × IsUnless (is_exhausted_for_any generations s)
      (compression (keys s.slots) (keys (closed_up (raised_if_any (raise generations) s) values)))
      (compressed s (raised_if_any (raise generations) s) values) s calls t
  IsStrictStep s (to_reallocate m) calls t = (calls ≡ resizing ∷ []) × (IsTouched (reallocated kind s m) t ⊎ IsTouched (tidied s) t)
  IsStrictStep s (to_limit x) calls t = (calls ≡ resizing ∷ []) × (IsTouched (with_limit s x) t ⊎ IsTouched (tidied s) t)
  IsStrictStep s to_tidy calls t = IsDone resizing (tidied s) calls t
  IsStrictStep s to_give_up_end calls t = IsDone resizing (without_free_end s) calls t

  -- calls one after another, and the model calls that they are
  abbrev pub AreStrictSteps : ArenaState T → List (StrictCall T) → List ModelCall → ArenaState T → Type 0
  AreStrictSteps s [] calls t = (calls ≡ []) × (t ≡ s)
  AreStrictSteps s (call ∷ rest) calls t =
      (m : ArenaState T) × (first second : List ModelCall)
      × IsStrictStep s call first m × AreStrictSteps m rest second t × (calls ≡ first ++ second)

  -- one call, done or refused, as a step: a history goes on by its model calls, and where generations count, what was gone for
  -- good stays so
  pub record IsStrictCall (old : ArenaState T) (call : StrictCall T) (calls : List ModelCall) (new : ArenaState T) : Type 0 where
    pub step : IsStrictStep old call calls new
    pub history : Continues Fits old calls new
    pub stays_gone : generations.counting ≡ true → (q : Pointer) → IsGoneForGood old q → IsGoneForGood new q

  -- so where it may end entries, and so raise the counter: the history, too, goes on where generations count
  pub record IsStrictEnding (old : ArenaState T) (call : StrictCall T) (calls : List ModelCall) (new : ArenaState T) : Type 0 where
    pub step : IsStrictStep old call calls new
    pub history : generations.counting ≡ true → Continues Fits old calls new
    pub stays_gone : generations.counting ≡ true → (q : Pointer) → IsGoneForGood old q → IsGoneForGood new q
