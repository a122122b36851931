-- How many entries chains have and how much room, and how calls are answered by that room and by memory.
use Rattle.std.specs.Prelude.{◌≡◌, ◌↔◌, ℕ, ◌+◌, ◌≤◌, ◌<◌, Bool, List, map, Option, None, Some, Result, Err, IsOk, OnOk}
use Rattle.std.specs.Result.{IfErr}
use Rattle.triple_arena_base.specs.Invalidation.{allowed_option}
use Rattle.triple_arena_base.specs.declared.invalidation.InvalidationOption.{InvalidationOption}
use Rattle.triple_arena_ptr.specs.Pointers.{Pointer}
use Rattle.triple_arena_stack.specs.Capacity.{IsWithin, IsBeyond, IsFullAtLimit, CanGrow}
use Rattle.triple_arena.specs.Ending.{told}
use Rattle.triple_arena.specs.Walks.{entries}
use Rattle.triple_arena_chain.specs.declared.place.ChainError.{ChainError}
use Rattle.triple_arena_chain.specs.declared.place.ChainError.TheVariants.{NoRoom}
use Rattle.triple_arena_chain.specs.Chains.{ChainState, nodes, IsRefusedRoom}

-- how full an arena is: how many entries there are, how many fit without growth, and how many are allowed, if there is a limit
pub record Fill : Type 0 where
  pub len : ℕ
  pub capacity : ℕ
  pub limit : Option ℕ

-- an arena has taken one entry more, and has as much room or more: a full one has grown as its own insertions have it grow, and
-- where a place was, the capacity stays
pub record TakesOneMore {A : Type 0} (capacity_of : A → ℕ) (grown_from : A → A) (arena : A) (old new : Fill) : Type 0 where
  pub len : new.len ≡ old.len + 1
  pub capacity : old.capacity ≤ new.capacity
  pub limit : new.limit ≡ old.limit
  pub grown : new.capacity ≡ capacity_of (grown_from arena)
  pub had_place : old.len < old.capacity → new.capacity ≡ old.capacity

-- one entry more has an index: an arena that is full is below the greatest one
abbrev pub HasIndex : (greatest : ℕ) → Fill → Type 0
HasIndex greatest old = old.len ≡ old.capacity → old.capacity < greatest

-- one entry more is refused by such refusals alone: by the one for want of room exactly where the arena is full at its limit,
-- else for want of memory or of an index. It isn't refused where memory is there, nor where a place is, and it is where there is
-- no greater index
pub record DependsOnFill {X E : Type 0} (refuses : E → Type 0) (for_room : E) (has_memory : ℕ → Type 0) (greatest : ℕ) (old : Fill) (result : Result X E) : Type 0 where
  pub refusal : IfErr result refuses
  pub no_room : (result ≡ Err for_room) ↔ IsFullAtLimit old.capacity old.limit old.len
  pub with_memory : CanGrow has_memory old.capacity old.limit greatest → IsOk result
  pub indexed : OnOk result (HasIndex greatest old)
  pub had_place : old.len < old.capacity → IsOk result

module _ {A T : Type 0} where
  -- how full the arena of chains is
  abbrev pub fill : ChainState A T → Fill
  fill s = record { len = s.len; capacity = s.capacity; limit = s.limit }

  -- no pointer finds anything, and there are no entries; there is this capacity and this limit
  pub record AreEmpty (capacity_is : ℕ) (limit_is : Option ℕ) (chains : ChainState A T) : Type 0 where
    pub none : (q : Pointer) → nodes chains q ≡ None
    pub len : chains.len ≡ 0
    pub capacity : chains.capacity ≡ capacity_is
    pub limit : chains.limit ≡ limit_is

  -- the same capacity and limit
  pub record KeepsRoom (old new : ChainState A T) : Type 0 where
    pub capacity : new.capacity ≡ old.capacity
    pub limit : new.limit ≡ old.limit

  -- every pointer finds what it found, there are as many entries, and as many are allowed
  pub record KeepsNodes (old new : ChainState A T) : Type 0 where
    pub found : (q : Pointer) → nodes new q ≡ nodes old q
    pub len : new.len ≡ old.len
    pub limit : new.limit ≡ old.limit

  -- there is one entry more, and as much room as their arena has then
  abbrev pub HasOneMore : (capacity_of : A → ℕ) (grown_from : A → A) (old new : ChainState A T) → Type 0
  HasOneMore capacity_of grown_from old new = TakesOneMore capacity_of grown_from old.arena (fill old) (fill new)

  -- an insertion is refused as their arena is full, for want of room or of memory
  abbrev pub DependsOnRoom : {X : Type 0} → (has_memory : ℕ → Type 0) (greatest : ℕ) (old : ChainState A T) (result : Result X ChainError) → Type 0
  DependsOnRoom has_memory greatest old result = DependsOnFill IsRefusedRoom NoRoom has_memory greatest (fill old) result

  -- the pointers and the values of all entries, in the order of their indexes
  abbrev pub all_values : ChainState A T → List (Pointer × T)
  all_values s = map (λ e. (e.0, e.1.value)) (entries s.slots)

-- room for so many is refused for want of room exactly where there are so many indexes and the limit is below, else for want
-- of memory or indexes; and within both neither where the room stays, nor where memory is there
pub record DependsOnLimit {X : Type 0} (greatest min_capacity : ℕ) (limit : Option ℕ) (keeps_room gets_room : Type 0) (result : Result X ChainError) : Type 0 where
  pub refusal : IfErr result IsRefusedRoom
  pub within : OnOk result ((min_capacity ≤ greatest) × IsWithin limit min_capacity)
  pub no_room : (result ≡ Err NoRoom) ↔ ((min_capacity ≤ greatest) × IsBeyond limit min_capacity)
  pub succeeds : min_capacity ≤ greatest → IsWithin limit min_capacity → keeps_room → IsOk result
  pub with_memory : min_capacity ≤ greatest → IsWithin limit min_capacity → gets_room → IsOk result

-- the answer has the value that was found, and tells whether the counter wrapped
pub record TellsValue {T : Type 0} (wraps : Bool) (found : Option T) (answer : InvalidationOption T) : Type 0 where
  pub value : found ≡ Some (allowed_option answer)
  pub tells : answer ≡ told wraps (allowed_option answer)
