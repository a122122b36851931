-- How many keys and sets there are and how much room, and how calls are answered by that room and by memory.
use Rattle.std.specs.Prelude.{◌≡◌, ◌↔◌, ◌⊎◌, ℕ, ◌+◌, ◌≤◌, ◌<◌, [], Option, None, Result, Err, IsOk, OnOk, MatchOption}
use Rattle.std.specs.Result.{IfErr}
use Rattle.triple_arena_ptr.specs.Pointers.{Pointer}
use Rattle.triple_arena_stack.specs.Capacity.{IsFullAtLimit, CanGrow}
use Rattle.triple_arena_stack.specs.StackKind.{StackKind, CanHold, TakesNoMemory}
use Rattle.triple_arena.specs.Histories.{History, Continues}
use Rattle.triple_arena_chain.specs.Room.{Fill, TakesOneMore, HasIndex, DependsOnFill}
use Rattle.triple_arena_surject.specs.declared.refusal.SurjectError.{SurjectError}
use Rattle.triple_arena_surject.specs.declared.refusal.SurjectError.TheVariants.{NoEntry, NoRoom, NoMemory}
use Rattle.triple_arena_surject.specs.Surject.{SurjectState, found_at, named, HasKeys, IsUnion}

-- room or memory was refused
abbrev pub IsRefusedRoom : SurjectError → Type 0
IsRefusedRoom NoEntry = ⊥
IsRefusedRoom NoRoom = Unit {0}
IsRefusedRoom NoMemory = Unit {0}

-- one more fits into an arena of this capacity, this limit and so many entries: it has a place, or can grow
abbrev pub FitsOneMore : (has_memory : ℕ → Type 0) (greatest capacity : ℕ) (limit : Option ℕ) (len : ℕ) → Type 0
FitsOneMore has_memory greatest capacity limit len = (len < capacity) ⊎ CanGrow has_memory capacity limit greatest

-- an arena of this kind can be made with room for so many: that takes no memory, or it can hold them and memory is there
abbrev pub CanBeMade : (has_memory : ℕ → Type 0) (kind : StackKind) (m : ℕ) → Type 0
CanBeMade has_memory kind m = TakesNoMemory kind m ⊎ (CanHold kind m × has_memory m)

module _ {A B K V : Type 0} where
  -- how full the arena of keys is, and that of values
  abbrev pub key_fill : SurjectState A B K V → Fill
  key_fill s = record { len = s.len_keys; capacity = s.key_capacity; limit = s.key_limit }

  abbrev pub val_fill : SurjectState A B K V → Fill
  val_fill s = record { len = s.len_vals; capacity = s.val_capacity; limit = s.val_limit }

  abbrev pub FitsKey : (has_memory : ℕ → Type 0) (greatest : ℕ) → SurjectState A B K V → Type 0
  FitsKey has_memory greatest s = FitsOneMore has_memory greatest s.key_capacity s.key_limit s.len_keys

  abbrev pub FitsVal : (has_memory : ℕ → Type 0) (greatest : ℕ) → SurjectState A B K V → Type 0
  FitsVal has_memory greatest s = FitsOneMore has_memory greatest s.val_capacity s.val_limit s.len_vals

  -- the arena of keys, or that of values, is full at its limit
  abbrev pub KeysAreFull : SurjectState A B K V → Type 0
  KeysAreFull s = IsFullAtLimit s.key_capacity s.key_limit s.len_keys

  abbrev pub ValsAreFull : SurjectState A B K V → Type 0
  ValsAreFull s = IsFullAtLimit s.val_capacity s.val_limit s.len_vals

  -- no pointer finds anything, and there are no keys and no sets; there are these capacities and these limits
  pub record AreNoSets (for_keys : ℕ) (most_keys : Option ℕ) (for_vals : ℕ) (most_vals : Option ℕ) (s : SurjectState A B K V) : Type 0 where
    pub none : (q : Pointer) → found_at s q ≡ None
    pub len_keys : s.len_keys ≡ 0
    pub len_vals : s.len_vals ≡ 0
    pub key_capacity : s.key_capacity ≡ for_keys
    pub key_limit : s.key_limit ≡ most_keys
    pub val_capacity : s.val_capacity ≡ for_vals
    pub val_limit : s.val_limit ≡ most_vals

  -- there is as much room as before for keys and values
  pub record HasSameRoom (old new : SurjectState A B K V) : Type 0 where
    pub key_capacity : new.key_capacity ≡ old.key_capacity
    pub key_limit : new.key_limit ≡ old.key_limit
    pub val_capacity : new.val_capacity ≡ old.val_capacity
    pub val_limit : new.val_limit ≡ old.val_limit

  -- and as many of both
  pub record KeepsSize (old new : SurjectState A B K V) : Type 0 where
    pub len_keys : new.len_keys ≡ old.len_keys
    pub len_vals : new.len_vals ≡ old.len_vals
    pub key_capacity : new.key_capacity ≡ old.key_capacity
    pub key_limit : new.key_limit ≡ old.key_limit
    pub val_capacity : new.val_capacity ≡ old.val_capacity
    pub val_limit : new.val_limit ≡ old.val_limit

  -- there are as many sets, and as much room for their values
  pub record KeepsVals (old new : SurjectState A B K V) : Type 0 where
    pub len_vals : new.len_vals ≡ old.len_vals
    pub val_capacity : new.val_capacity ≡ old.val_capacity
    pub val_limit : new.val_limit ≡ old.val_limit

  -- there are as many keys, and as much room; a history of the arena of keys goes on as it is
  pub record KeepsKeys (fits : History → A → Type 0) (old new : SurjectState A B K V) : Type 0 where
    pub len_keys : new.len_keys ≡ old.len_keys
    pub room : HasSameRoom old new
    pub history : Continues fits old.arena [] new.arena

  -- there is one key more, as its arena has it then, and one value more
  abbrev pub HasKeyMore : (capacity_of : A → ℕ) (grown_from : A → A) (old new : SurjectState A B K V) → Type 0
  HasKeyMore capacity_of grown_from old new = TakesOneMore capacity_of grown_from old.arena (key_fill old) (key_fill new)

  abbrev pub HasValMore : (capacity_of : B → ℕ) (grown_from : B → B) (old new : SurjectState A B K V) → Type 0
  HasValMore capacity_of grown_from old new = TakesOneMore capacity_of grown_from old.val_arena (val_fill old) (val_fill new)

  -- an arena that had a place has the capacity that it had
  pub record GrowsWhereFull (old new : SurjectState A B K V) : Type 0 where
    pub keys : old.len_keys < old.key_capacity → new.key_capacity ≡ old.key_capacity
    pub vals : old.len_vals < old.val_capacity → new.val_capacity ≡ old.val_capacity

  -- every pointer finds the same key in the same set, and every set has the same value; there are as many of both, the arena of
  -- the keys is the same, and that of the values has its capacity, or has grown as its own insertions have it grow
  pub record IsSame (val_capacity_of : B → ℕ) (val_grown_from : B → B) (old new : SurjectState A B K V) : Type 0 where
    pub keys : (q : Pointer) → found_at new q ≡ found_at old q
    pub vals : (c : Pointer) → named new c ≡ named old c
    pub arena : new.arena ≡ old.arena
    pub len_keys : new.len_keys ≡ old.len_keys
    pub len_vals : new.len_vals ≡ old.len_vals
    pub key_capacity : new.key_capacity ≡ old.key_capacity
    pub key_limit : new.key_limit ≡ old.key_limit
    pub val_capacity : old.val_capacity ≤ new.val_capacity
    pub val_limit : new.val_limit ≡ old.val_limit
    pub val_grown : (new.val_capacity ≡ old.val_capacity) ⊎ (new.val_capacity ≡ val_capacity_of (val_grown_from old.val_arena))

  -- a key is refused as the arena of keys is full, for want of room or of memory
  abbrev pub DependsOnKeys : {X : Type 0} → (has_memory : ℕ → Type 0) (greatest : ℕ) (old : SurjectState A B K V) (result : Result X SurjectError) → Type 0
  DependsOnKeys has_memory greatest old result = DependsOnFill IsRefusedRoom NoRoom has_memory greatest (key_fill old) result

  -- a key with its value is refused for want of room where the arena of values is full at its limit, and where that takes one
  -- more, exactly where the arena of keys is; else for want of memory or of an index where one of both is full. It isn't refused
  -- where each of both takes one more, and it is where one of both is full and there is no greater index for it
  pub record DependsOnBoth {X : Type 0} (has_memory val_has_memory : ℕ → Type 0) (greatest : ℕ) (old : SurjectState A B K V) (result : Result X SurjectError) : Type 0 where
    pub refusal : IfErr result IsRefusedRoom
    pub vals_first : ValsAreFull old → result ≡ Err NoRoom
    pub full_vals : ¬ KeysAreFull old → (result ≡ Err NoRoom) ↔ ValsAreFull old
    pub full_keys : FitsVal val_has_memory greatest old → (result ≡ Err NoRoom) ↔ KeysAreFull old
    pub no_room : result ≡ Err NoRoom → ValsAreFull old ⊎ (KeysAreFull old × HasIndex greatest (val_fill old))
    pub no_memory : result ≡ Err NoMemory → (old.val_capacity ≤ old.len_vals) ⊎ (old.key_capacity ≤ old.len_keys)
    pub indexed : OnOk result (HasIndex greatest (key_fill old) × HasIndex greatest (val_fill old))
    pub fits : FitsKey has_memory greatest old → FitsVal val_has_memory greatest old → IsOk result

  -- two sets are made one of them, so that there is one value less
  pub record MakesOne (old : SurjectState A B K V) (p q : Pointer) (gives : Option V) (new : SurjectState A B K V) : Type 0 where
    pub union : IsUnion old p q gives new
    pub len_vals : new.len_vals + 1 ≡ old.len_vals

  -- there is one value less, and as much room as before for keys and values
  pub record HasOneLess (old new : SurjectState A B K V) : Type 0 where
    pub len_keys : new.len_keys ≡ old.len_keys
    pub len_vals : new.len_vals + 1 ≡ old.len_vals
    pub key_capacity : new.key_capacity ≡ old.key_capacity
    pub key_limit : new.key_limit ≡ old.key_limit
    pub val_capacity : new.val_capacity ≡ old.val_capacity
    pub val_limit : new.val_limit ≡ old.val_limit

  -- there is one key less, and one value less where one comes out
  pub record HasKeyLess (out : Option V) (old new : SurjectState A B K V) : Type 0 where
    pub len_keys : new.len_keys + 1 ≡ old.len_keys
    pub len_vals : MatchOption out (new.len_vals ≡ old.len_vals) (λ _. new.len_vals + 1 ≡ old.len_vals)

  -- there are as many keys less as a pointer's set had, and one value less
  pub record HasSetLess (old : SurjectState A B K V) (p : Pointer) (new : SurjectState A B K V) : Type 0 where
    pub len_keys : (n : ℕ) → HasKeys old p n → new.len_keys + n ≡ old.len_keys
    pub len_vals : new.len_vals + 1 ≡ old.len_vals
