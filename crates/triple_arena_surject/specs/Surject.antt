-- Sets of keys, each with one value: what is read under each pointer, which pointers are of one set, and what the calls make of
-- them.
use Rattle.std.specs.Prelude.{◌≡◌, ◌≢◌, ◌↔◌, ◌⊎◌, ℕ, ◌+◌, ◌≤◌, ◌<◌, Bool, List, length, map, Option, None, Some, IsSome, Result, Err, Contains}
use Rattle.std.specs.Option.{option_map, option_and_then}
use Rattle.std.specs.Result.{IfErr}
use Rattle.triple_arena_base.specs.Invalidation.{allowed_option}
use Rattle.triple_arena_base.specs.declared.invalidation.InvalidationOption.{InvalidationOption}
use Rattle.triple_arena_ptr.specs.Pointers.{Pointer}
use Rattle.triple_arena.specs.ArenaState.{map_entry}
use Rattle.triple_arena.specs.Ending.{told}
use Rattle.triple_arena.specs.Entries.{look_up, entry_count, with_value_in}
use Rattle.triple_arena_chain.specs.Chains.{Node, ChainState, AreOnce, put_within, chains_in}
use Rattle.triple_arena_chain.specs.declared.link.Link.{Link}
use Rattle.triple_arena_base.specs.declared.errors.ReallocationError.{ReallocationError}
use Rattle.triple_arena_base.specs.declared.errors.ReallocationError.TheVariants as growth
use Rattle.triple_arena_chain.specs.declared.place.ChainError.{ChainError}
use Rattle.triple_arena_chain.specs.declared.place.ChainError.TheVariants as chain
use Rattle.triple_arena_surject.specs.declared.member.Member.{Member}
use Rattle.triple_arena_surject.specs.declared.member.Shared.{Shared}
use Rattle.triple_arena_surject.specs.Rings.{with_value}
use Rattle.triple_arena_surject.specs.declared.refusal.SurjectError.{SurjectError}
use Rattle.triple_arena_surject.specs.declared.refusal.SurjectError.TheVariants.{NoEntry, NoRoom, NoMemory}

-- sets of keys: the arena of the keys, of whose counter and history it alone tells, and that of the values; by index, the
-- generation of the entry that stands there, its key and the name of its set, or nothing; the values, each under the name of its
-- set; how many keys and values there are, how many of each fit without growth, and how many are allowed, if there is a limit
pub record SurjectState (A B K V : Type 0) : Type 0 where
  pub arena : A
  pub val_arena : B
  pub keys : List (Option (ℕ × (K × Pointer)))
  pub vals : List (Option (ℕ × V))
  pub len_keys : ℕ
  pub len_vals : ℕ
  pub key_capacity : ℕ
  pub key_limit : Option ℕ
  pub val_capacity : ℕ
  pub val_limit : Option ℕ

-- an arena of values with another value for the set that stands at an index, if one does
abbrev pub put_val : {B V : Type 0} → (slots : B → List (Option (ℕ × Shared V))) (put : B → ℕ → Shared V → B) → B → ℕ → V → B
put_val slots put = put_within slots put with_value

module _ {A B K V : Type 0} where
  -- what is found under a pointer: a key, and the name of its set
  abbrev pub found_at : SurjectState A B K V → Pointer → Option (K × Pointer)
  found_at s p = look_up s.keys p

  abbrev pub key_at : SurjectState A B K V → Pointer → Option K
  key_at s p = option_map (λ m. m.0) (found_at s p)

  abbrev pub set_at : SurjectState A B K V → Pointer → Option Pointer
  set_at s p = option_map (λ m. m.1) (found_at s p)

  -- the value of a set, by its name
  abbrev pub named : SurjectState A B K V → Pointer → Option V
  named s c = look_up s.vals c

  -- the value that a pointer's key has with all keys of its set
  abbrev pub val_at : SurjectState A B K V → Pointer → Option V
  val_at s p = option_and_then (named s) (set_at s p)

  -- two pointers are of one set
  abbrev pub AreTogether : SurjectState A B K V → Pointer → Pointer → Type 0
  AreTogether s p q = IsSome (set_at s p) × (set_at s p ≡ set_at s q)

  -- these pointers, each once, are the ones of a pointer's set
  pub record AreKeys (s : SurjectState A B K V) (p : Pointer) (all : List Pointer) : Type 0 where
    pub once : AreOnce all
    pub among : (q : Pointer) → AreTogether s p q ↔ Contains all q

  -- the set of a pointer has so many keys
  pub record HasKeys (s : SurjectState A B K V) (p : Pointer) (n : ℕ) : Type 0 where
    pub all : List Pointer
    pub are : AreKeys s p all
    pub size : length all ≡ n

  -- two pointers are of these two sets, the one of the one and the other of the other
  abbrev pub AreOfBoth : SurjectState A B K V → (p q r t : Pointer) → Type 0
  AreOfBoth s p q r t = (AreTogether s p r × AreTogether s q t) ⊎ (AreTogether s q r × AreTogether s p t)

  -- each key has a value, and each value a key
  pub record EachHasOther (s : SurjectState A B K V) : Type 0 where
    pub valued : (p : Pointer) → IsSome (found_at s p) → IsSome (val_at s p)
    pub keyed : (c : Pointer) → IsSome (named s c) → (p : Pointer) × (set_at s p ≡ Some c)

  -- a key stands under a pointer that found nothing before, alone in a set with this value; all else is as before
  pub record IsNewSet (old : SurjectState A B K V) (p : Pointer) (k : K) (v : V) (new : SurjectState A B K V) : Type 0 where
    pub free : found_at old p ≡ None
    pub key : key_at new p ≡ Some k
    pub value : val_at new p ≡ Some v
    pub alone : (q : Pointer) → AreTogether new p q → q ≡ p
    pub others : (q : Pointer) → q ≢ p → found_at new q ≡ found_at old q
    pub vals : (q : Pointer) → q ≢ p → val_at new q ≡ val_at old q

  -- a key stands under a pointer that found nothing before, in the set of another; all else is as before
  pub record IsAdded (old : SurjectState A B K V) (p q : Pointer) (k : K) (new : SurjectState A B K V) : Type 0 where
    pub free : found_at old q ≡ None
    pub key : key_at new q ≡ Some k
    pub set : set_at new q ≡ set_at old p
    pub others : (r : Pointer) → r ≢ q → found_at new r ≡ found_at old r
    pub vals : (c : Pointer) → named new c ≡ named old c

  -- the set of a pointer has another value; all else is as before
  pub record IsValued (old : SurjectState A B K V) (p : Pointer) (v : V) (new : SurjectState A B K V) : Type 0 where
    pub keys : (q : Pointer) → found_at new q ≡ found_at old q
    pub value : (q : Pointer) → AreTogether old p q → val_at new q ≡ Some v
    pub others : (q : Pointer) → ¬ AreTogether old p q → val_at new q ≡ val_at old q

  -- the sets of two pointers, which were two, are one, with the name and the value of the one; all else is as before
  pub record IsUnited (old : SurjectState A B K V) (kept gone : Pointer) (new : SurjectState A B K V) : Type 0 where
    pub apart : ¬ AreTogether old kept gone
    pub keys : (q : Pointer) → key_at new q ≡ key_at old q
    pub joined : (q r : Pointer) → AreTogether new q r
        ↔ (AreTogether old q r ⊎ AreOfBoth old kept gone q r)
    pub names : (q : Pointer) → ¬ AreTogether old gone q → set_at new q ≡ set_at old q
    pub value : (q : Pointer) → AreTogether old gone q → val_at new q ≡ val_at old kept
    pub others : (q : Pointer) → ¬ AreTogether old gone q → val_at new q ≡ val_at old q

  -- the set of the one pointer has at least as many keys as that of the other, or more
  abbrev pub HasAsMany : SurjectState A B K V → Pointer → Pointer → Type 0
  HasAsMany s p q = (n m : ℕ) × HasKeys s p n × HasKeys s q m × (m ≤ n)

  abbrev pub HasMore : SurjectState A B K V → Pointer → Pointer → Type 0
  HasMore s p q = (n m : ℕ) × HasKeys s p n × HasKeys s q m × (m < n)

  -- what a union of two sets leaves, and the value that comes back: that of the second, unless it has more keys
  abbrev pub IsUnion : (old : SurjectState A B K V) (p q : Pointer) (gives : Option V) (new : SurjectState A B K V) → Type 0
  IsUnion old p q gives new =
      (HasAsMany old p q × (gives ≡ val_at old q) × IsUnited old p q new)
      ⊎ (HasMore old q p × (gives ≡ val_at old p) × IsUnited old q p new)

  -- those that were together are, and no others but by a union of the sets of these two; each key stays under its pointer, and
  -- one whose set has another name is of a set at least twice as large
  pub record KeepsTogether (old : SurjectState A B K V) (p q : Pointer) (new : SurjectState A B K V) : Type 0 where
    pub stays : (r t : Pointer) → AreTogether old r t → AreTogether new r t
    pub joined : (r t : Pointer) → AreTogether new r t → AreTogether old r t ⊎ AreOfBoth old p q r t
    pub keys : (r : Pointer) → key_at new r ≡ key_at old r
    pub doubles : (r : Pointer) (n m : ℕ) → set_at new r ≢ set_at old r → HasKeys old r n → HasKeys new r m → n + n ≤ m

  -- what stood under a pointer is gone; all else is as before
  pub record IsKeyRemoved (old : SurjectState A B K V) (p : Pointer) (new : SurjectState A B K V) : Type 0 where
    pub gone : found_at new p ≡ None
    pub others : (q : Pointer) → q ≢ p → found_at new q ≡ found_at old q
    pub vals : (q : Pointer) → q ≢ p → val_at new q ≡ val_at old q

  -- the answer has the key of a pointer, and the value of its set exactly where that key was the last one there; and it tells
  -- whether the counter wrapped
  pub record TellsKey (wraps : Bool) (old : SurjectState A B K V) (p : Pointer) (answer : InvalidationOption (K × Option V)) : Type 0 where
    pub key : key_at old p ≡ Some (allowed_option answer).0
    pub value : IsSome (allowed_option answer).1 → ((allowed_option answer).1 ≡ val_at old p) × ((q : Pointer) → AreTogether old p q → q ≡ p)
    pub none : (allowed_option answer).1 ≡ None → (q : Pointer) × (q ≢ p) × AreTogether old p q
    pub tells : answer ≡ told wraps (allowed_option answer)

  -- every key of a pointer's set is gone; all else is as before
  pub record IsSetRemoved (old : SurjectState A B K V) (p : Pointer) (new : SurjectState A B K V) : Type 0 where
    pub gone : (q : Pointer) → AreTogether old p q → found_at new q ≡ None
    pub others : (q : Pointer) → ¬ AreTogether old p q → found_at new q ≡ found_at old q
    pub vals : (q : Pointer) → ¬ AreTogether old p q → val_at new q ≡ val_at old q

  -- each key stands under the new name of its pointer, in the set that it was in, and no other does; the values stay
  pub record IsRenamed (old : SurjectState A B K V) (rename : Pointer → Pointer) (new : SurjectState A B K V) : Type 0 where
    pub renamed : (p : Pointer) → IsSome (found_at old p) → found_at new (rename p) ≡ found_at old p
    pub all : (q : Pointer) → IsSome (found_at new q) → (p : Pointer) × IsSome (found_at old p) × (rename p ≡ q)
    pub vals : (c : Pointer) → named new c ≡ named old c

  -- the same with another value in the set of a name, if one is given, as the arena of values has it then
  abbrev pub with_val : (put : B → ℕ → V → B) → SurjectState A B K V → Option Pointer → V → SurjectState A B K V
  with_val put s None value = s
  with_val put s (Some c) value = record s { val_arena = put s.val_arena c.0 value; vals = with_value_in s.vals c.0 value }

-- a call is refused exactly where this holds, for want of an entry
pub record IsRefusedWhere {X : Type 0} (missing : Type 0) (result : Result X SurjectError) : Type 0 where
  pub no_entry : (result ≡ Err NoEntry) ↔ missing
  pub refusal : IfErr result (λ refusal. refusal ≡ NoEntry)

-- a key as it is read, and the value of a set
abbrev pub key_of : {P K : Type 0} → (P → Pointer) → Node (Member P K) → K × Pointer
key_of numbers node = (node.value.key, numbers node.value.set)

abbrev pub value_of : {V : Type 0} → Shared V → V
value_of shared = shared.value

module _ {P K V : Type 0} (numbers : P → Pointer) where
  -- the sets of keys in chains, with their values in an arena
  abbrev pub state_of : {A B : Type 0} → (sets : B) → ChainState A (Member P K) → List (Option (ℕ × Shared V)) → (capacity : ℕ) (limit : Option ℕ) → SurjectState A B K V
  state_of sets chains slots capacity limit = record {
    arena = chains.arena;
    val_arena = sets;
    keys = map (option_map (map_entry (key_of numbers))) chains.slots;
    vals = map (option_map (map_entry value_of)) slots;
    len_keys = chains.len;
    len_vals = entry_count slots;
    key_capacity = chains.capacity;
    key_limit = chains.limit;
    val_capacity = capacity;
    val_limit = limit;
  }

  -- the sets of keys in two arenas, of keys and of values, as the words of both tell them
  abbrev pub sets_in : {A B : Type 0} → (A → List (Option (ℕ × Link P (Member P K)))) → (A → ℕ) → (A → Option ℕ) → (B → List (Option (ℕ × Shared V))) → (B → ℕ) → (B → Option ℕ) → A → B → SurjectState A B K V
  sets_in slots capacity limit val_slots val_capacity val_limit keys sets =
      state_of sets (chains_in numbers slots capacity limit keys) (val_slots sets) (val_capacity sets) (val_limit sets)

-- what a refusal of chains and of an arena is told as
abbrev pub told_of_chains : ChainError → SurjectError
told_of_chains chain.NoEntry = NoEntry
told_of_chains chain.Taken = NoEntry
told_of_chains chain.NoRoom = NoRoom
told_of_chains chain.NoMemory = NoMemory

abbrev pub told_of_growth : ReallocationError → SurjectError
told_of_growth growth.BeyondMaxCapacity = NoRoom
told_of_growth growth.AllocError = NoMemory
