-- Chains: what is read under each pointer, how neighbours lead to each other, and what the calls make of them.
use Rattle.std.specs.Prelude.{◌≡◌, ◌≢◌, ◌↔◌, ◌⊎◌, ℕ, ◌-◌, ◌==◌, ◌||◌, cond, List, [], ◌∷◌, map, Option, Some, None, IsSome, Contains}
use Rattle.std.specs.Option.{option_map, option_and_then, option_eq}
use Rattle.triple_arena_ptr.specs.Pointers.{Pointer, is_same}
use Rattle.triple_arena.specs.Entries.{entry_in, look_up, entry_count}
use Rattle.triple_arena.specs.Items.{with_item}
use Rattle.triple_arena.specs.ArenaState.{map_entry}
use Rattle.triple_arena_chain.specs.declared.link.Link.{Link}
use Rattle.triple_arena_chain.specs.declared.place.Place.{Place}
use Rattle.triple_arena_chain.specs.declared.place.Place.TheVariants.{After, Before}
use Rattle.triple_arena_chain.specs.declared.place.ChainError.{ChainError}
use Rattle.triple_arena_chain.specs.declared.place.ChainError.TheVariants.{NoEntry, Taken, NoRoom, NoMemory}

-- what is found under a pointer: a value, and the pointers of its neighbours in its chain
pub record Node (T : Type 0) : Type 0 where
  pub value : T
  pub before : Option Pointer
  pub after : Option Pointer

-- chains in an arena: the arena, of whose counter and history it alone tells; by index, the generation and the node of the
-- entry that stands there, or nothing; how many entries there are, how many fit without growth, and how many are allowed, if
-- there is a limit
pub record ChainState (A T : Type 0) : Type 0 where
  pub arena : A
  pub slots : List (Option (ℕ × Node T))
  pub len : ℕ
  pub capacity : ℕ
  pub limit : Option ℕ

-- as many entries, and the same capacity and limit
pub record KeepsSize {A T : Type 0} (old new : ChainState A T) : Type 0 where
  pub len : new.len ≡ old.len
  pub same_capacity : new.capacity ≡ old.capacity
  pub same_limit : new.limit ≡ old.limit

-- where an advancer stands: the pointer that it answers next, the one that it began at, and how many it may answer after the
-- next
pub record ChainStand : Type 0 where
  pub next : Option Pointer
  pub first : Option Pointer
  pub left : ℕ

-- where one stands that begins at a pointer
abbrev pub begun_at : Pointer → (left : ℕ) → ChainStand
begun_at p left = record { next = Some p; first = Some p; left = left }

-- where one stands past an entry after which this pointer comes: at that, but not where it began, nor where it may answer no
-- more
abbrev pub passed : ChainStand → (after : Option Pointer) → ChainStand
passed s after = record s { next = cond (s.left == 0 || option_eq is_same s.first after) None after; left = s.left - 1 }

-- no pointer stands twice among these
abbrev pub AreOnce : List Pointer → Type 0
AreOnce [] = Unit {0}
AreOnce (p ∷ ps) = ((q : Pointer) → Contains ps q → p ≢ q) × AreOnce ps

-- what comes first in a list of pointers, or after it where it is empty
abbrev pub first_of : List Pointer → Option Pointer → Option Pointer
first_of [] rest = rest
first_of (p ∷ ps) rest = Some p

module _ {T : Type 0} where
  -- what is found under each pointer
  abbrev pub nodes : {A : Type 0} → ChainState A T → Pointer → Option (Node T)
  nodes s p = look_up s.slots p

  -- the value under a pointer, and the pointers before it and after it, if there are any
  abbrev pub value_at : (Pointer → Option (Node T)) → Pointer → Option T
  value_at nodes p = option_map (λ node. node.value) (nodes p)

  abbrev pub before_at : (Pointer → Option (Node T)) → Pointer → Option Pointer
  before_at nodes p = option_and_then (λ node. node.before) (nodes p)

  abbrev pub after_at : (Pointer → Option (Node T)) → Pointer → Option Pointer
  after_at nodes p = option_and_then (λ node. node.after) (nodes p)

  -- neighbours lead to each other: one stands after the other exactly where that stands before it, so that both are there
  abbrev pub IsLinked : (Pointer → Option (Node T)) → Type 0
  IsLinked nodes = (p q : Pointer) → (after_at nodes p ≡ Some q) ↔ (before_at nodes q ≡ Some p)

  -- two places are neighbours, where both are there: a new entry fits between them
  pub record IsBetween (nodes : Pointer → Option (Node T)) (prev next : Option Pointer) : Type 0 where
    pub after_prev : (p : Pointer) → prev ≡ Some p → after_at nodes p ≡ next
    pub before_next : (n : Pointer) → next ≡ Some n → before_at nodes n ≡ prev

  -- a node stands under a pointer that found nothing before; all else is as before
  pub record IsPut (old : Pointer → Option (Node T)) (q : Pointer) (node : Node T) (new : Pointer → Option (Node T)) : Type 0 where
    pub free : old q ≡ None
    pub found : new q ≡ Some node
    pub others : (r : Pointer) → r ≢ q → new r ≡ old r

  -- a value stands under a pointer that found nothing before, between these neighbours, if there are any; they lead to it, and
  -- all else is as before
  pub record IsInserted (old : Pointer → Option (Node T)) (prev next : Option Pointer) (q : Pointer) (value : T) (new : Pointer → Option (Node T)) : Type 0 where
    pub free : old q ≡ None
    pub found : new q ≡ Some (record { value = value; before = prev; after = next })
    pub values : (r : Pointer) → r ≢ q → value_at new r ≡ value_at old r
    pub after_prev : (p : Pointer) → prev ≡ Some p → after_at new p ≡ Some q
    pub afters : (r : Pointer) → r ≢ q → prev ≢ Some r → after_at new r ≡ after_at old r
    pub before_next : (n : Pointer) → next ≡ Some n → before_at new n ≡ Some q
    pub befores : (r : Pointer) → r ≢ q → next ≢ Some r → before_at new r ≡ before_at old r

  -- what stood under a pointer is gone, and its neighbours lead to each other; all else is as before
  pub record IsRemoved (old : Pointer → Option (Node T)) (p : Pointer) (new : Pointer → Option (Node T)) : Type 0 where
    pub gone : new p ≡ None
    pub values : (r : Pointer) → r ≢ p → value_at new r ≡ value_at old r
    pub after_prev : (a : Pointer) → a ≢ p → before_at old p ≡ Some a → after_at new a ≡ after_at old p
    pub afters : (r : Pointer) → r ≢ p → before_at old p ≢ Some r → after_at new r ≡ after_at old r
    pub before_next : (b : Pointer) → b ≢ p → after_at old p ≡ Some b → before_at new b ≡ before_at old p
    pub befores : (r : Pointer) → r ≢ p → after_at old p ≢ Some r → before_at new r ≡ before_at old r

  -- these two lead to others, or to none, one on and one back; all else is as before
  pub record IsTied (old : Pointer → Option (Node T)) (prev next after before : Option Pointer) (new : Pointer → Option (Node T)) : Type 0 where
    pub values : (r : Pointer) → value_at new r ≡ value_at old r
    pub after_prev : (p : Pointer) → prev ≡ Some p → after_at new p ≡ after
    pub afters : (r : Pointer) → prev ≢ Some r → after_at new r ≡ after_at old r
    pub before_next : (n : Pointer) → next ≡ Some n → before_at new n ≡ before
    pub befores : (r : Pointer) → next ≢ Some r → before_at new r ≡ before_at old r

  -- the chain of the one goes on with the chain of the other
  abbrev pub IsJoined : (old : Pointer → Option (Node T)) (last first : Pointer) (new : Pointer → Option (Node T)) → Type 0
  IsJoined old last first new = IsTied old (Some last) (Some first) (Some first) (Some last) new

  -- none stands after the one, and none before the other
  pub record AreOpen (nodes : Pointer → Option (Node T)) (last first : Pointer) : Type 0 where
    pub open_after : after_at nodes last ≡ None
    pub open_before : before_at nodes first ≡ None

  -- a chain is cut between two neighbours
  abbrev pub IsCut : (old : Pointer → Option (Node T)) (prev next : Option Pointer) (new : Pointer → Option (Node T)) → Type 0
  IsCut old prev next new = IsTied old prev next None None new

  -- another value stands under a pointer; all else is as before
  pub record IsWritten (old : Pointer → Option (Node T)) (p : Pointer) (value : T) (new : Pointer → Option (Node T)) : Type 0 where
    pub found : value_at new p ≡ Some value
    pub values : (r : Pointer) → r ≢ p → value_at new r ≡ value_at old r
    pub afters : (r : Pointer) → after_at new r ≡ after_at old r
    pub befores : (r : Pointer) → before_at new r ≡ before_at old r

  abbrev pub with_value : T → Node T → Node T
  with_value value node = record node { value = value }

  -- the same chains with another value in the entry at an index, if there is one, as its arena has it then
  abbrev pub with_value_at : {A : Type 0} → (put : A → ℕ → T → A) → ChainState A T → ℕ → T → ChainState A T
  with_value_at put s i value = record s { arena = put s.arena i value; slots = with_item s.slots i (option_map (map_entry (with_value value)) (entry_in s.slots i)) }

  -- a node whose neighbours have other names
  abbrev pub renamed : (Pointer → Pointer) → Node T → Node T
  renamed rename node = record node { before = option_map rename node.before; after = option_map rename node.after }

  -- each node stands under the new name of its pointer, with its neighbours so renamed, and no other does
  pub record IsMoved (old : Pointer → Option (Node T)) (rename : Pointer → Pointer) (new : Pointer → Option (Node T)) : Type 0 where
    pub moved : (p : Pointer) → IsSome (old p) → new (rename p) ≡ option_map (renamed rename) (old p)
    pub all : (q : Pointer) → IsSome (new q) → (p : Pointer) × IsSome (old p) × (rename p ≡ q)

  -- these pointers stand one after another in a chain, and after the last of them comes the given one, or none
  abbrev pub IsRun : (Pointer → Option (Node T)) → List Pointer → Option Pointer → Type 0
  IsRun found [] rest = Unit {0}
  IsRun found (p ∷ ps) rest = IsSome (found p) × (after_at found p ≡ first_of ps rest) × IsRun found ps rest

  -- the values under pointers, in their order
  abbrev pub values_at : (Pointer → Option (Node T)) → List Pointer → List (Option T)
  values_at nodes ps = map (value_at nodes) ps

  -- these pointers stand one after another in a chain, before the given one or none, and have these values
  abbrev pub Lists : (Pointer → Option (Node T)) → List Pointer → Option Pointer → List (Option T) → Type 0
  Lists nodes ps rest values = IsRun nodes ps rest × (values_at nodes ps ≡ values)

  -- a step of an advancer: it answers the pointer at which it stands, if that is found, and passes it; else it stays
  abbrev pub Passes : (Pointer → Option (Node T)) → ChainStand → (answer : Option Pointer) → ChainStand → Type 0
  Passes nodes s None t = ((p : Pointer) → s.next ≡ Some p → nodes p ≡ None) × (t ≡ s)
  Passes nodes s (Some p) t = (s.next ≡ Some p) × IsSome (nodes p) × (t ≡ passed s (after_at nodes p))

  -- the answers of an advancer over chains that stay, up to the first none
  abbrev pub Answers : (Pointer → Option (Node T)) → ChainStand → List Pointer → Type 0
  Answers nodes s [] = Passes nodes s None s
  Answers nodes s (p ∷ ps) = (t : ChainStand) × Passes nodes s (Some p) t × Answers nodes t ps

  -- these are the pointers of a chain from one on, each once, to its end, or once round a ring
  pub record IsRest (nodes : Pointer → Option (Node T)) (p : Pointer) (ps : List Pointer) : Type 0 where
    pub then : Option Pointer
    pub run : IsRun nodes ps then
    pub first : first_of ps None ≡ Some p
    pub once : AreOnce ps
    pub whole : (then ≡ None) ⊎ (then ≡ Some p)

  -- neighbours lead on from the one pointer to the other, over some between or over none
  abbrev pub LeadsTo : (Pointer → Option (Node T)) → Pointer → Pointer → Type 0
  LeadsTo nodes p q = (between : List Pointer) × IsRun nodes (p ∷ between) (Some q)

  -- two pointers are of one chain
  abbrev pub IsOfChain : (Pointer → Option (Node T)) → Pointer → Pointer → Type 0
  IsOfChain nodes p q = (p ≡ q) ⊎ (LeadsTo nodes p q ⊎ LeadsTo nodes q p)

  -- the chain of a pointer is gone; every pointer that is not of it finds what it found
  pub record IsChainRemoved (old : Pointer → Option (Node T)) (p : Pointer) (new : Pointer → Option (Node T)) : Type 0 where
    pub gone : (q : Pointer) → IsOfChain old p q → new q ≡ None
    pub others : (q : Pointer) → ¬ IsOfChain old p q → new q ≡ old q

  -- no other stands beside a pointer: it is alone in its chain, open or a ring
  pub record IsAlone (nodes : Pointer → Option (Node T)) (p : Pointer) : Type 0 where
    pub last : (q : Pointer) → after_at nodes p ≡ Some q → q ≡ p
    pub first : (q : Pointer) → before_at nodes p ≡ Some q → q ≡ p

  -- one stands beside another
  abbrev pub IsBeside : (Pointer → Option (Node T)) → Pointer → Pointer → Type 0
  IsBeside nodes p q = (q ≢ p) × ((after_at nodes p ≡ Some q) ⊎ (before_at nodes p ≡ Some q))

  -- where a pointer is given, it is found
  abbrev pub IsThere : (Pointer → Option (Node T)) → Option Pointer → Type 0
  IsThere nodes at = (p : Pointer) → at ≡ Some p → IsSome (nodes p)

  -- what is found under a pointer, after a change of the node of one, if one is given
  abbrev pub changed : Option Pointer → (Node T → Node T) → Pointer → Option (Node T) → Option (Node T)
  changed None change q node = node
  changed (Some p) change q node = cond (is_same q p) (option_map change node) node

  abbrev pub with_after : Option Pointer → Node T → Node T
  with_after p node = record node { after = p }

  abbrev pub with_before : Option Pointer → Node T → Node T
  with_before p node = record node { before = p }

-- an arena with another value in what stands at an index, if something does
module _ {A X T : Type 0} (slots : A → List (Option (ℕ × X))) (put : A → ℕ → X → A) (with_new : T → X → X) where
  abbrev pub put_within_entry : A → ℕ → T → Option (ℕ × X) → A
  put_within_entry arena i value None = arena
  put_within_entry arena i value (Some e) = put arena i (with_new value e.1)

  abbrev pub put_within : A → ℕ → T → A
  put_within arena i value = put_within_entry arena i value (entry_in (slots arena) i)

-- a link with another value, and an arena with one in the link that stands at an index, if one does
abbrev pub with_link_value : {P T : Type 0} → T → Link P T → Link P T
with_link_value value link = record link { value = value }

abbrev pub put_value : {A P T : Type 0} → (slots : A → List (Option (ℕ × Link P T))) (put : A → ℕ → Link P T → A) → A → ℕ → T → A
put_value slots put = put_within slots put with_link_value

-- the pointer that a place is at
abbrev pub place_at : {P : Type 0} → (P → Pointer) → Place P → Pointer
place_at numbers (After p) = numbers p
place_at numbers (Before p) = numbers p

-- room or memory was refused
abbrev pub IsRefusedRoom : ChainError → Type 0
IsRefusedRoom NoEntry = ⊥
IsRefusedRoom Taken = ⊥
IsRefusedRoom NoRoom = Unit {0}
IsRefusedRoom NoMemory = Unit {0}

-- why two chains were not joined
abbrev pub KeepsApart : {T : Type 0} → (Pointer → Option (Node T)) → (last first : Pointer) → ChainError → Type 0
KeepsApart nodes last first NoEntry = (nodes last ≡ None) ⊎ (nodes first ≡ None)
KeepsApart nodes last first Taken = IsSome (nodes last) × IsSome (nodes first) × (IsSome (after_at nodes last) ⊎ IsSome (before_at nodes first))
KeepsApart nodes last first NoRoom = ⊥
KeepsApart nodes last first NoMemory = ⊥

module _ {P T : Type 0} (numbers : P → Pointer) where
  -- a link as it is read
  abbrev pub node_of : Link P T → Node T
  node_of link = record { value = link.value; before = option_map numbers link.before; after = option_map numbers link.after }

  -- the slots of an arena with their links so, and the chains in it
  abbrev pub node_slots : List (Option (ℕ × Link P T)) → List (Option (ℕ × Node T))
  node_slots slots = map (option_map (map_entry node_of)) slots

  abbrev pub place_before : (Pointer → Option (Node T)) → Place P → Option Pointer
  place_before found (After p) = Some (numbers p)
  place_before found (Before p) = before_at found (numbers p)

  abbrev pub place_after : (Pointer → Option (Node T)) → Place P → Option Pointer
  place_after found (After p) = after_at found (numbers p)
  place_after found (Before p) = Some (numbers p)

  abbrev pub state_of : {A : Type 0} → A → List (Option (ℕ × Link P T)) → (capacity : ℕ) (limit : Option ℕ) → ChainState A T
  state_of arena slots capacity limit = record { arena = arena; slots = node_slots slots; len = entry_count slots; capacity = capacity; limit = limit }

  -- the chains in an arena, as its words tell them
  abbrev pub chains_in : {A : Type 0} → (A → List (Option (ℕ × Link P T))) → (A → ℕ) → (A → Option ℕ) → A → ChainState A T
  chains_in slots capacity limit arena = state_of arena (slots arena) (capacity arena) (limit arena)
