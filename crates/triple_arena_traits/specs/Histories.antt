-- Which pointers an arena gave, and which of them have ended.
use Rattle.std.specs.Prelude.{◌≡◌, ◌+◌, ◌<◌, ◌≤◌, ◌&&◌, not, IsTrue, Bool, true, false, List, [], ◌∷◌, ◌++◌, length, is_some}
use Rattle.std.specs.List.{list_any}
use Rattle.triple_arena_ptr.specs.Numbers.{Generations}
use Rattle.triple_arena_ptr.specs.Pointers.{Pointer, is_same}
use Rattle.triple_arena_traits.specs.Entries.{KeepsEntries, look_up}
use Rattle.triple_arena_traits.specs.ArenaState.{ArenaState, arena_len, IsWellFormed}
use Rattle.triple_arena_traits.specs.Insertion.{next_pointer, inserted}
use Rattle.triple_arena_traits.specs.Ending.{removed, invalidated, cleared}
use Rattle.triple_arena_traits.specs.Compression.{compressed, raised_if_any}
use Rattle.triple_arena_traits.specs.Walks.{keys}

-- whether a list has this pointer
abbrev pub has : List Pointer → Pointer → Bool
has ps p = list_any (is_same p) ps

-- no pointer comes twice
abbrev pub AreDistinct : List Pointer → Type 0
AreDistinct [] = Unit {0}
AreDistinct (p ∷ ps) = (has ps p ≡ false) × AreDistinct ps

-- what can be done to an arena: an insertion that gives a pointer; a removal that ends one; an invalidation that ends the
-- first pointer and gives the second; a clearing that ends these; a compression that ends the first ones and gives the
-- others; or a change of the free list, of room or of limit
pub data ModelCall : Type 0 where
  insertion : Pointer → ModelCall
  removal : Pointer → ModelCall
  invalidation : Pointer → Pointer → ModelCall
  clearing : List Pointer → ModelCall
  compression : List Pointer → List Pointer → ModelCall
  resizing : ModelCall

-- the pointers that a model call gives
abbrev pub given_by : ModelCall → List Pointer
given_by (insertion p) = p ∷ []
given_by (removal p) = []
given_by (invalidation p q) = q ∷ []
given_by (clearing ps) = []
given_by (compression ps qs) = qs
given_by resizing = []

-- the pointers that a model call ends
abbrev pub ended_by : ModelCall → List Pointer
ended_by (insertion p) = []
ended_by (removal p) = p ∷ []
ended_by (invalidation p q) = p ∷ []
ended_by (clearing ps) = ps
ended_by (compression ps qs) = ps
ended_by resizing = []

-- a history of an arena: it began with these pointers; or there is one, and a model call after it
pub data History : Type 0 where
  begun_with : List Pointer → History
  and_then : History → ModelCall → History

-- the pointers that were there first, and then those that were given, in their order
abbrev pub given : History → List Pointer
given (begun_with ps) = ps
given (and_then h call) = given h ++ given_by call

-- the pointers that have ended
abbrev pub ended : History → List Pointer
ended (begun_with ps) = []
ended (and_then h call) = ended h ++ ended_by call

-- whether a pointer was given, and has not ended
abbrev pub remains : History → Pointer → Bool
remains h p = has (given h) p && not (has (ended h) p)

-- a history, and then these model calls, one after another
abbrev pub followed_by : History → List ModelCall → History
followed_by h [] = h
followed_by h (call ∷ calls) = followed_by (and_then h call) calls

-- a raise of the counter gives a greater generation: generations count, and it does not wrap
abbrev pub CountsUp : Generations → (wraps : Bool) → Type 0
CountsUp generations wraps = (generations.counting ≡ true) × (wraps ≡ false)

-- an arena goes on from another by these model calls: whatever history fits it, then fits followed by them
abbrev pub Continues : {A : Type 0} → (History → A → Type 0) → A → List ModelCall → A → Type 0
Continues fits old calls new = (h : History) → fits h old → fits (followed_by h calls) new

module _ {T : Type 0} where
  -- whether the arena has an entry under this pointer
  abbrev pub is_live : ArenaState T → Pointer → Bool
  is_live s p = is_some (look_up s.slots p)

  -- a history fits an arena: no pointer was given twice; the arena's pointers are exactly those that remain; no generation
  -- that was given is above the counter; and each that has ended is below it
  pub record Fits (h : History) (s : ArenaState T) : Type 0 where
    pub given_once : AreDistinct (given h)
    pub live : (p : Pointer) → is_live s p ≡ remains h p
    pub given_by_now : (p : Pointer) → IsTrue (has (given h) p) → p.1 ≤ s.counter
    pub ended_before : (p : Pointer) → IsTrue (has (ended h) p) → p.1 < s.counter

  -- a model call that does not wrap the counter: where it raises it, it adds one
  abbrev pub IsModelCall : ArenaState T → ModelCall → ArenaState T → Type 0
  IsModelCall s (insertion p) t = (value : T) × IsWellFormed s × (p ≡ next_pointer s) × (t ≡ inserted s value)
  IsModelCall s (removal p) t = IsTrue (is_live s p) × (t ≡ removed (λ n. n + 1) s p.0)
  IsModelCall s (invalidation p q) t = IsTrue (is_live s p) × (q ≡ (p.0, t.counter)) × (t ≡ invalidated (λ n. n + 1) s p.0)
  IsModelCall s (clearing ps) t = (ps ≡ keys s.slots) × (t ≡ cleared (λ n. n + 1) s)
  IsModelCall s (compression ps qs) t =
      (values : List T) × (length values ≡ arena_len s) × (ps ≡ keys s.slots) × (qs ≡ keys t.slots)
      × (t ≡ compressed s (raised_if_any (λ n. n + 1) s) values)
  IsModelCall s resizing t = KeepsEntries s.slots t.slots × (t.counter ≡ s.counter)

  -- model calls one after another, of which none wraps the counter
  abbrev pub AreModelCalls : ArenaState T → List ModelCall → ArenaState T → Type 0
  AreModelCalls s [] t = t ≡ s
  AreModelCalls s (call ∷ calls) t = (m : ArenaState T) × IsModelCall s call m × AreModelCalls m calls t
