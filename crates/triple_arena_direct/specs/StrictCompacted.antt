-- What a compaction of a strict arena gives: what it gives of any arena, and what strict arenas alone promise.
use Rattle.std.specs.Prelude.{◌≡◌, ℕ, Bool, true, false, List, [], ◌∷◌, IsSome}
use Rattle.triple_arena_ptr.specs.Numbers.{Generations, raise, first_generation}
use Rattle.triple_arena_ptr.specs.Pointers.{Pointer}
use Rattle.triple_arena_stack.specs.StackKind.{StackKind}
use Rattle.triple_arena_traits.specs.Entries.{look_up}
use Rattle.triple_arena_traits.specs.ArenaState.{ArenaState, capacity}
use Rattle.triple_arena_traits.specs.SlotSteps.{IsTouched}
use Rattle.triple_arena_traits.specs.Compression.{compressed, counter_after, rank}
use Rattle.triple_arena_traits.specs.Walks.{keys}
use Rattle.triple_arena_traits.specs.Histories.{begun_with, compression, Fits, Continues}
use Rattle.triple_arena_recasting.specs.Compacted.{KeepsSize, IsCompactedKeeping, IsCompactedRenaming, IsCompactedBoth}
use Rattle.triple_arena_direct.specs.Gone.{IsGoneForGood}
use Rattle.triple_arena_direct.specs.StrictCalls.{IsStrictStep, to_compress}

-- as of any arena, whose counter doesn't wrap: it is raised if there is an entry, or, with a reset, begins anew
module _ {T : Type 0} (generations : Generations) (reset : Bool) (old : ArenaState T) where
  abbrev counter : ℕ
  counter = counter_after (first_generation generations) (raise generations) reset old

  abbrev LeavesUnder : List T → ArenaState T → Type 0
  LeavesUnder values new = IsTouched (compressed old counter values) new

  -- no value changes
  abbrev pub IsStrictlyKeeping : ArenaState T → Type 0
  IsStrictlyKeeping = IsCompactedKeeping (λ s. s.slots) Fits LeavesUnder (rank old counter) generations false reset old

  -- each pointer of the one kind is renamed
  abbrev pub IsStrictlyRenaming : {P : Type 0} (numbers : P → Pointer) (held : T → List P) (refill : T → List P → T) → ArenaState T → Type 0
  IsStrictlyRenaming numbers held refill =
      IsCompactedRenaming (λ s. s.slots) Fits LeavesUnder (rank old counter) generations false reset numbers held refill old

  -- each pointer of both kinds is renamed
  abbrev pub IsStrictlyBoth : {P Q : Type 0} (numbers : P → Pointer) (held : T → List P) (refill : T → List P → T)
      (numbers_too : Q → Pointer) (rename_too : Pointer → Pointer) (held_too : T → List Q) (refill_too : T → List Q → T) → ArenaState T → Type 0
  IsStrictlyBoth numbers held refill numbers_too rename_too held_too refill_too =
      IsCompactedBoth (λ s. s.slots) Fits LeavesUnder (rank old counter) generations false reset numbers held refill numbers_too rename_too held_too refill_too old

-- as many entries, and the same limit and capacity
abbrev pub KeepsStrictSize : {T : Type 0} → ArenaState T → ArenaState T → Type 0
KeepsStrictSize = KeepsSize (λ s. s.slots) (λ s. s.limit) capacity

-- the compaction is one strict call. Where generations count, it is one model call, which a history goes on by, and another
-- can begin then; it ended every pointer for good, and what was gone for good stays so
pub record IsStrictCompaction {T : Type 0} (kind : StackKind) (generations : Generations) (old new : ArenaState T) : Type 0 where
  pub step : (values : List T) × IsStrictStep kind generations old (to_compress values) (compression (keys old.slots) (keys new.slots) ∷ []) new
  pub history : generations.counting ≡ true → Continues Fits old (compression (keys old.slots) (keys new.slots) ∷ []) new
  pub begun : generations.counting ≡ true → Fits (begun_with (keys new.slots)) new
  pub gone_for_good : generations.counting ≡ true → (p : Pointer) → IsSome (look_up old.slots p) → IsGoneForGood new p
  pub stays_gone : generations.counting ≡ true → (p : Pointer) → IsGoneForGood old p → IsGoneForGood new p
