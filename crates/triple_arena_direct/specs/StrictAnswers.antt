-- What the calls of a strict arena answer, which never wraps its counter.
use Rattle.std.specs.Prelude.{ℕ, ◌==◌, Bool, false, cond, List, [], ◌∷◌, Option, Some, None, Result, Ok, Err, ⊤}
use Rattle.triple_arena_ptr.specs.Numbers.{Generations, raise, wraps}
use Rattle.triple_arena_ptr.specs.Pointers.{Pointer}
use Rattle.triple_arena_traits.specs.ArenaState.{ArenaState, arena_len}
use Rattle.triple_arena_traits.specs.Compression.{raised_if_any, rank}
use Rattle.triple_arena_traits.specs.Histories.{ModelCall}
use Rattle.triple_arena_recasting.specs.Renaming.{Refuses}
use Rattle.triple_arena_recasting.specs.RenamingBoth.{RefusesBoth}
use Rattle.triple_arena_direct.specs.declared.errors.StrictError.{StrictError}
use Rattle.triple_arena_direct.specs.declared.errors.StrictError.TheVariants.{InvalidPtr, Exhausted}
use Rattle.triple_arena_direct.specs.declared.errors.StrictCompactError.{StrictCompactError}
use Rattle.triple_arena_direct.specs.declared.errors.StrictCompactError.TheVariants as compact
use Rattle.triple_arena_direct.specs.declared.errors.StrictCompactBothError.{StrictCompactBothError}
use Rattle.triple_arena_direct.specs.declared.errors.StrictCompactBothError.TheVariants as both

module _ {T : Type 0} (generations : Generations) where
  -- a raise of the counter would wrap it
  abbrev pub is_exhausted : ArenaState T → Bool
  is_exhausted s = wraps generations s.counter

  -- there is an entry, and a raise of the counter would wrap it
  abbrev pub is_exhausted_for_any : ArenaState T → Bool
  is_exhausted_for_any s = cond (arena_len s == 0) false (is_exhausted s)

-- the answer for a pointer, by what stands under it: a refusal where nothing does, and then where the counter is exhausted
abbrev pub strict_of : {A : Type 0} → Bool → Option A → Result A StrictError
strict_of exhausted None = Err InvalidPtr
strict_of exhausted (Some x) = cond exhausted (Err Exhausted) (Ok x)

-- the answer for all entries: a refusal where the counter is exhausted
abbrev pub strict_all : Bool → Result (Unit {0}) StrictError
strict_all exhausted = cond exhausted (Err Exhausted) (Ok tt)

-- the model call of an answer, and none where there was a refusal
abbrev pub calls_if_ok : {A E : Type 0} → Result A E → (A → ModelCall) → List ModelCall
calls_if_ok (Ok x) call = call x ∷ []
calls_if_ok (Err e) call = []

-- why nothing was compacted, beside an exhausted counter: as a compaction with recasting of any arena is refused
abbrev pub RefusesStrictly : {P : Type 0} (count : ℕ) (first : Option P) → StrictCompactError P → Type 0
RefusesStrictly count first compact.Exhausted = ⊤
RefusesStrictly count first (compact.Compact refusal) = Refuses count first refusal

-- why neither of two strict arenas was compacted, beside an exhausted counter: as a compaction of any two is refused
abbrev pub RefusesBothStrictly : {P Q : Type 0} (count : ℕ) (first : Option P) (count_too : ℕ) (first_too : Option Q) → StrictCompactBothError P Q → Type 0
RefusesBothStrictly count first count_too first_too both.Exhausted = ⊤
RefusesBothStrictly count first count_too first_too (both.Compact refusal) = RefusesBoth count first count_too first_too refusal

-- where a compression moves the entry of a pointer, under the counter, which is raised if there is an entry
abbrev pub strict_rank : {T : Type 0} → Generations → ArenaState T → Pointer → Pointer
strict_rank generations s = rank s (raised_if_any (raise generations) s)
