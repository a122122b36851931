-- One step of a drain of a strict arena.
use Rattle.std.proofs.Common.{ℕ, ◌<◌, Option, Some, None, refl, arith}
use Rattle.std.specs.Option.{option_map}
use Rattle.triple_arena_ptr.specs.Pointers.{Pointer}
use Rattle.triple_arena_traits.specs.ArenaState.{ArenaState, arena_len}
use Rattle.triple_arena_traits.specs.Walks.{Stand, Steps, IsBeforeAll, IsAtFirst}
use Rattle.triple_arena_traits.specs.laws.WalkLaws.{found, none_left, answer_first, others_ahead}
use Rattle.triple_arena.specs.laws.TouchedLaws.{removed_slots, removed_len}
use Rattle.triple_arena_direct.specs.StrictDrains.{TakesEntry, StrictDrainStep}

-- the entry that is taken out is the first, and the others stay ahead
pub next_drained : {P T : Type 0} (numbers : P → Pointer) (greatest : ℕ) (s t : ArenaState T) (b a : Stand) (r : Option (P × T)) → TakesEntry numbers s r t → Steps greatest s.slots b (option_map (λ e. numbers e.0) r) a → IsBeforeAll s.slots b → StrictDrainStep numbers s r t × IsBeforeAll t.slots a
next_drained numbers greatest s t b a None taken steps before =
    let none = none_left greatest s.slots b a before steps in
    ((none.0, taken), rw taken none.1)
next_drained numbers greatest s t b a (Some e) taken steps before =
    ((answer_first greatest s.slots b (numbers e.0) a before steps, taken), others_ahead greatest s.slots b (numbers e.0) a t.slots before steps (removed_slots (λ n. n) s (numbers e.0).0 t taken.1))

-- and there is one entry less
pub fewer_taken : {P T : Type 0} (numbers : P → Pointer) (s t : ArenaState T) (e : P × T) → TakesEntry numbers s (Some e) t → arena_len t < arena_len s
fewer_taken numbers s t e taken =
    let entry = (found s.slots (numbers e.0) (rw taken.0 refl)).entry in
    omega (arith, removed_len (λ n. n) s (numbers e.0).0 t taken.1 (rw entry refl))

-- a forward stand at the first entry is one that every entry is ahead of
pub before_first : {T : Type 0} (s : ArenaState T) (b : Stand) → IsAtFirst s.slots b → IsBeforeAll s.slots b
before_first s b first = record { forward = first.forward; all = first.all }
