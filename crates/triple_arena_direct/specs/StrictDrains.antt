-- Draining a strict arena.
use Rattle.std.specs.Prelude.{◌≡◌, Option, Some, None, Result}
use Rattle.std.specs.Borrow.{RestsIfErr, Fml, RattleType, MutBor, GName}
use Rattle.triple_arena_ptr.specs.Pointers.{Pointer}
use Rattle.triple_arena_traits.specs.Entries.{look_up, IsFirst}
use Rattle.triple_arena_traits.specs.ArenaState.{ArenaState, arena_len}
use Rattle.triple_arena_traits.specs.SlotSteps.{IsTouched}
use Rattle.triple_arena_traits.specs.Ending.{removed}
use Rattle.triple_arena_traits.specs.Walks.{Stand}
use Rattle.triple_arena_direct.specs.declared.strict_arena.drain.StrictDrain.{StrictDrain}

module _ {P T S I G : Type 0} where
  -- the arena, as the drain holds it
  abbrev pub strict_drain_arena : StrictDrain P T S I G → ArenaState T
  strict_drain_arena drain = drain.arena.now

  -- the ghost name of the reference to the arena
  abbrev pub strict_drain_lender : StrictDrain P T S I G → GName
  strict_drain_lender drain = drain.arena.ghost_name

  -- where the drain stands
  abbrev pub strict_drain_stand : StrictDrain P T S I G → Stand
  strict_drain_stand drain = drain.advancer

  -- refused, the arena stays as it is
  abbrev pub strict_drain_rests : (arena_row : RattleType) → MutBor arena_row.Denot → {E : Type 0} → Result (StrictDrain P T S I G) E → Fml
  strict_drain_rests arena_row arena result = RestsIfErr arena_row arena strict_drain_lender result (λ end. end ≡ arena.now)

module _ {P T : Type 0} (numbers : P → Pointer) where
  -- an entry was taken out, or none, and then nothing changed; the counter stays
  abbrev pub TakesEntry : ArenaState T → Option (P × T) → ArenaState T → Type 0
  TakesEntry s None t = t ≡ s
  TakesEntry s (Some e) t =
      (look_up s.slots (numbers e.0) ≡ Some e.1) × IsTouched (removed (λ n. n) s (numbers e.0).0) t

  -- a step takes out the entry of least index; it takes out none exactly where there is no entry, and then nothing changes
  abbrev pub StrictDrainStep : ArenaState T → Option (P × T) → ArenaState T → Type 0
  StrictDrainStep s None t = (arena_len s ≡ 0) × (t ≡ s)
  StrictDrainStep s (Some e) t = IsFirst s.slots (numbers e.0) × TakesEntry s (Some e) t
