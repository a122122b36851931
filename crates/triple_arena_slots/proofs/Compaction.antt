-- The arena, and what callers see of it, after a compression.
use Rattle.std.proofs.Common.{◌≡◌, ℕ, ◌≤◌, List, map, length, Option, Some, None, refl, sym, ap, subst, ◌∙◌, arith}
use Rattle.triple_arena_ptr.specs.Pointers.{Pointer}
use Rattle.triple_arena_traits.specs.Entries.{entry_count}
use Rattle.triple_arena_traits.specs.ArenaState.{ArenaState, capacity}
use Rattle.triple_arena_traits.specs.Walks.{entries, keys}
use Rattle.triple_arena_traits.specs.Compression.{closed_up, compressed, rank, rank_in, placed}
use Rattle.triple_arena_traits.specs.laws.CompressionLaws.{count-closed_up, placed-closed_up}
use Rattle.triple_arena_traits.specs.Moves.{Moves}
use Rattle.triple_arena_slots.specs.Slot.{entry_of}
use Rattle.triple_arena_slots.specs.Layout.{Shows}
use Rattle.triple_arena_slots.specs.declared.slot.ArenaSlot.{ArenaSlot}
use Rattle.triple_arena_traits.specs.laws.MoveLaws.{count-moved}
use Rattle.triple_arena_traits.specs.laws.StepLaws.{IsWellFormed-compressed}

module _ {T : Type 0} where
  pub Shows-compressed : {P I G : Type 0} (number : G → ℕ) (es : List (ArenaSlot P T I G)) (len : ℕ) (s : ArenaState T) (counter : ℕ) (vs : List T) → map (entry_of number) es ≡ closed_up counter vs → length vs ≡ len → length vs ≤ capacity s → Shows number es None len (compressed s counter vs)
  Shows-compressed number es len s counter vs slots count fits =
      record { slots = slots; linked = refl; counted = sym (count-closed_up counter vs ∙ count); well = IsWellFormed-compressed s counter vs fits }

  -- slots that are closed up under one generation show the arena compressed
  pub closed_shows : {P F I G : Type 0} (numbers : P → Pointer) (step : F → P → T → P → T → F → Type 0) (number : G → ℕ) (es es' : List (ArenaSlot P T I G)) (root : Option ℕ) (len : ℕ) (s : ArenaState T) (n : ℕ) (f : F) (vs : List T)
      → Shows number es root len s → Moves numbers step (rank_in (Some n) (map (entry_of number) es)) f (entries (map (entry_of number) es)) vs
      → map (entry_of number) es' ≡ placed (map (rank_in (Some n) (map (entry_of number) es)) (keys (map (entry_of number) es))) vs
      → (ws : List T) × Moves numbers step (rank s n) f (entries s.slots) ws × Shows number es' None len (compressed s n ws)
  closed_shows numbers step number es es' root len s n f vs shows moved placed_so =
      let moves : Moves numbers step (rank s n) f (entries s.slots) vs = subst (λ xs. Moves numbers step (rank_in (Some n) xs) f (entries xs) vs) shows.slots moved in
      let many : length vs ≡ entry_count s.slots = count-moved numbers step (rank s n) f s.slots vs moves in
      let closed = placed_so ∙ ap (λ xs. placed (map (rank_in (Some n) xs) (keys xs)) vs) shows.slots ∙ placed-closed_up n s.slots vs many in
      (vs, moves, Shows-compressed number es' len s n vs closed (many ∙ sym shows.counted) (omega (arith, many, shows.well.total, shows.well.fits)))
