-- For clauses of callers: the numbers of a pointer of a named type, where a compaction moves the entries of an `Arena` over such
-- pointers, and where a pointer leads that is looked up in its map.
use Rattle.std.specs.Prelude.{ℕ, suc, ◌-◌, ◌^◌, Bool, false, cond, List, Option, is_some}
use Rattle.triple_arena_ptr.specs.Numbers.{counting_to, raise, wraps}
use Rattle.triple_arena_ptr.specs.Pointers.{Pointer}
use Rattle.triple_arena_ptr.specs.declared.P0.{P0}
use Rattle.triple_arena_ptr.specs.declared.P1.{P1}
use Rattle.triple_arena_ptr.specs.declared.P2.{P2}
use Rattle.triple_arena_ptr.specs.declared.P3.{P3}
use Rattle.triple_arena_ptr.specs.declared.Q2.{Q2}
use Rattle.triple_arena_ptr.specs.declared.SmallPtr.{SmallPtr}
use Rattle.triple_arena_traits.specs.ArenaState.{ArenaState}
use Rattle.triple_arena_traits.specs.Compression.{rank, raised_if_any, wraps_after}
use Rattle.triple_arena_traits.specs.Entries.{look_up}

-- the numbers of a pointer's index and of its generation
abbrev pub p0_numbers : P0 → Pointer
p0_numbers p = (suc p.0, suc p.1)

abbrev pub p1_numbers : P1 → Pointer
p1_numbers p = (suc p.0, suc p.1)

abbrev pub p2_numbers : P2 → Pointer
p2_numbers p = (suc p.0, suc p.1)

abbrev pub p3_numbers : P3 → Pointer
p3_numbers p = (suc p.0, suc p.1)

abbrev pub q2_numbers : Q2 → Pointer
q2_numbers p = (suc p.0, suc p.1)

abbrev pub small_numbers : SmallPtr → Pointer
small_numbers p = (suc p.0, suc p.1)

module _ {T : Type 0} where
  -- where a compaction without a reset moves the entry of a pointer, if the counter goes up to this greatest number: all
  -- come to stand under the raised counter; and whether that wraps it
  abbrev pub moved_within : (greatest : ℕ) → ArenaState T → Pointer → Pointer
  moved_within greatest s = rank s (raised_if_any (raise (counting_to greatest)) s)

  abbrev pub wraps_within : (greatest : ℕ) → ArenaState T → Bool
  wraps_within greatest s = wraps_after (wraps (counting_to greatest)) false s

  -- so of `P0`, `P1` and `Q2`, whose generations have 64 bits
  abbrev pub moved : ArenaState T → Pointer → Pointer
  moved s = moved_within (2 ^ 64 - 1) s

  abbrev pub moving_wraps : ArenaState T → Bool
  moving_wraps s = wraps_within (2 ^ 64 - 1) s

  -- where a pointer that is kept leads once the entries of these slots are moved so: after its entry, or, where it found none,
  -- where it led
  abbrev pub renamed_if_live : (Pointer → Pointer) → List (Option (ℕ × T)) → Pointer → Pointer
  renamed_if_live rename slots p = cond (is_some (look_up slots p)) (rename p) p
