-- Compaction of a session: the entries move to the first indexes, and pointers of entries are renamed everywhere.
use Rattle.std.specs.Prelude.{ℕ, Bool, false, not, cond, map, Option, Some, None, is_some}
use Rattle.std.specs.Option.{option_map}
use Rattle.std.specs.List.{list_any}
use Rattle.triple_arena_ptr.specs.Pointers.{Pointer}
use Rattle.triple_arena_traits.specs.Entries.{look_up}
use Rattle.triple_arena_traits.specs.ArenaState.{ArenaState}
use Rattle.triple_arena_traits.specs.Walks.{values}
use Rattle.triple_arena_traits.specs.Compression.{compressed, rank}
use Rattle.triple_arena_session.specs.SessionState.{SessionState}

module _ {X : Type 0} where
  -- whether a datum has a link, and the arena has no entry under its pointer
  abbrev pub dangles : ArenaState (X × Option Pointer) → X × Option Pointer → Bool
  dangles arena (datum, None) = false
  dangles arena (datum, Some p) = not (is_some (look_up arena.slots p))

  -- whether some link of the arena does
  abbrev pub any_dangles : ArenaState (X × Option Pointer) → Bool
  any_dangles arena = list_any (dangles arena) (values arena.slots)

  -- a pointer after compression under this counter: that of its entry, or the same where it has none
  abbrev pub renamed : ArenaState (X × Option Pointer) → ℕ → Pointer → Pointer
  renamed arena counter p = cond (is_some (look_up arena.slots p)) (rank arena counter p) p

  -- a datum with its link after compression
  abbrev pub relinked : ArenaState (X × Option Pointer) → ℕ → X × Option Pointer → X × Option Pointer
  relinked arena counter node = (node.0, option_map (renamed arena counter) node.1)

  -- the session after a compaction: its entries moved, and the pointers of links and names renamed with them
  abbrev pub compacted : SessionState X → ℕ → SessionState X
  compacted s counter =
      record s {
        arena = compressed s.arena counter (map (relinked s.arena counter) (values s.arena.slots));
        table = map (renamed s.arena counter) s.table;
      }
