-- What a session shows: a store of names.
use Rattle.std.specs.Prelude.{◌≡◌, ◌≤◌, ◌<◌, List, map, Option, Some, IsTrue, false}
use Rattle.std.specs.Option.{option_map}
use Rattle.triple_arena_ptr.specs.Pointers.{Pointer}
use Rattle.triple_arena_stack.specs.StackKind.{StackKind, IsOfKind}
use Rattle.triple_arena_traits.specs.Entries.{look_up}
use Rattle.triple_arena_traits.specs.ArenaState.{ArenaState, capacity, IsWellFormed}
use Rattle.triple_arena_traits.specs.Histories.{has, AreDistinct, is_live}
use Rattle.triple_arena_commands.specs.NameStore.{NameRow, Store}
use Rattle.triple_arena_session.specs.SessionState.{SessionState, link_name}

module _ {X : Type 0} where
  -- a datum and the pointer of its link as a row: the datum, and the name of the link
  abbrev pub as_row : List Pointer → X × Option Pointer → NameRow X
  as_row table node = (node.0, link_name table node.1)

  -- the row of a pointer, if the arena has it
  abbrev pub row_of : ArenaState (X × Option Pointer) → List Pointer → Pointer → Option (NameRow X)
  row_of arena table p = option_map (as_row table) (look_up arena.slots p)

  -- the store that a session shows: the row of each name is that of its pointer
  abbrev pub shown : SessionState X → Store X
  shown s =
      record {
        rows = map (row_of s.arena s.table) s.table;
        capacity = capacity s.arena;
        limit = s.arena.limit;
        greatest = s.arena.greatest;
      }

  -- the table has no pointer twice, and has every pointer of the arena and that of every link; none of its generations is
  -- above the counter, and those of pointers that the arena does not have are below it
  pub record IsSound (s : SessionState X) : Type 0 where
    pub distinct : AreDistinct s.table
    pub has_live : (p : Pointer) → IsTrue (is_live s.arena p) → IsTrue (has s.table p)
    pub has_links : (p q : Pointer) (datum : X) → look_up s.arena.slots p ≡ Some (datum, Some q) → IsTrue (has s.table q)
    pub by_now : (p : Pointer) → IsTrue (has s.table p) → p.1 ≤ s.arena.counter
    pub before : (p : Pointer) → IsTrue (has s.table p) → is_live s.arena p ≡ false → p.1 < s.arena.counter

-- as every arena over a stack of this kind is: well formed, and its room and limit are such as the kind has
abbrev pub IsArenaOver : {T : Type 0} → StackKind → ArenaState T → Type 0
IsArenaOver kind arena = IsWellFormed arena × IsOfKind kind arena.room arena.limit
