-- What a session holds.
use Rattle.std.specs.Prelude.{ℕ, List, [], Option, Some, None}
use Rattle.std.specs.Option.{option_map, option_and_then}
use Rattle.triple_arena_ptr.specs.Pointers.{Pointer}
use Rattle.triple_arena_traits.specs.Items.{item}
use Rattle.triple_arena_traits.specs.Entries.{look_up}
use Rattle.triple_arena_traits.specs.ArenaState.{ArenaState}
use Rattle.triple_arena_commands.specs.PointerNames.{name_of}
use Rattle.triple_arena_session.specs.declared.node.Node.{Node}

-- an arena of data, each with the pointer of its link; and the table of the pointers that were given, with its room: a
-- name is the number of a pointer's place in the table
pub record SessionState (X : Type 0) : Type 0 where
  pub arena : ArenaState (X × Option Pointer)
  pub table : List Pointer
  pub table_room : ℕ

-- the datum of a node, and the pointer of its link as numbers
abbrev pub node_of : {X P : Type 0} → (P → Pointer) → Node X P → X × Option Pointer
node_of pointer node = (node.datum, option_map pointer node.link)

-- a session over an arena, that has given no name
abbrev pub new_session : {X : Type 0} → ArenaState (X × Option Pointer) → SessionState X
new_session arena = record { arena = arena; table = []; table_room = 0 }

-- the name of the pointer of a link
abbrev pub link_name : List Pointer → Option Pointer → Option ℕ
link_name table link = option_and_then (name_of table) link

-- the pointer of a link that is given as a name or as none: a bad link, to a name that was never given, has none
abbrev pub link_pointer : List Pointer → Option ℕ → Option (Option Pointer)
link_pointer table None = Some None
link_pointer table (Some name) = option_map Some (item table name)

-- what stands under a name, if the name is live: the table has its place, and the arena that pointer
abbrev pub named : {X : Type 0} → SessionState X → ℕ → Option (X × Option Pointer)
named s name = option_and_then (look_up s.arena.slots) (item s.table name)
