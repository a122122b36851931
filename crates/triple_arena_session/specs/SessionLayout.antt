-- What the fields of a session hold, and a step of its body, strict or not. No public clause cites this module.
use Rattle.std.specs.Prelude.{ℕ, ◌&&◌, Bool, List, map}
use Rattle.triple_arena_ptr.specs.Numbers.{Generations}
use Rattle.triple_arena_ptr.specs.Pointers.{Pointer}
use Rattle.triple_arena_stack.specs.StackKind.{StackKind}
use Rattle.triple_arena_traits.specs.ArenaState.{ArenaState, map_values}
use Rattle.triple_arena_commands.specs.declared.command.Command.{Command}
use Rattle.triple_arena_commands.specs.declared.reply.Reply.{Reply}
use Rattle.triple_arena_commands.specs.StrictStore.{IsStrictly}
use Rattle.triple_arena_session.specs.declared.node.Node.{Node}
use Rattle.triple_arena_session.specs.SessionState.{SessionState, node_of}
use Rattle.triple_arena_session.specs.SessionRun.{IsStep}
use Rattle.triple_arena_session.specs.StrictSession.{is_refused}

-- the same arena, and no slot is counted
abbrev pub uncounted : {T : Type 0} → ArenaState T → ArenaState T
uncounted s = record s { steps = 0 }

-- the session with this arena, and with a table of these pointers and this room
abbrev pub session_of : {X P : Type 0} → (P → Pointer) → ArenaState (Node X P) → List P → ℕ → SessionState X
session_of pointer arena table room = record { arena = map_values (node_of pointer) arena; table = map pointer table; table_room = room }

module _ {X : Type 0} where
  -- whether a session refuses a command for want of a raise, which a strict one alone does
  abbrev pub refuses : (strict : Bool) (generations : Generations) → SessionState X → Command X → Bool
  refuses strict generations s command = strict && is_refused generations s command

  -- a step of a session that is strict, or is not
  abbrev pub IsStepStrictIf : (strict : Bool) (kind : StackKind) (has_memory : ℕ → Type 0) (generations : Generations) (before : SessionState X) (command : Command X) (reply : Reply X) (after : SessionState X) → Type 0
  IsStepStrictIf strict kind has_memory generations = IsStrictly (refuses strict generations) (IsStep kind has_memory generations)
