-- Eleven commands, two of them compactions, and the replies to them.
use Rattle.std.specs.Prelude.{ℕ, false, List, [], ◌∷◌, Some, None}
use Rattle.triple_arena_ptr.specs.Numbers.{counting_to}
use Rattle.triple_arena_stack.specs.StackKind.StackKind.{heap}
use Rattle.triple_arena_commands.specs.declared.command.Command.{Command}
use Rattle.triple_arena_commands.specs.declared.command.Command.TheVariants.{Insert, InsertWithin, Get, Set, Remove, Compact, Len}
use Rattle.triple_arena_commands.specs.declared.reply.Reply.{Reply}
use Rattle.triple_arena_commands.specs.declared.reply.Reply.TheVariants.{Given, Found, Nothing, Done, Removed, Compacted, Unresolved, Count}
use Rattle.triple_arena_session.specs.SessionState.{SessionState}
use Rattle.triple_arena_session.specs.SessionRun.{answer}
use Rattle.triple_arena_session.specs.KindRun.{greatest}

abbrev pub eleven_commands : List (Command ℕ)
eleven_commands = Insert 1 None ∷ Insert 2 (Some 1) ∷ Remove 1 ∷ Insert 3 (Some 2) ∷ Compact ∷ Set 2 2 None ∷ Compact ∷ Get 3 ∷ Get 1 ∷ InsertWithin 4 (Some 3) ∷ Len ∷ []

-- the replies to them
abbrev pub eleven_replies : List (Reply ℕ)
eleven_replies =
    Given 1 false ∷ Given 2 false ∷ Removed 1 None false ∷ Given 3 false ∷ Unresolved ∷ Done ∷ Compacted false ∷ Found 3 (Some 2) ∷ Nothing ∷ Given 4 false ∷ Count 3 ∷ []

-- the replies to the nine others, where the compactions are left out
abbrev pub nine_replies : List (Reply ℕ)
nine_replies =
    Given 1 false ∷ Given 2 false ∷ Removed 1 None false ∷ Given 3 false ∷ Done ∷ Found 3 (Some 2) ∷ Nothing ∷ Given 4 false ∷ Count 3 ∷ []

-- the replies of a session of P0 over the heap, by the model of slots, counter and free list, where no memory is refused
abbrev pub model_replies : SessionState ℕ → List (Command ℕ) → List (Reply ℕ)
model_replies s [] = []
model_replies s (command ∷ commands) =
    (answer heap (counting_to greatest) None s command).0 ∷ model_replies (answer heap (counting_to greatest) None s command).1 commands
