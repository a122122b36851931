-- Commands to a store of names, one after another, and what compaction leaves unseen.
use Rattle.std.specs.Prelude.{Bool, true, false, not, if◌then◌else◌, List, [], ◌∷◌, filter}
use Rattle.triple_arena_commands.specs.declared.command.Command.{Command}
use Rattle.triple_arena_commands.specs.declared.command.Command.TheVariants.{Compact, Capacity, Reserve, Show}
use Rattle.triple_arena_commands.specs.declared.reply.Reply.{Reply}
use Rattle.triple_arena_commands.specs.declared.reply.Reply.TheVariants.{Given, NoMemory, Removed, Cleared, Compacted}
use Rattle.triple_arena_commands.specs.NameStore.{Store, store_answer, IsStoreStep}

module _ {X : Type 0} where
  -- all commands but Capacity, Reserve and Show, which may see where entries lie, are named commands
  abbrev pub is_named : Command X → Bool
  is_named Capacity = false
  is_named (Reserve m) = false
  is_named Show = false
  is_named command = true

  abbrev pub is_compact : Command X → Bool
  is_compact Compact = true
  is_compact command = false

  abbrev pub is_no_memory : Reply X → Bool
  is_no_memory NoMemory = true
  is_no_memory reply = false

  -- the reply with its bool, if it has one, read as false
  abbrev pub without_wrap : Reply X → Reply X
  without_wrap (Given name wrapped) = Given name false
  without_wrap (Removed datum link wrapped) = Removed datum link false
  without_wrap (Cleared wrapped) = Cleared false
  without_wrap (Compacted wrapped) = Compacted false
  without_wrap reply = reply

  -- the replies, bools aside, are those of the store, one command after another
  abbrev pub AnswersAsStore : Store X → List (Command X) → List (Reply X) → Type 0
  AnswersAsStore s [] [] = Unit {0}
  AnswersAsStore s (command ∷ commands) (reply ∷ replies) =
      (t : Store X) × IsStoreStep s command (without_wrap reply) t × AnswersAsStore t commands replies
  AnswersAsStore s commands replies = ⊥

  -- the replies of the store where no memory is refused
  abbrev pub replies_with_memory : Store X → List (Command X) → List (Reply X)
  replies_with_memory s [] = []
  replies_with_memory s (command ∷ commands) = (store_answer s command).0 ∷ replies_with_memory (store_answer s command).1 commands

  -- the commands without compactions
  abbrev pub without_compactions : List (Command X) → List (Command X)
  without_compactions commands = filter (λ command. not (is_compact command)) commands

  -- the replies to all commands but compactions, their bools read as false
  abbrev pub replies_without_compactions : List (Command X) → List (Reply X) → List (Reply X)
  replies_without_compactions [] replies = []
  replies_without_compactions commands [] = []
  replies_without_compactions (command ∷ commands) (reply ∷ replies) =
      if is_compact command then replies_without_compactions commands replies else without_wrap reply ∷ replies_without_compactions commands replies
