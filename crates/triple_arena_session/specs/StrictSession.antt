-- What each command makes of a strict session, and the strict store that it shows.
use Rattle.std.specs.Prelude.{◌≡◌, ◌≤◌, ℕ, ◌-◌, ◌&&◌, Bool, true, is_some, List, length}
use Rattle.triple_arena_ptr.specs.Numbers.{Generations, wraps}
use Rattle.triple_arena_stack.specs.StackKind.{StackKind}
use Rattle.triple_arena_traits.specs.ArenaState.{arena_len}
use Rattle.triple_arena_traits.specs.Walks.{keys}
use Rattle.triple_arena_traits.specs.Histories.{begun_with, Fits}
use Rattle.triple_arena_commands.specs.declared.command.Command.{Command}
use Rattle.triple_arena_commands.specs.declared.reply.Reply.{Reply}
use Rattle.triple_arena_commands.specs.Runs.{TellsOfNoWrap}
use Rattle.triple_arena_commands.specs.StrictStore.{raises, IsStrictly, StrictStore}
use Rattle.triple_arena_session.specs.SessionState.{SessionState, named}
use Rattle.triple_arena_session.specs.SessionRun.{IsStep}
use Rattle.triple_arena_session.specs.Shown.{shown, IsSound, IsArenaOver}

module _ {X : Type 0} where
  -- whether a command to a session raises the counter where it succeeds
  abbrev pub raises_counter : SessionState X → Command X → Bool
  raises_counter s command = raises (λ name. is_some (named s name)) (arena_len s.arena) command

  -- whether a strict session refuses a command: it would raise a counter that stands at the greatest generation
  abbrev pub is_refused : Generations → SessionState X → Command X → Bool
  is_refused generations s command = wraps generations s.arena.counter && raises_counter s command

  -- a command, its reply and the strict session after it: the refusal, and nothing changes, or a step as of any session
  abbrev pub IsStrictSessionStep : (kind : StackKind) (has_memory : ℕ → Type 0) (generations : Generations) (before : SessionState X) (command : Command X) (reply : Reply X) (after : SessionState X) → Type 0
  IsStrictSessionStep kind has_memory generations = IsStrictly (is_refused generations) (IsStep kind has_memory generations)

  -- the strict store that a session shows: its counter has the raises left that lead to the greatest generation
  abbrev pub strictly_shown : (greatest : ℕ) → SessionState X → StrictStore X
  strictly_shown greatest s = record { store = shown s; left = greatest - s.arena.counter }

  -- each command has its reply, and none tells of a wrap
  pub record RepliesToEach (commands : List (Command X)) (replies : List (Reply X)) : Type 0 where
    pub whole : length replies ≡ length commands
    pub quiet : TellsOfNoWrap replies

  -- a strict session before a call and after it. Before it, its arena is one that the stack can have, and its counter at most
  -- the greatest generation; where generations count, it was sound, and the pointers of its entries begin a history. After it,
  -- where they count, it is sound
  pub record StaysStrict (kind : StackKind) (generations : Generations) (s t : SessionState X) : Type 0 where
    pub arena : IsArenaOver kind s.arena
    pub within : s.arena.counter ≤ generations.greatest
    pub was_sound : generations.counting ≡ true → IsSound s
    pub begun : generations.counting ≡ true → Fits (begun_with (keys s.arena.slots)) s.arena
    pub sound : generations.counting ≡ true → IsSound t
