-- The model calls on the arena of a session that a command is, and those of commands one after another.
use Rattle.std.specs.Prelude.{◌≡◌, ℕ, ◌+◌, true, false, List, [], ◌∷◌, ◌++◌, take, Option, Some, None}
use Rattle.std.specs.List.{list_any}
use Rattle.triple_arena_ptr.specs.Numbers.{Generations}
use Rattle.triple_arena_ptr.specs.Pointers.{Pointer}
use Rattle.triple_arena_traits.specs.Items.{item}
use Rattle.triple_arena_traits.specs.Insertion.{next_pointer}
use Rattle.triple_arena_traits.specs.Walks.{keys}
use Rattle.triple_arena_traits.specs.Compression.{raised_if_any}
use Rattle.triple_arena_traits.specs.Histories.{ModelCall, insertion, removal, invalidation, clearing, compression, resizing, AreDistinct, begun_with, given, followed_by, Fits, Continues}
use Rattle.triple_arena_commands.specs.declared.command.Command.{Command}
use Rattle.triple_arena_commands.specs.declared.command.Command.TheVariants.{Insert, InsertWithin, Remove, Invalidate, Clear, Compact, Reserve}
use Rattle.triple_arena_commands.specs.declared.reply.Reply.{Reply}
use Rattle.triple_arena_commands.specs.declared.reply.Reply.TheVariants.{Given, Removed, Cleared, Compacted}
use Rattle.triple_arena_commands.specs.Runs.{IsRun, TellsOfNoWrap}
use Rattle.triple_arena_commands.specs.StrictStore.{tells_exhausted}
use Rattle.triple_arena_session.specs.SessionState.{SessionState}
use Rattle.triple_arena_session.specs.Compaction.{compacted}

-- the call at a pointer, if there is one
abbrev pub call_at : (Pointer → ModelCall) → Option Pointer → List ModelCall
call_at call None = []
call_at call (Some p) = call p ∷ []

module _ {X : Type 0} where
  -- the model calls of a command that was answered so, and did not wrap the counter. A look-up and a write to an entry are
  -- none, nor is what was refused; a reservation tidies the free list also where it is refused
  abbrev pub calls_of : SessionState X → Command X → Reply X → List ModelCall
  calls_of s (Insert datum link) (Given name wrapped) = insertion (next_pointer s.arena) ∷ []
  calls_of s (InsertWithin datum link) (Given name wrapped) = insertion (next_pointer s.arena) ∷ []
  calls_of s (Remove name) (Removed datum link wrapped) = call_at removal (item s.table name)
  calls_of s (Invalidate name) (Given new wrapped) = call_at (λ p. invalidation p (p.0, s.arena.counter + 1)) (item s.table name)
  calls_of s Clear (Cleared wrapped) = clearing (keys s.arena.slots) ∷ []
  calls_of s Compact (Compacted wrapped) =
      compression (keys s.arena.slots) (keys (compacted s (raised_if_any (λ n. n + 1) s.arena)).arena.slots) ∷ []
  calls_of s (Reserve m) reply = resizing ∷ []
  calls_of s command reply = []

  -- the model calls of commands that ran one after another
  abbrev pub calls_in : (Step : SessionState X → Command X → Reply X → SessionState X → Type 0) (s : SessionState X) (commands : List (Command X)) (replies : List (Reply X)) (t : SessionState X) → IsRun Step s commands replies t → List ModelCall
  calls_in Step s [] [] t run = []
  calls_in Step s [] (reply ∷ replies) t run = []
  calls_in Step s (command ∷ commands) [] t run = []
  calls_in Step s (command ∷ commands) (reply ∷ replies) t run = calls_of s command reply ++ calls_in Step run.0 commands replies t run.2

  -- the model calls of a run whose replies tell of no wrap take each history that fits the arena to one that fits: the
  -- same, followed by them
  abbrev pub KeepsHistories : (Step : SessionState X → Command X → Reply X → SessionState X → Type 0) → SessionState X → List (Command X) → List (Reply X) → SessionState X → Type 0
  KeepsHistories Step s commands replies t =
      (ran : IsRun Step s commands replies t) → TellsOfNoWrap replies → Continues Fits s.arena (calls_in Step s commands replies t ran) t.arena

  -- a run of any session, sound or not. Where generations count, histories go on (`calls`), and of each front of the commands
  -- and replies there is what stood after it, and they went on so far (`fronts`). No reply is `Exhausted`
  pub record RunGoesOn (generations : Generations) (Step : SessionState X → Command X → Reply X → SessionState X → Type 0) (s : SessionState X) (commands : List (Command X)) (replies : List (Reply X)) (t : SessionState X) : Type 0 where
    pub calls : generations.counting ≡ true → KeepsHistories Step s commands replies t
    pub fronts : generations.counting ≡ true → (count : ℕ) → (after : SessionState X) × IsRun Step s (take count commands) (take count replies) after × KeepsHistories Step s (take count commands) (take count replies) after
    pub never : list_any tells_exhausted replies ≡ false

  -- commands ran with these replies, and the model calls take each history that fits the arena to one that fits
  abbrev pub RunsFreshly : (Step : SessionState X → Command X → Reply X → SessionState X → Type 0) → SessionState X → List (Command X) → List (Reply X) → SessionState X → Type 0
  RunsFreshly Step s commands replies t = (ran : IsRun Step s commands replies t) × Continues Fits s.arena (calls_in Step s commands replies t ran) t.arena

  -- commands ran with these replies, and the pointers that were there first and those that the model calls gave are all
  -- different
  abbrev pub GivesNew : (Step : SessionState X → Command X → Reply X → SessionState X → Type 0) → List Pointer → SessionState X → List (Command X) → List (Reply X) → SessionState X → Type 0
  GivesNew Step first s commands replies t =
      (ran : IsRun Step s commands replies t) × AreDistinct (given (followed_by (begun_with first) (calls_in Step s commands replies t ran)))

  -- so did the first of them, however many, as long as no reply told of a wrap, from a session without entries
  abbrev pub GivesOnceToWrap : (Step : SessionState X → Command X → Reply X → SessionState X → Type 0) → SessionState X → List (Command X) → List (Reply X) → Type 0
  GivesOnceToWrap Step s commands replies =
      (count : ℕ) → TellsOfNoWrap (take count replies) → (t : SessionState X) × GivesNew Step [] s (take count commands) (take count replies) t
