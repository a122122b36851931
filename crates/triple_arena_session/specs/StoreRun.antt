-- What steps and runs of a session make of the store that it shows.
use Rattle.std.specs.Prelude.{◌≡◌, true, false, List, [], ◌∷◌, ◌++◌, length, take}
use Rattle.triple_arena_ptr.specs.Numbers.{Generations}
use Rattle.triple_arena_stack.specs.StackKind.{StackKind}
use Rattle.triple_arena_traits.specs.Histories.{Fits, Continues}
use Rattle.triple_arena_commands.specs.declared.command.Command.{Command}
use Rattle.triple_arena_commands.specs.declared.reply.Reply.{Reply}
use Rattle.triple_arena_commands.specs.ReplyText.{tells_of_wrap}
use Rattle.triple_arena_commands.specs.Runs.{IsRun, TellsOfNoWrap}
use Rattle.triple_arena_commands.specs.NameStore.{Store, IsStoreStep}
use Rattle.triple_arena_commands.specs.StoreRuns.{without_wrap}
use Rattle.triple_arena_session.specs.SessionState.{SessionState}
use Rattle.triple_arena_session.specs.SessionCalls.{calls_of}
use Rattle.triple_arena_session.specs.Shown.{shown, IsSound, IsArenaOver}

-- commands ran from s to t, and were answered as by the store, the last one too, whose reply may tell of a wrap: before it
-- the session was sound, and showed what the others made of the store, and its reply, the bool aside, is that store's
abbrev pub EndsAsStore : {X : Type 0} → (Step : SessionState X → Command X → Reply X → SessionState X → Type 0) (s : SessionState X) (commands : List (Command X)) (before : List (Reply X)) (last : Reply X) (t : SessionState X) → Type 0
EndsAsStore {X} Step s commands before last t =
    (others : List (Command X)) × (command : Command X) × (m : SessionState X) × (after : Store X) × (commands ≡ others ++ command ∷ [])
    × IsRun Step s others before m × IsRun IsStoreStep (shown s) others before (shown m) × IsSound m
    × Step m command last t × IsStoreStep (shown m) command (without_wrap last) after

module _ {X : Type 0} where
  -- a run of a sound session, by its replies. Where none tells of a wrap, the store that was shown has run, and is shown, and
  -- the session is sound (`shows`, `sound`). Where the last one alone may tell of one, the run ends as the store's (`at_wrap`)
  pub record EndsSoundly (Step : SessionState X → Command X → Reply X → SessionState X → Type 0) (s : SessionState X) (commands : List (Command X)) (replies : List (Reply X)) (t : SessionState X) : Type 0 where
    pub shows : TellsOfNoWrap replies → IsRun IsStoreStep (shown s) commands replies (shown t)
    pub sound : TellsOfNoWrap replies → IsSound t
    pub at_wrap : (before : List (Reply X)) (last : Reply X) → replies ≡ before ++ last ∷ [] → TellsOfNoWrap before → EndsAsStore Step s (take (length replies) commands) before last t

  -- a step over such an arena. Of any session, the arena stays such a one, and where generations count and the reply tells of
  -- no wrap, histories go on by the calls. Of a sound one, the step is one of the store that is shown, and the session is sound
  -- after it; where the reply tells of a wrap, the bool aside, it is that store's
  pub record StepsAsStore (kind : StackKind) (generations : Generations) (s : SessionState X) (command : Command X) (reply : Reply X) (t : SessionState X) : Type 0 where
    pub arena : IsArenaOver kind t.arena
    pub calls : generations.counting ≡ true → tells_of_wrap reply ≡ false → Continues Fits s.arena (calls_of s command reply) t.arena
    pub store : generations.counting ≡ true → IsSound s → tells_of_wrap reply ≡ false → IsStoreStep (shown s) command reply (shown t)
    pub sound : generations.counting ≡ true → IsSound s → tells_of_wrap reply ≡ false → IsSound t
    pub at_wrap : generations.counting ≡ true → IsSound s → (after : Store X) × IsStoreStep (shown s) command (without_wrap reply) after
