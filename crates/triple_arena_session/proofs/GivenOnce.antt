-- A run of a session without entries gives each pointer once.
use Rattle.std.proofs.Common.{◌≡◌, ℕ, true, List, [], take}
use Rattle.triple_arena_ptr.specs.Numbers.{Generations}
use Rattle.triple_arena_stack.specs.StackKind.{StackKind}
use Rattle.triple_arena_traits.specs.ArenaState.{arena_len}
use Rattle.triple_arena_traits.specs.Histories.{begun_with}
use Rattle.triple_arena_traits.specs.laws.HistoryLaws.{Fits-empty}
use Rattle.triple_arena_commands.specs.declared.command.Command.{Command}
use Rattle.triple_arena_commands.specs.declared.reply.Reply.{Reply}
use Rattle.triple_arena_commands.specs.Runs.{IsRun}
use Rattle.triple_arena_commands.specs.laws.RunLaws.{IsRun-front}
use Rattle.triple_arena_session.specs.SessionState.{SessionState}
use Rattle.triple_arena_session.specs.SessionRun.{IsStep}
use Rattle.triple_arena_session.specs.SessionCalls.{GivesOnceToWrap}
use Rattle.triple_arena_session.specs.Shown.{IsArenaOver}
use Rattle.triple_arena_session.proofs.Continuing.{StepGoesOn, StepsKeepHistories}

module _ {X : Type 0} (kind : StackKind) (generations : Generations) (has_memory : ℕ → Type 0) (counts : generations.counting ≡ true) where
  abbrev Step : SessionState X → Command X → Reply X → SessionState X → Type 0
  Step = IsStep kind has_memory generations

  pub RunGivesOnce : (s : SessionState X) (commands : List (Command X)) (replies : List (Reply X)) (t : SessionState X) → IsArenaOver kind s.arena → arena_len s.arena ≡ 0 → IsRun Step s commands replies t → GivesOnceToWrap Step s commands replies
  RunGivesOnce s commands replies t over none run count quiet =
      let front = IsRun-front Step s t commands replies count run in
      let keeps = StepsKeepHistories kind generations Step (StepGoesOn kind generations has_memory) counts s (take count commands) (take count replies) front.0 over in
      (front.0, (front.1, (keeps front.1 quiet (begun_with []) (Fits-empty s.arena none)).given_once))
