-- The last step of a run, which may wrap the counter.
use Rattle.std.proofs.Common.{◌≡◌, ℕ, true, List, [], ◌∷◌, ◌++◌, refl, sym, ap, subst}
use Rattle.triple_arena_ptr.specs.Numbers.{Generations}
use Rattle.triple_arena_stack.specs.StackKind.{StackKind}
use Rattle.triple_arena_commands.specs.declared.command.Command.{Command}
use Rattle.triple_arena_commands.specs.declared.reply.Reply.{Reply}
use Rattle.triple_arena_commands.specs.Runs.{IsRun, TellsOfNoWrap}
use Rattle.triple_arena_session.specs.SessionState.{SessionState}
use Rattle.triple_arena_session.specs.SessionRun.{IsStep}
use Rattle.triple_arena_session.specs.StoreRun.{EndsAsStore}
use Rattle.triple_arena_session.proofs.Soundness.{SoundOver}
use Rattle.triple_arena_session.proofs.StoreLaws.{StepIsStores}
use Rattle.triple_arena_session.proofs.StoreRunLaws.{QuietRunIsStores}

-- the commands before the last one ran, and then that one
module _ {S C R : Type 0} (Step : S → C → R → S → Type 0) (t : S) (last : R) where
  abbrev EndsIn : S → List C → List R → Type 0
  EndsIn s commands before = (others : List C) × (command : C) × (m : S) × (commands ≡ others ++ command ∷ []) × IsRun Step s others before m × Step m command last t

  last_step : (s : S) (commands : List C) (before : List R) → IsRun Step s commands (before ++ last ∷ []) t → EndsIn s commands before
  last_step s [] [] run = absurd run
  last_step s [] (reply ∷ before) run = absurd run
  last_step s (command ∷ commands) [] run = none_left commands run.2
    where
      none_left : (rest : List C) → IsRun Step run.0 rest [] t → EndsIn s (command ∷ rest) []
      none_left [] same = ([], command, s, refl, refl, subst (λ u. Step s command last u) (sym same) run.1)
      none_left (next ∷ rest) more = absurd more
  last_step s (command ∷ commands) (reply ∷ before) run =
      let rest = last_step run.0 commands before run.2 in
      (command ∷ rest.0, rest.1, rest.2, ap (λ l. command ∷ l) rest.3, (run.0, run.1, rest.4), rest.5)

module _ {X : Type 0} (kind : StackKind) (has_memory : ℕ → Type 0) (generations : Generations) (counts : generations.counting ≡ true) where
  pub RunEndsAsStore : (s : SessionState X) (commands : List (Command X)) (before : List (Reply X)) (last : Reply X) (t : SessionState X) → SoundOver kind s → IsRun (IsStep kind has_memory generations) s commands (before ++ last ∷ []) t → TellsOfNoWrap before
      → EndsAsStore (IsStep kind has_memory generations) s commands before last t
  RunEndsAsStore s commands before last t sound run quiet =
      let ends = last_step (IsStep kind has_memory generations) t last s commands before run in
      let stores = QuietRunIsStores kind has_memory generations counts s ends.0 before ends.2 sound ends.4 quiet in
      let answer = (StepIsStores kind has_memory generations counts ends.2 ends.1 last t stores.1 ends.5).answers in
      (ends.0, ends.1, ends.2, answer.0, ends.3, ends.4, stores.0, stores.1.table, ends.5, answer.1)
