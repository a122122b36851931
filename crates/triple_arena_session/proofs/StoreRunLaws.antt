-- A run of a session answers as the store that it shows, and compaction is unseen.
use Rattle.std.proofs.Common.{◌≡◌, ◌⊎◌, ℕ, true, false, List, [], ◌∷◌, ◌++◌, length, take, sym, ap, subst, ◌∙◌, inl, inr, arith, true≢false}
use Rattle.std.specs.List.{list_any, list_all}
use Rattle.std.proofs.lemmas.List.{take_all}
use Rattle.std.proofs.lemmas.List.Elements.{All-head, All-tail}
use Rattle.triple_arena_ptr.specs.Numbers.{Generations}
use Rattle.triple_arena_stack.specs.StackKind.{StackKind}
use Rattle.triple_arena_commands.specs.declared.command.Command.{Command}
use Rattle.triple_arena_commands.specs.declared.reply.Reply.{Reply}
use Rattle.triple_arena_commands.specs.ReplyText.{tells_of_wrap}
use Rattle.triple_arena_commands.specs.NameStore.{Store, IsStoreStep}
use Rattle.triple_arena_commands.specs.Runs.{IsRun, TellsOfNoWrap, EndsInWrap, RunsToWrap}
use Rattle.triple_arena_commands.specs.StoreRuns.{is_named, is_no_memory, AnswersAsStore, replies_with_memory, without_compactions, replies_without_compactions}
use Rattle.triple_arena_commands.specs.laws.UnseenLaws.{without_wrap-quiet, CompactionIsUnseen}
use Rattle.triple_arena_session.specs.SessionState.{SessionState}
use Rattle.triple_arena_session.specs.SessionRun.{IsStep}
use Rattle.triple_arena_session.specs.Shown.{shown}
use Rattle.triple_arena_session.proofs.StoreLaws.{StepIsStores}
use Rattle.triple_arena_session.proofs.Soundness.{SoundOver}

-- where no reply tells of a wrap, all commands ran
module _ {X : Type 0} where
  quiet_last : (before : List (Reply X)) (last : Reply X) → TellsOfNoWrap (before ++ last ∷ []) → tells_of_wrap last ≡ false
  quiet_last [] last told = All-head (λ r. tells_of_wrap r ≡ false) last [] told
  quiet_last (r ∷ before) last told = quiet_last before last (All-tail (λ r. tells_of_wrap r ≡ false) r (before ++ last ∷ []) told)

  pub quiet_ends : (replies : List (Reply X)) → TellsOfNoWrap replies → EndsInWrap replies → ⊥
  quiet_ends replies quiet ends = true≢false (sym ends.4 ∙ quiet_last ends.0 ends.1 (subst TellsOfNoWrap ends.2 quiet))

  pub count_if_quiet : {C : Type 0} (commands : List C) (replies : List (Reply X)) → TellsOfNoWrap replies → (TellsOfNoWrap replies × (length replies ≡ length commands)) ⊎ EndsInWrap replies → length replies ≡ length commands
  count_if_quiet commands replies quiet (inl all) = all.1
  count_if_quiet commands replies quiet (inr ends) = absurd (quiet_ends replies quiet ends)

  pub whole_if_quiet : {C : Type 0} (commands : List C) (replies : List (Reply X)) → TellsOfNoWrap replies → (TellsOfNoWrap replies × (length replies ≡ length commands)) ⊎ EndsInWrap replies → take (length replies) commands ≡ commands
  whole_if_quiet commands replies quiet ran = take_all (length replies) commands (omega (arith, count_if_quiet commands replies quiet ran))

module _ {X : Type 0} (kind : StackKind) (has_memory : ℕ → Type 0) (generations : Generations) (counts : generations.counting ≡ true) where
  abbrev pub Step : SessionState X → Command X → Reply X → SessionState X → Type 0
  Step s command reply t = IsStep kind has_memory generations s command reply t

  -- a run that tells of no wrap is a run of the store, and the session stays sound
  pub QuietRunIsStores : (s : SessionState X) (commands : List (Command X)) (replies : List (Reply X)) (t : SessionState X) → SoundOver kind s → IsRun Step s commands replies t → TellsOfNoWrap replies
      → IsRun IsStoreStep (shown s) commands replies (shown t) × SoundOver kind t
  QuietRunIsStores s [] [] t sound run quiet = (ap shown run, subst (SoundOver kind) (sym run) sound)
  QuietRunIsStores s [] (reply ∷ replies) t sound run quiet = absurd run
  QuietRunIsStores s (command ∷ commands) [] t sound run quiet = absurd run
  QuietRunIsStores s (command ∷ commands) (reply ∷ replies) t sound run quiet =
      let first = StepIsStores kind has_memory generations counts s command reply run.0 sound run.1 in
      let told = All-head (λ r. tells_of_wrap r ≡ false) reply replies quiet in
      let later = QuietRunIsStores run.0 commands replies t (first.sound told) run.2 (All-tail (λ r. tells_of_wrap r ≡ false) reply replies quiet) in
      ((shown run.0, first.step told, later.0), later.1)

  ends_tail : (reply : Reply X) (replies : List (Reply X)) → EndsInWrap (reply ∷ replies) → (replies ≡ []) ⊎ ((tells_of_wrap reply ≡ false) × EndsInWrap replies)
  ends_tail reply replies ends = by ends.0 ends.2 ends.3
    where
      by : (before : List (Reply X)) → reply ∷ replies ≡ before ++ ends.1 ∷ [] → TellsOfNoWrap before → (replies ≡ []) ⊎ ((tells_of_wrap reply ≡ false) × EndsInWrap replies)
      by [] is quiet = let none : replies ≡ [] = cc in inl none
      by (b ∷ before) is quiet =
          let same : reply ≡ b = cc in
          let rest : replies ≡ before ++ ends.1 ∷ [] = cc in
          inr (ap tells_of_wrap same ∙ All-head (λ r. tells_of_wrap r ≡ false) b before quiet, (before, ends.1, rest, All-tail (λ r. tells_of_wrap r ≡ false) b before quiet, ends.4))

  -- one that ends with the first reply that tells of a wrap answers as the store all the same
  pub answers : (s : SessionState X) (commands : List (Command X)) (replies : List (Reply X)) (t : SessionState X) → SoundOver kind s → IsRun Step s commands replies t → TellsOfNoWrap replies ⊎ EndsInWrap replies
      → AnswersAsStore (shown s) commands replies
  answers s [] [] t sound run ends = tt
  answers s [] (reply ∷ replies) t sound run ends = absurd run
  answers s (command ∷ commands) [] t sound run ends = absurd run
  answers s (command ∷ commands) (reply ∷ replies) t sound run (inl quiet) =
      let told = All-head (λ r. tells_of_wrap r ≡ false) reply replies quiet in
      let first = StepIsStores kind has_memory generations counts s command reply run.0 sound run.1 in
      (shown run.0, subst (λ r. IsStoreStep (shown s) command r (shown run.0)) (sym (without_wrap-quiet reply told)) (first.step told), answers run.0 commands replies t (first.sound told) run.2 (inl (All-tail (λ r. tells_of_wrap r ≡ false) reply replies quiet)))
  answers s (command ∷ commands) (reply ∷ replies) t sound run (inr ends) =
      let first = StepIsStores kind has_memory generations counts s command reply run.0 sound run.1 in
      elim (ends_tail reply replies ends) [
        | inl none ↦ (first.answers.0, first.answers.1, last commands replies run.0 first.answers.0 none run.2)
        | inr more ↦ (shown run.0, subst (λ r. IsStoreStep (shown s) command r (shown run.0)) (sym (without_wrap-quiet reply more.0)) (first.step more.0), answers run.0 commands replies t (first.sound more.0) run.2 (inr more.1))
      ]
    where
      last : (commands : List (Command X)) (replies : List (Reply X)) (m : SessionState X) (u : Store X) → replies ≡ [] → IsRun Step m commands replies t → AnswersAsStore u commands replies
      last [] [] m u none run = tt
      last [] (reply ∷ replies) m u none run = absurd run
      last (command ∷ commands) [] m u none run = absurd run
      last (command ∷ commands) (reply ∷ replies) m u none run = absurd (cc)

  -- up to the first reply that tells of a wrap, a sound session answers as the store that it shows
  pub RunAnswersAsStore : (s : SessionState X) (commands : List (Command X)) (replies : List (Reply X)) (t : SessionState X) → SoundOver kind s → RunsToWrap Step s commands replies t
      → AnswersAsStore (shown s) (take (length replies) commands) replies
  RunAnswersAsStore s commands replies t sound ran =
      answers s (take (length replies) commands) replies t sound ran.0 (ends ran.1)
    where
      ends : (TellsOfNoWrap replies × (length replies ≡ length commands)) ⊎ EndsInWrap replies → TellsOfNoWrap replies ⊎ EndsInWrap replies
      ends (inl quiet) = inl quiet.0
      ends (inr wraps) = inr wraps

  -- and compaction changes no other reply
  pub RunIsUnseen : (s : SessionState X) (commands : List (Command X)) (replies : List (Reply X)) (t : SessionState X) → SoundOver kind s → RunsToWrap Step s commands replies t
      → list_all is_named (take (length replies) commands) ≡ true → list_any is_no_memory replies ≡ false → replies_without_compactions (take (length replies) commands) replies ≡ replies_with_memory (shown s) (without_compactions (take (length replies) commands))
  RunIsUnseen s commands replies t sound ran named enough =
      CompactionIsUnseen (shown s) (take (length replies) commands) replies (RunAnswersAsStore s commands replies t sound ran) named enough

  -- where no reply tells of a wrap, all commands ran, on the store too, and the session is sound
  pub RunIsStores : (s : SessionState X) (commands : List (Command X)) (replies : List (Reply X)) (t : SessionState X) → SoundOver kind s → RunsToWrap Step s commands replies t → TellsOfNoWrap replies
      → IsRun IsStoreStep (shown s) commands replies (shown t) × SoundOver kind t
  RunIsStores s commands replies t sound ran quiet =
      let stores = QuietRunIsStores s (take (length replies) commands) replies t sound ran.0 quiet in
      (subst (λ cs. IsRun IsStoreStep (shown s) cs replies (shown t)) (whole_if_quiet commands replies quiet ran.1) stores.0, stores.1)
