-- Compaction is unseen by whoever asks a store of names.
use Rattle.std.proofs.Common.{◌≡◌, ◌||◌, Bool, true, false, not, if◌then◌else◌, List, [], ◌∷◌, cond, refl, sym, ap, ◌∙◌, true≢false}
use Rattle.std.specs.List.{list_any, list_all}
use Rattle.std.proofs.lemmas.Bool.{and_parts}
use Rattle.triple_arena_commands.specs.declared.command.Command.{Command}
use Rattle.triple_arena_commands.specs.declared.command.Command.TheVariants.{Compact, Reserve, Show}
use Rattle.triple_arena_commands.specs.declared.reply.Reply.{Reply}
use Rattle.triple_arena_commands.specs.declared.reply.Reply.TheVariants.{NoMemory, Given, Removed, Cleared, Compacted}
use Rattle.triple_arena_commands.specs.ReplyText.{tells_of_wrap}
use Rattle.triple_arena_commands.specs.NameStore.{Store, store_answer, IsStoreStep}
use Rattle.triple_arena_commands.specs.StoreRuns.{is_named, is_compact, is_no_memory, without_wrap, AnswersAsStore, replies_with_memory, without_compactions, replies_without_compactions}

-- a reply that tells of no wrap has no bool, or one that is false
pub without_wrap-quiet : {X : Type 0} (reply : Reply X) → tells_of_wrap reply ≡ false → without_wrap reply ≡ reply
without_wrap-quiet (Given name wrapped) quiet = ap (Given name) (sym quiet)
without_wrap-quiet (Removed datum link wrapped) quiet = ap (Removed datum link) (sym quiet)
without_wrap-quiet (Cleared wrapped) quiet = ap Cleared (sym quiet)
without_wrap-quiet (Compacted wrapped) quiet = ap Compacted (sym quiet)
without_wrap-quiet reply quiet = refl

module _ {X : Type 0} where
  plain_memory : (reply : Reply X) → is_no_memory (without_wrap reply) ≡ is_no_memory reply
  plain_memory (Given name wrapped) = refl
  plain_memory (Removed datum link wrapped) = refl
  plain_memory (Cleared wrapped) = refl
  plain_memory (Compacted wrapped) = refl
  plain_memory reply = refl

  -- a step of a named command without want of memory is the answer
  step_is : (s : Store X) (command : Command X) (reply : Reply X) (t : Store X) → is_named command ≡ true → is_no_memory reply ≡ false → IsStoreStep s command reply t → (reply, t) ≡ store_answer s command
  step_is s (Reserve m) reply t named enough step = absurd (true≢false (sym named))
  step_is s Show reply t named enough step = absurd (true≢false (sym named))
  step_is s command NoMemory t named enough step = absurd (true≢false enough)
  step_is s command reply t named enough step = step

  compact_stays : (s : Store X) (command : Command X) → is_compact command ≡ true → (store_answer s command).1 ≡ s
  compact_stays s Compact is = refl
  compact_stays s command is = absurd (true≢false (sym is))

  -- where no reply tells of a want of memory, the replies to all named commands but compactions are those that the store
  -- gives to these commands alone
  pub CompactionIsUnseen : (s : Store X) (commands : List (Command X)) (replies : List (Reply X)) → AnswersAsStore s commands replies → list_all is_named commands ≡ true → list_any is_no_memory replies ≡ false → replies_without_compactions commands replies ≡ replies_with_memory s (without_compactions commands)
  CompactionIsUnseen s [] [] run named enough = refl
  CompactionIsUnseen s [] (reply ∷ replies) run named enough = absurd run
  CompactionIsUnseen s (command ∷ commands) [] run named enough = absurd run
  CompactionIsUnseen s (command ∷ commands) (reply ∷ replies) run named enough =
      let parts = both (is_no_memory reply) (list_any is_no_memory replies) enough in
      let names = and_parts (is_named command) (list_all is_named commands) named in
      by (is_compact command) refl (step_is s command (without_wrap reply) run.0 names.0 (plain_memory reply ∙ parts.0) run.1) (CompactionIsUnseen run.0 commands replies run.2 names.1 parts.1)
    where
      both : (a b : Bool) → (a || b) ≡ false → (a ≡ false) × (b ≡ false)
      both true b e = absurd (true≢false e)
      both false true e = absurd (true≢false e)
      both false false e = (refl, refl)

      by : (b : Bool) → is_compact command ≡ b → (without_wrap reply, run.0) ≡ store_answer s command → replies_without_compactions commands replies ≡ replies_with_memory run.0 (without_compactions commands)
          → (if b then replies_without_compactions commands replies else without_wrap reply ∷ replies_without_compactions commands replies) ≡ replies_with_memory s (cond (not b) (command ∷ without_compactions commands) (without_compactions commands))
      by true is step later =
          later ∙ ap (λ u. replies_with_memory u (without_compactions commands)) (ap (λ (o : Reply X × Store X). o.1) step ∙ compact_stays s command is)
      by false is step later =
          ap (λ r. r ∷ replies_without_compactions commands replies) (ap (λ (o : Reply X × Store X). o.0) step)
          ∙ ap (λ rest. (store_answer s command).0 ∷ rest) (later ∙ ap (λ u. replies_with_memory u (without_compactions commands)) (ap (λ (o : Reply X × Store X). o.1) step))
