use Rattle.std.proofs.Common.{◌≡◌, ℕ, List, length, take, true, false, refl, ap, subst, ◌∙◌}
use Rattle.std.specs.List.{list_all, list_any}
use Rattle.std.proofs.lemmas.Result.{IfOk-weaker}
use Rattle.triple_arena_session.specs.Command.{Command}
use Rattle.triple_arena_session.specs.Kind.TheVariants.{Heap}
use Rattle.triple_arena_session.specs.StoreRuns.{is_named, is_no_memory, replies_without_compactions, replies_with_memory, without_compactions}
use Rattle.triple_arena_session.specs.StoreText.{first_store}
use Rattle.triple_arena_session.specs.ElevenCommands.{eleven_commands}
use Rattle.triple_arena_session_uses.proofs.compactions.answers_to_eleven.Goals as goal

pub returns-clause-nine : goal.returns-clause-nine
returns-clause-nine c =
    IfOk-weaker c.answers.result _ _ (λ replies unseen. λ many enough.
    let whole : take (length replies.items) eleven_commands ≡ eleven_commands = ap (λ n. take n eleven_commands) many in
    let Unseen : List (Command ℕ) → Type 0 = λ ran. list_all is_named ran ≡ true → list_any is_no_memory replies.items ≡ false → replies_without_compactions ran replies.items ≡ replies_with_memory (first_store Heap) (without_compactions ran) in
    subst Unseen whole unseen refl enough ∙ c.eleven_commands_answered.ensures.store) c.answers.ensures.unseen
