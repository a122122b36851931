use Rattle.std.proofs.Common.{ℕ, zero, suc, List, [], ◌∷◌, take, refl}
use Rattle.std.proofs.lemmas.Result.{IfOk-weaker}
use Rattle.triple_arena_session.specs.Command.{Command}
use Rattle.triple_arena_session.specs.Reply.{Reply}
use Rattle.triple_arena_session.specs.NameStore.{Store}
use Rattle.triple_arena_session.specs.StoreRuns.{AnswersAsStore}
use Rattle.triple_arena_session.specs.Shown.{shown}
use Rattle.triple_arena_session_uses.proofs.compactions.unseen_at_any_time.Goals as goal

-- the first commands were answered as by the store too
first_answered : (s : Store ℕ) (commands : List (Command ℕ)) (replies : List (Reply ℕ)) (count : ℕ) → AnswersAsStore s commands replies → AnswersAsStore s (take count commands) (take count replies)
first_answered s commands replies zero told = tt
first_answered s [] [] (suc count) told = tt
first_answered s [] (reply ∷ replies) (suc count) told = absurd told
first_answered s (command ∷ commands) [] (suc count) told = absurd told
first_answered s (command ∷ commands) (reply ∷ replies) (suc count) told = (told.0, told.1, first_answered told.0 commands replies count told.2)

pub returns-clause-unseen : goal.returns-clause-unseen
returns-clause-unseen c =
    IfOk-weaker c.run.result _ _ (λ replies told. λ count. c.compaction_is_unseen.ensures (shown c.args.session.now) _ _ (first_answered _ _ _ count told)) (c.run.ensures.store refl c.requires.sound)
