-- The run of one line, after the lines before it.
use Rattle.std.proofs.Common.{◌≡◌, ℕ, ◌+◌, ◌-◌, true, false, List, [], ◌∷◌, ◌++◌, Option, None, Some, length, take, drop, sym, refl, subst, arith}
use Rattle.std.proofs.lemmas.Bool.Decides.{nat_tests}
use Rattle.std.specs.Io.KnownBytes.{Appends}
use Rattle.std.proofs.KnownBytes.{Appends-nil}
use Rattle.triple_arena_commands.specs.declared.command.Command.{Command}
use Rattle.triple_arena_commands.specs.declared.reply.Reply.{Reply}
use Rattle.triple_arena_commands.specs.Lines.{has_bytes}
use Rattle.triple_arena_commands.specs.CommandText.{command_of}
use Rattle.triple_arena_commands.specs.ReplyText.{tells_of_wrap, reply_line, reply_lines}
use Rattle.triple_arena_commands.specs.TextRun.{AppendsCut, RunsLines, AnswersLines, AnswersToWrap, StopsAtLine, StopsAtReply}
use Rattle.triple_arena_commands.specs.laws.RunLaws.{TellsOfNoWrap-nil, TellsOfNoWrap-push}
use Rattle.triple_arena_commands.specs.laws.TextLaws.{Appends-one, AppendsCut-after, RunsLines-append, front-drop}

module _ {S : Type 0} (Step : S → Command ℕ → Reply ℕ → S → Type 0) where
  -- a line of no bytes is passed over
  pub AnswersLines-empty : (s : S) (line : List ℕ) (a : Option (List ℕ)) → length line ≡ 0 → AnswersLines Step (line ∷ []) s s a a
  AnswersLines-empty s line a empty = ([], ([], grind (arith, nat_tests, empty), refl), TellsOfNoWrap-nil, Appends-nil a)

  module _ (line : List ℕ) (command : Command ℕ) (reply : Reply ℕ) (s t : S) (some : has_bytes line ≡ true) (stands : command_of line ≡ Some command) (step : Step s command reply t) where
    RunsLines-one : RunsLines Step (line ∷ []) (reply ∷ []) s t
    RunsLines-one = (command ∷ [], grind (arith, nat_tests, some, stands), (t, step, refl))

    -- a line is answered
    pub AnswersLines-one : (a b : Option (List ℕ)) → tells_of_wrap reply ≡ false → Appends a b (reply_line reply) → AnswersLines Step (line ∷ []) s t a b
    AnswersLines-one a b quiet wrote = (reply ∷ [], RunsLines-one, TellsOfNoWrap-push [] reply TellsOfNoWrap-nil quiet, Appends-one a b reply wrote)

    -- and its reply tells of a wrap
    pub AnswersToWrap-one : (a b : Option (List ℕ)) → tells_of_wrap reply ≡ true → Appends a b (reply_line reply) → AnswersToWrap Step (line ∷ []) s t a b
    AnswersToWrap-one a b told wrote = (reply ∷ [], RunsLines-one, ([], reply, refl, TellsOfNoWrap-nil, told), Appends-one a b reply wrote)

    -- and its reply is not written whole
    pub StopsAtReply-unwritten : (all : List (List ℕ)) (i : ℕ) (after : List (List ℕ)) → drop i all ≡ line ∷ after → (r : S) (a b c : Option (List ℕ)) → AnswersLines Step (take i all) r s a b → AppendsCut b c [] (reply_line reply) → StopsAtReply Step all r t a c
    StopsAtReply-unwritten all i after left r a b c first cut = (
      i + 1,
      first.0,
      reply,
      subst (λ lines. RunsLines Step lines (first.0 ++ reply ∷ []) r t) (sym (front-drop all i line after left).0)
          (RunsLines-append Step r s t (take i all) (line ∷ []) first.0 (reply ∷ []) first.1 RunsLines-one),
      first.2,
      AppendsCut-after a b c (reply_lines first.0) (reply_line reply) first.3 cut,
    )

  -- a line stands for no command, after those before it
  pub StopsAtLine-malformed : (all : List (List ℕ)) (i : ℕ) (line : List ℕ) (after : List (List ℕ)) → drop i all ≡ line ∷ after → (s t : S) (a b : Option (List ℕ)) → AnswersLines Step (take i all) s t a b → has_bytes line ≡ true → command_of line ≡ None → StopsAtLine Step (i + 1) all s t a b
  StopsAtLine-malformed all i line after left s t a b first some none =
      let n : i + 1 - 1 ≡ i = omega arith in ((omega arith, rw n (rw ((front-drop all i line after left).2) (some, none))), rw n first)
