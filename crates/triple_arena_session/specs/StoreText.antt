-- What is written for a text that is answered as by a store of names.
use Rattle.std.specs.Prelude.{◌≡◌, ℕ, ◌-◌, Bool, true, false, List, Option, Some, None, Result, Ok, Err, IfSome, take, ◌⊎◌}
use Rattle.std.specs.List.{list_all, list_any}
use Rattle.std.specs.Io.KnownBytes.{Appends}
use Rattle.triple_arena_commands.specs.declared.command.Command.{Command}
use Rattle.triple_arena_commands.specs.declared.reply.Reply.{Reply}
use Rattle.triple_arena_commands.specs.declared.arguments.Kind.{Kind}
use Rattle.triple_arena_commands.specs.declared.arguments.Kind.TheVariants.{Heap, Limited, Fixed, Array}
use Rattle.triple_arena_commands.specs.declared.arguments.Outcome.{Outcome}
use Rattle.triple_arena_commands.specs.declared.arguments.Outcome.TheVariants.{Ran}
use Rattle.triple_arena_commands.specs.declared.text_error.TextError.{TextError}
use Rattle.triple_arena_commands.specs.declared.text_error.TextError.TheVariants.{Malformed, Read, Write, NoMemory}
use Rattle.triple_arena_commands.specs.Lines.{lines_of}
use Rattle.triple_arena_commands.specs.ReplyText.{reply_lines}
use Rattle.triple_arena_commands.specs.Runs.{IsRun, TellsOfNoWrap, EndsInWrap}
use Rattle.triple_arena_commands.specs.TextRun.{StandFor, IsMalformed, AnswersToWrap}
use Rattle.triple_arena_commands.specs.NameStore.{Store, new_store, IsStoreStep}
use Rattle.triple_arena_commands.specs.StoreRuns.{is_named, is_no_memory, AnswersAsStore, replies_with_memory, without_compactions, replies_without_compactions}
use Rattle.triple_arena_commands.specs.StrictStore.{StrictStore}
use Rattle.triple_arena_session.specs.SessionState.{SessionState}
use Rattle.triple_arena_session.specs.SessionCalls.{GivesOnceToWrap}
use Rattle.triple_arena_session.specs.KindRun.{greatest, first_of_kind, IsStepOfKind}
use Rattle.triple_arena_session.specs.Shown.{shown, IsSound}
use Rattle.triple_arena_session.specs.StrictText.{IsStrictStoreText}

-- these lines stand for commands that were answered so, their replies ended so, and the reply lines were written
abbrev pub WritesAnswers : (Answers : List (Command ℕ) → List (Reply ℕ) → Type 0) (Ends : List (Reply ℕ) → Type 0) (lines : List (List ℕ)) (old new : Option (List ℕ)) → Type 0
WritesAnswers Answers Ends lines old new =
    (commands : List (Command ℕ)) × (replies : List (Reply ℕ)) × StandFor lines commands × Ends replies × Appends old new (reply_lines replies)
    × Answers commands replies

-- so it was with all lines of the text, or those up to the first reply that told of a wrap; or with the lines before the
-- first malformed one
abbrev pub IsAnsweredText : (Answers : List (Command ℕ) → List (Reply ℕ) → Type 0) (text : Option (List ℕ)) (outcome : Result (Unit {0}) TextError) (old new : Option (List ℕ)) → Type 0
IsAnsweredText Answers text (Ok done) old new =
    IfSome text (λ bytes.
    WritesAnswers Answers TellsOfNoWrap (lines_of bytes) old new ⊎ ((count : ℕ) × WritesAnswers Answers EndsInWrap (take count (lines_of bytes)) old new))
IsAnsweredText Answers text (Err (Malformed n)) old new =
    IfSome text (λ bytes. IsMalformed (lines_of bytes) n × WritesAnswers Answers TellsOfNoWrap (take (n - 1) (lines_of bytes)) old new)
IsAnsweredText Answers text outcome old new = Unit {0}

-- the replies, bools aside, are those of the store. If all of the commands are named, and no reply is NoMemory, then the
-- replies, but for those to compactions, are those of the store to the commands without compactions, where no memory is
-- refused
abbrev pub AnswersUnseen : Store ℕ → List (Command ℕ) → List (Reply ℕ) → Type 0
AnswersUnseen s commands replies =
    AnswersAsStore s commands replies
    × (list_all is_named commands ≡ true → list_any is_no_memory replies ≡ false → replies_without_compactions commands replies ≡ replies_with_memory s (without_compactions commands))

-- the text was answered as by the store
abbrev pub IsStoreText : (store : Store ℕ) (text : Option (List ℕ)) (outcome : Result (Unit {0}) TextError) (old new : Option (List ℕ)) → Type 0
IsStoreText s = IsAnsweredText (AnswersUnseen s)

-- the commands that these lines stand for took the store from s to t, no reply told of a wrap, and the reply lines were
-- written
abbrev pub BringsStore : (before after : Store ℕ) (lines : List (List ℕ)) (old new : Option (List ℕ)) → Type 0
BringsStore s t lines old new =
    (commands : List (Command ℕ)) × (replies : List (Reply ℕ)) × StandFor lines commands × IsRun IsStoreStep s commands replies t × TellsOfNoWrap replies
    × Appends old new (reply_lines replies)

module _ (Step : SessionState ℕ → Command ℕ → Reply ℕ → SessionState ℕ → Type 0) where
  -- what a run leaves of a sound session: it is sound, and shows what the lines that ran made of the store. Where the text's
  -- own commands, up to some line, were answered so that the last reply told of a wrap, no more is said, nor where the writer
  -- failed
  abbrev pub LeavesStore : (text : Option (List ℕ)) (outcome : Result (Unit {0}) TextError) (before after : SessionState ℕ) (old new : Option (List ℕ)) → Type 0
  LeavesStore text (Ok done) s t old new =
      IfSome text (λ bytes.
      (IsSound t × BringsStore (shown s) (shown t) (lines_of bytes) old new) ⊎ ((count : ℕ) × AnswersToWrap Step (take count (lines_of bytes)) s t old new))
  LeavesStore text (Err (Malformed n)) s t old new = IfSome text (λ bytes. IsSound t × BringsStore (shown s) (shown t) (take (n - 1) (lines_of bytes)) old new)
  LeavesStore text (Err Write) s t old new = Unit {0}
  LeavesStore text (Err Read) s t old new = IsSound t × (shown t ≡ shown s)
  LeavesStore text (Err NoMemory) s t old new = IsSound t × (shown t ≡ shown s)

-- the store that a new session shows at the pointer of general use, over a stack of each kind
abbrev pub first_store : Kind → Store ℕ
first_store Heap = new_store 0 None greatest
first_store (Limited n) = new_store n (Some n) greatest
first_store (Fixed n) = new_store n (Some n) greatest
first_store Array = new_store 8 (Some 8) greatest

-- the strict store that a new strict session shows there: its counter begins at 2
abbrev pub first_strict_store : Kind → StrictStore ℕ
first_strict_store kind = record { store = first_store kind; left = greatest - 2 }

-- the replies are those of a new store, and the commands ran in a new session of the kind, whose pointers are all different,
-- up to a reply that tells of a wrap
abbrev pub AnswersFreshly : Kind → List (Command ℕ) → List (Reply ℕ) → Type 0
AnswersFreshly kind commands replies =
    AnswersUnseen (first_store kind) commands replies × GivesOnceToWrap (IsStepOfKind kind) (first_of_kind kind) commands replies

-- of what the program's arguments ask for, whether a session is to be strict and its kind, and of its writer before and
-- after: where a session was asked for and the writer is given back, the text was answered as by the store of this kind,
-- under pointers that are all different, or by the strict one
abbrev pub AnswersProgram : {W : Type 0} → (W → Option (List ℕ)) → Result (Bool × Kind) Outcome → Option (List ℕ) → Outcome → W → Option W → Type 0
AnswersProgram contents (Ok (false, kind)) text (Ran answer) old (Some new) = IsAnsweredText (AnswersFreshly kind) text answer (contents old) (contents new)
AnswersProgram contents (Ok (true, kind)) text (Ran answer) old (Some new) =
    (after : StrictStore ℕ) × IsStrictStoreText (first_strict_store kind) after text answer (contents old) (contents new)
AnswersProgram contents mode text outcome old new = Unit {0}
