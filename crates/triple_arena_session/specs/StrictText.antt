-- What the run of a text does in a strict session, which no wrap ends.
use Rattle.std.specs.Prelude.{◌≡◌, ℕ, ◌-◌, true, false, List, Option, Result, Ok, Err, IfSome, take}
use Rattle.std.specs.List.{list_all, list_any}
use Rattle.std.specs.Io.KnownBytes.{Appends}
use Rattle.triple_arena_commands.specs.declared.command.Command.{Command}
use Rattle.triple_arena_commands.specs.declared.reply.Reply.{Reply}
use Rattle.triple_arena_commands.specs.declared.text_error.TextError.{TextError}
use Rattle.triple_arena_commands.specs.declared.text_error.TextError.TheVariants.{Malformed, Read, Write, NoMemory}
use Rattle.triple_arena_commands.specs.Lines.{lines_of}
use Rattle.triple_arena_commands.specs.ReplyText.{reply_lines}
use Rattle.triple_arena_commands.specs.Runs.{IsRun}
use Rattle.triple_arena_commands.specs.TextRun.{StandFor, IsMalformed, AnswersLines, IsTextRun, IsFlushedRun}
use Rattle.triple_arena_commands.specs.StoreRuns.{is_named, is_no_memory, replies_with_memory, without_compactions, replies_without_compactions}
use Rattle.triple_arena_commands.specs.StrictStore.{tells_exhausted, StrictStore, IsStrictStoreStep}

module _ {S : Type 0} (Step : S → Command ℕ → Reply ℕ → S → Type 0) where
  -- a run as of any session, but that where it ended well all lines were answered
  abbrev pub IsWholeTextRun : (text : Option (List ℕ)) (outcome : Result (Unit {0}) TextError) (before after : S) (old new : Option (List ℕ)) → Type 0
  IsWholeTextRun text (Ok done) s t old new = IfSome text (λ bytes. AnswersLines Step (lines_of bytes) s t old new)
  IsWholeTextRun text (Err e) s t old new = IsTextRun Step text (Err e) s t old new

  -- the same of a run whose writer was flushed after it
  abbrev pub IsWholeFlushedRun : (text : Option (List ℕ)) (outcome : Result (Unit {0}) TextError) (before after : S) (old new : Option (List ℕ)) → Type 0
  IsWholeFlushedRun text (Ok done) s t old new = IfSome text (λ bytes. AnswersLines Step (lines_of bytes) s t old new)
  IsWholeFlushedRun text (Err e) s t old new = IsFlushedRun Step text (Err e) s t old new

-- the commands that these lines stand for took the strict store from s to t, with these replies. If all of them are named
-- commands, and no reply is NoMemory or Exhausted, then the replies, but for those to compactions, are those of the store to
-- the commands without compactions, where no memory is refused
abbrev pub RunsStrictStore : (before after : StrictStore ℕ) (lines : List (List ℕ)) (replies : List (Reply ℕ)) → Type 0
RunsStrictStore s t lines replies =
    (commands : List (Command ℕ)) × StandFor lines commands × IsRun IsStrictStoreStep s commands replies t
    × (list_all is_named commands ≡ true → list_any is_no_memory replies ≡ false → list_any tells_exhausted replies ≡ false → replies_without_compactions commands replies ≡ replies_with_memory s.store (without_compactions commands))

-- so these lines did, and the reply lines were written
abbrev pub BringsStrictStore : (before after : StrictStore ℕ) (lines : List (List ℕ)) (old new : Option (List ℕ)) → Type 0
BringsStrictStore s t lines old new = (replies : List (Reply ℕ)) × RunsStrictStore s t lines replies × Appends old new (reply_lines replies)

-- all lines of the text did, or those before the first malformed one. Where the writer failed, the first lines took the
-- store so far, and what was written isn't said here
abbrev pub IsStrictStoreText : (before after : StrictStore ℕ) (text : Option (List ℕ)) (outcome : Result (Unit {0}) TextError) (old new : Option (List ℕ)) → Type 0
IsStrictStoreText s t text (Ok done) old new = IfSome text (λ bytes. BringsStrictStore s t (lines_of bytes) old new)
IsStrictStoreText s t text (Err (Malformed n)) old new =
    IfSome text (λ bytes. IsMalformed (lines_of bytes) n × BringsStrictStore s t (take (n - 1) (lines_of bytes)) old new)
IsStrictStoreText s t text (Err Write) old new =
    IfSome text (λ bytes. (count : ℕ) × (replies : List (Reply ℕ)) × RunsStrictStore s t (take count (lines_of bytes)) replies)
IsStrictStoreText s t text (Err Read) old new = t ≡ s
IsStrictStoreText s t text (Err NoMemory) old new = t ≡ s
