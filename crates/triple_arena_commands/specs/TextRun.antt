-- What the run of a text does: its lines are taken in order, and the command of each runs and is answered by a line.
use Rattle.std.specs.Prelude.{◌≡◌, ℕ, ◌-◌, ◌<◌, true, List, [], ◌∷◌, ◌++◌, Option, None, Some, Result, Ok, Err, IfSome, IsSomeAnd, length, take, map, filter, slice_get, ◌⊎◌}
use Rattle.std.specs.Io.KnownBytes.{Appends, Keeps, append_known}
use Rattle.triple_arena_commands.specs.declared.command.Command.{Command}
use Rattle.triple_arena_commands.specs.declared.reply.Reply.{Reply}
use Rattle.triple_arena_commands.specs.declared.text_error.TextError.{TextError}
use Rattle.triple_arena_commands.specs.declared.text_error.TextError.TheVariants.{Malformed, Read, Write, NoMemory}
use Rattle.triple_arena_commands.specs.Lines.{lines_of, has_bytes}
use Rattle.triple_arena_commands.specs.CommandText.{command_of}
use Rattle.triple_arena_commands.specs.ReplyText.{reply_line, reply_lines}
use Rattle.triple_arena_commands.specs.Runs.{IsRun, TellsOfNoWrap, EndsInWrap}

-- each line that has bytes stands for a command, and these are the commands, in order.
abbrev pub StandFor : List (List ℕ) → List (Command ℕ) → Type 0
StandFor lines commands = map command_of (filter has_bytes lines) ≡ map Some commands

-- line n, counted from 1, has bytes and stands for no command.
abbrev pub IsMalformed : List (List ℕ) → ℕ → Type 0
IsMalformed lines n = (0 < n) × IsSomeAnd (slice_get lines (n - 1)) (λ line. (has_bytes line ≡ true) × (command_of line ≡ None))

-- known bytes grow by bs and a front of `last`, but not by all of it.
abbrev pub AppendsCut : Option (List ℕ) → Option (List ℕ) → List ℕ → List ℕ → Type 0
AppendsCut old new bs last = (front rest : List ℕ) × (last ≡ front ++ rest) × (0 < length rest) × Appends old new (bs ++ front)

-- known bytes are what bs appended to them would make, but for what is left of it at the end.
abbrev pub AppendsFront : Option (List ℕ) → Option (List ℕ) → List ℕ → Type 0
AppendsFront old new bs = (left : List ℕ) × Appends old (append_known new left) bs

-- of any kind of session: S is its state, and Step what a command and its reply do to it. A run goes from s to t,
-- and what the writer holds goes from old to new, where the writer tells it.
module _ {S : Type 0} (Step : S → Command ℕ → Reply ℕ → S → Type 0) where
  -- the commands that these lines stand for ran, with these replies.
  abbrev pub RunsLines : List (List ℕ) → List (Reply ℕ) → S → S → Type 0
  RunsLines lines replies s t = (commands : List (Command ℕ)) × StandFor lines commands × IsRun Step s commands replies t

  -- they ran, no reply told of a wrap, and the reply lines were written.
  abbrev pub AnswersLines : (lines : List (List ℕ)) (before after : S) (old new : Option (List ℕ)) → Type 0
  AnswersLines lines s t old new = (replies : List (Reply ℕ)) × RunsLines lines replies s t × TellsOfNoWrap replies × Appends old new (reply_lines replies)

  -- they ran, the last reply, and no other, told of a wrap, and the reply lines were written.
  abbrev pub AnswersToWrap : (lines : List (List ℕ)) (before after : S) (old new : Option (List ℕ)) → Type 0
  AnswersToWrap lines s t old new = (replies : List (Reply ℕ)) × RunsLines lines replies s t × EndsInWrap replies × Appends old new (reply_lines replies)

  -- all lines were answered, or those up to the first reply that told of a wrap.
  abbrev pub RunsThrough : (lines : List (List ℕ)) (before after : S) (old new : Option (List ℕ)) → Type 0
  RunsThrough lines s t old new = AnswersLines lines s t old new ⊎ ((count : ℕ) × AnswersToWrap (take count lines) s t old new)

  -- the lines before line n were answered, and line n stands for no command.
  abbrev pub StopsAtLine : (n : ℕ) (lines : List (List ℕ)) (before after : S) (old new : Option (List ℕ)) → Type 0
  StopsAtLine n lines s t old new = IsMalformed lines n × AnswersLines (take (n - 1) lines) s t old new

  -- the first lines ran, at least one command among them, and no reply but the last told of a wrap. Of the reply lines all
  -- were written but the last, of which a front was, and not all.
  abbrev pub StopsAtReply : (lines : List (List ℕ)) (before after : S) (old new : Option (List ℕ)) → Type 0
  StopsAtReply lines s t old new = (count : ℕ) × (before : List (Reply ℕ)) × (last : Reply ℕ) × RunsLines (take count lines) (before ++ last ∷ []) s t × TellsOfNoWrap before × AppendsCut old new (reply_lines before) (reply_line last)

  -- what a run did, by its outcome. The text is what the reader had left, where the reader tells it.
  abbrev pub IsTextRun : (text : Option (List ℕ)) (outcome : Result (Unit {0}) TextError) (before after : S) (old new : Option (List ℕ)) → Type 0
  IsTextRun text (Ok done) s t old new = IfSome text (λ bytes. RunsThrough (lines_of bytes) s t old new)
  IsTextRun text (Err (Malformed n)) s t old new = IfSome text (λ bytes. StopsAtLine n (lines_of bytes) s t old new)
  IsTextRun text (Err Write) s t old new = IfSome text (λ bytes. StopsAtReply (lines_of bytes) s t old new)
  IsTextRun text (Err Read) s t old new = (t ≡ s) × Keeps old new
  IsTextRun text (Err NoMemory) s t old new = (t ≡ s) × Keeps old new

  -- the commands of the first lines ran, or none did, and no reply but the last told of a wrap. A front of their reply
  -- lines was written.
  abbrev pub RunsSome : (lines : List (List ℕ)) (before after : S) (old new : Option (List ℕ)) → Type 0
  RunsSome lines s t old new = (count : ℕ) × (replies : List (Reply ℕ)) × RunsLines (take count lines) replies s t × (TellsOfNoWrap replies ⊎ EndsInWrap replies) × AppendsFront old new (reply_lines replies)

  -- the same of a run whose writer was flushed after it: where a write or the flush failed, replies that were gathered may
  -- not have gone out.
  abbrev pub IsFlushedRun : (text : Option (List ℕ)) (outcome : Result (Unit {0}) TextError) (before after : S) (old new : Option (List ℕ)) → Type 0
  IsFlushedRun text (Err Write) s t old new = IfSome text (λ bytes. RunsSome (lines_of bytes) s t old new)
  IsFlushedRun text outcome s t old new = IsTextRun text outcome s t old new

-- after a run of this outcome the writer was flushed: the outcome stays and what was written went out, or the flush failed
-- and a front of it went out
abbrev pub IsFlushed : Result (Unit {0}) TextError → Result (Unit {0}) TextError → Option (List ℕ) → Option (List ℕ) → Type 0
IsFlushed outcome flushed old new = ((flushed ≡ outcome) × Keeps old new) ⊎ ((flushed ≡ Err Write) × AppendsFront old new [])
