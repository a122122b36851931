-- The line that a reply is written as.
use Rattle.std.specs.Prelude.{ℕ, Bool, false, List, [], ◌∷◌, ◌++◌, Option, None, Some, codes, string_bytes, if◌then◌else◌}
use Rattle.std.specs.Fmt.{decimal}
use Rattle.std.specs.List.{flat_map}
use Rattle.triple_arena_commands.specs.declared.reply.Reply.{Reply}
use Rattle.triple_arena_commands.specs.declared.reply.Reply.TheVariants.{Given, Full, BeyondMaxCapacity, NoMemory, Found, Nothing, Done, Removed, Invalid, Cleared, Compacted, Unresolved, BadName, Count, Line, Exhausted}

-- whether a reply tells that the counter wrapped.
abbrev pub tells_of_wrap : {X : Type 0} → Reply X → Bool
tells_of_wrap (Given name wrapped) = wrapped
tells_of_wrap (Removed datum link wrapped) = wrapped
tells_of_wrap (Cleared wrapped) = wrapped
tells_of_wrap (Compacted wrapped) = wrapped
tells_of_wrap reply = false

-- a link is written as its name, and no link as a dash.
abbrev pub link_text : Option ℕ → List ℕ
link_text None = codes "-"
link_text (Some name) = decimal name

abbrev pub wrapped_text : Bool → List ℕ
wrapped_text wrapped = if wrapped then codes " wrapped" else []

abbrev pub reply_text : Reply ℕ → List ℕ
reply_text (Given name wrapped) = codes "given " ++ decimal name ++ wrapped_text wrapped
reply_text Full = codes "full"
reply_text BeyondMaxCapacity = codes "beyond max capacity"
reply_text NoMemory = codes "no memory"
reply_text (Found datum link) = codes "found " ++ decimal datum ++ codes " " ++ link_text link
reply_text Nothing = codes "nothing"
reply_text Done = codes "done"
reply_text (Removed datum link wrapped) = codes "removed " ++ decimal datum ++ codes " " ++ link_text link ++ wrapped_text wrapped
reply_text Invalid = codes "invalid"
reply_text (Cleared wrapped) = codes "cleared" ++ wrapped_text wrapped
reply_text (Compacted wrapped) = codes "compacted" ++ wrapped_text wrapped
reply_text Unresolved = codes "unresolved"
reply_text BadName = codes "bad name"
reply_text (Count number) = codes "count " ++ decimal number
reply_text (Line text) = string_bytes text
reply_text Exhausted = codes "exhausted"

-- the line of a reply: its text, and a byte 0A.
abbrev pub reply_line : Reply ℕ → List ℕ
reply_line reply = reply_text reply ++ 10 ∷ []

abbrev pub reply_lines : List (Reply ℕ) → List ℕ
reply_lines replies = flat_map reply_line replies
