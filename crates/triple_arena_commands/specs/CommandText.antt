-- The command that a line stands for.
use Rattle.std.specs.Prelude.{◌≡◌, ℕ, ◌^◌, ◌&&◌, Bool, false, List, [], ◌∷◌, Option, None, Some, codes, nat_lt, length, if◌then◌else◌}
use Rattle.std.specs.Option.{option_map, option_and_then}
use Rattle.std.specs.Char.{is_ascii_digit}
use Rattle.std.specs.List.{list_all}
use Rattle.std.specs.Str.{bytes_eq}
use Rattle.std.specs.Str.Parse.{digits_value}
use Rattle.triple_arena_commands.specs.Lines.{words_of}
use Rattle.triple_arena_commands.specs.declared.command.Command.{Command}
use Rattle.triple_arena_commands.specs.declared.command.Command.TheVariants.{Insert, InsertWithin, Get, Set, Remove, Invalidate, Clear, Compact, Len, Capacity, Reserve, Show}

-- whether a word is one digit or more, and writes a number below 2 ^ 64.
abbrev pub is_number : List ℕ → Bool
is_number word = list_all is_ascii_digit word && (nat_lt 0 (length word) && nat_lt (digits_value 10 word) (2 ^ 64))

-- the number that a word writes.
abbrev pub number_of : List ℕ → Option ℕ
number_of word = if is_number word then Some (digits_value 10 word) else None

-- the link that a word writes: a dash for none, or the number of a name.
abbrev pub link_of : List ℕ → Option (Option ℕ)
link_of word = if bytes_eq word (codes "-") then Some None else option_map Some (number_of word)

-- the command of a verb that stands alone.
abbrev pub bare_of : List ℕ → Option (Command ℕ)
bare_of verb =
    if bytes_eq verb (codes "clear") then Some Clear
    else (if bytes_eq verb (codes "compact") then Some Compact
    else (if bytes_eq verb (codes "len") then Some Len
    else (if bytes_eq verb (codes "capacity") then Some Capacity
    else (if bytes_eq verb (codes "show") then Some Show else None))))

-- what is made of a verb before a number.
abbrev pub numbered : List ℕ → ℕ → Option (Command ℕ)
numbered verb number =
    if bytes_eq verb (codes "get") then Some (Get number)
    else (if bytes_eq verb (codes "remove") then Some (Remove number)
    else (if bytes_eq verb (codes "invalidate") then Some (Invalidate number)
    else (if bytes_eq verb (codes "reserve") then Some (Reserve number) else None)))

-- what is made of a verb before a datum and a link.
abbrev pub linked : List ℕ → ℕ → Option ℕ → Option (Command ℕ)
linked verb datum link =
    if bytes_eq verb (codes "insert") then Some (Insert datum link)
    else (if bytes_eq verb (codes "within") then Some (InsertWithin datum link) else None)

-- the command of a verb before a number, where the word after it is one.
abbrev pub numbered_of : List ℕ → Option ℕ → Option (Command ℕ)
numbered_of verb number = option_and_then (numbered verb) number

-- the command of a verb before a datum and a link.
abbrev pub insert_of : List ℕ → Option ℕ → Option (Option ℕ) → Option (Command ℕ)
insert_of verb datum link = option_and_then (λ d. option_and_then (linked verb d) link) datum

-- the command of a verb before a name, a datum and a link.
abbrev pub set_of : List ℕ → Option ℕ → Option ℕ → Option (Option ℕ) → Option (Command ℕ)
set_of verb name datum link =
    option_and_then (λ n. option_and_then (λ d. option_and_then (λ l. if bytes_eq verb (codes "set") then Some (Set n d l) else None) link) datum) name

-- the command that a list of words stands for.
abbrev pub command_of_words : List (List ℕ) → Option (Command ℕ)
command_of_words (verb ∷ []) = bare_of verb
command_of_words (verb ∷ number ∷ []) = numbered_of verb (number_of number)
command_of_words (verb ∷ datum ∷ link ∷ []) = insert_of verb (number_of datum) (link_of link)
command_of_words (verb ∷ name ∷ datum ∷ link ∷ []) = set_of verb (number_of name) (number_of datum) (link_of link)
command_of_words words = None

-- the one command that a line stands for, or none.
abbrev pub command_of : List ℕ → Option (Command ℕ)
command_of line = command_of_words (words_of line)

-- a verb is none of the three that are told by the first bytes of their line
abbrev pub IsOtherVerb : List ℕ → Type 0
IsOtherVerb verb = (bytes_eq verb (codes "get") ≡ false) × (bytes_eq verb (codes "insert") ≡ false) × (bytes_eq verb (codes "remove") ≡ false)

-- so is the verb of a line, where words follow it
abbrev pub HasOtherVerb : List ℕ → Type 0
HasOtherVerb line = (verb word : List ℕ) (words : List (List ℕ)) → words_of line ≡ verb ∷ word ∷ words → IsOtherVerb verb
