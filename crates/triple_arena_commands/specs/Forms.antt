-- The forms of a command line and the lines of a text, in the words of their grammar.
use Rattle.std.specs.Prelude.{◌≡◌, ℕ, ◌^◌, ◌<◌, ◌↔◌, List, ◌++◌, Option, None, Some, codes, All, Contains}
use Rattle.std.specs.List.{join_with_byte}
use Rattle.std.specs.Str.Parse.{IsNumeral, digits_value}
use Rattle.triple_arena_commands.specs.declared.command.Command.{Command}
use Rattle.triple_arena_commands.specs.declared.command.Command.TheVariants.{Insert, InsertWithin, Get, Set, Remove, Invalidate, Clear, Compact, Len, Capacity, Reserve, Show}
use Rattle.triple_arena_commands.specs.Lines.{lines_of}
use Rattle.triple_arena_commands.specs.CommandText.{command_of}

-- one or more digits write a number, which is below 2 ^ 64.
abbrev pub WritesNumber : List ℕ → ℕ → Type 0
WritesNumber word n = IsNumeral 10 word × (digits_value 10 word ≡ n) × (n < 2 ^ 64)

-- a dash writes no link, and a number the link to the name of that number.
abbrev pub WritesLink : List ℕ → Option ℕ → Type 0
WritesLink word None = word ≡ codes "-"
WritesLink word (Some name) = WritesNumber word name

-- a verb and a number.
abbrev pub IsNumbered : List ℕ → List ℕ → ℕ → Type 0
IsNumbered line verb number = (n : List ℕ) × (line ≡ verb ++ codes " " ++ n) × WritesNumber n number

-- a verb, a datum and a link.
abbrev pub HasLink : List ℕ → List ℕ → ℕ → Option ℕ → Type 0
HasLink line verb datum link = (n l : List ℕ) × (line ≡ verb ++ codes " " ++ n ++ codes " " ++ l) × WritesNumber n datum × WritesLink l link

-- a line has the form of a command.
abbrev pub HasForm : List ℕ → Command ℕ → Type 0
HasForm line (Insert datum link) = HasLink line (codes "insert") datum link
HasForm line (InsertWithin datum link) = HasLink line (codes "within") datum link
HasForm line (Get name) = IsNumbered line (codes "get") name
HasForm line (Set name datum link) = (k : List ℕ) × HasLink line (codes "set " ++ k) datum link × WritesNumber k name
HasForm line (Remove name) = IsNumbered line (codes "remove") name
HasForm line (Invalidate name) = IsNumbered line (codes "invalidate") name
HasForm line Clear = line ≡ codes "clear"
HasForm line Compact = line ≡ codes "compact"
HasForm line Len = line ≡ codes "len"
HasForm line Capacity = line ≡ codes "capacity"
HasForm line (Reserve number) = IsNumbered line (codes "reserve") number
HasForm line Show = line ≡ codes "show"

-- a line stands for just the command whose form it has.
abbrev pub FormsAreExact : Type 0
FormsAreExact = (line : List ℕ) (command : Command ℕ) → (command_of line ≡ Some command) ↔ HasForm line command

-- a text is its lines with a byte 0A between, and no line has this byte.
abbrev pub LinesAreExact : Type 0
LinesAreExact = (text : List ℕ) → (join_with_byte 10 (lines_of text) ≡ text) × All (λ line. ¬ (Contains line 10)) (lines_of text)
