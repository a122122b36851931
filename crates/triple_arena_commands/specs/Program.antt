-- The arguments, the words on standard error and the exit status of the program.
use Rattle.std.specs.Prelude.{ℕ, Bool, true, false, List, [], ◌∷◌, ◌++◌, Option, None, Some, Result, Ok, Err, Vec, String, string_bytes, map, codes, if◌then◌else◌}
use Rattle.std.specs.IoError.{error_kind}
use Rattle.std.specs.declared.io.Error.{Error}
use Rattle.std.specs.declared.io.ErrorKind.{ErrorKind}
use Rattle.std.specs.declared.io.ErrorKind.TheVariants.{OutOfMemory}
use Rattle.std.specs.Str.{bytes_eq}
use Rattle.std.specs.Option.{option_map, option_and_then}
use Rattle.triple_arena_commands.specs.CommandText.{number_of}
use Rattle.triple_arena_commands.specs.declared.arguments.Kind.{Kind}
use Rattle.triple_arena_commands.specs.declared.arguments.Kind.TheVariants.{Heap, Limited, Fixed, Array}
use Rattle.triple_arena_commands.specs.declared.arguments.Outcome.{Outcome}
use Rattle.triple_arena_commands.specs.declared.arguments.Outcome.TheVariants.{WrongArguments, Ran}
use Rattle.triple_arena_commands.specs.declared.text_error.TextError.TheVariants.{Malformed, NoMemory}
use Rattle.triple_arena_commands.specs.ErrorText.{error_text}

-- the kind of so many that a word asks for
abbrev pub sized_kind : List ℕ → ℕ → Option Kind
sized_kind word n = if bytes_eq word (codes "limited") then Some (Limited n) else (if bytes_eq word (codes "fixed") then Some (Fixed n) else None)

-- the kind that the words after the program's name ask for, or none where they are wrong
abbrev pub kind_of : List (List ℕ) → Option Kind
kind_of [] = Some Heap
kind_of (word ∷ []) = if bytes_eq word (codes "heap") then Some Heap else (if bytes_eq word (codes "array") then Some Array else None)
kind_of (word ∷ number ∷ []) = option_and_then (sized_kind word) (number_of number)
kind_of words = None

-- whether a session is to be strict, and the kind that these words ask for
abbrev pub with_kind : Bool → List (List ℕ) → Option (Bool × Kind)
with_kind strict words = option_map (λ kind. (strict, kind)) (kind_of words)

-- the same of the words after the program's name: the first may ask for a strict session, and the others ask for a kind
abbrev pub mode_of : List (List ℕ) → Option (Bool × Kind)
mode_of (word ∷ words) = if bytes_eq word (codes "strict") then with_kind true words else with_kind false (word ∷ words)
mode_of [] = with_kind false []

-- what words ask for, or that they are wrong
abbrev pub mode_or_wrong : Option (Bool × Kind) → Result (Bool × Kind) Outcome
mode_or_wrong (Some mode) = Ok mode
mode_or_wrong None = Err WrongArguments

-- the outcome where there are no arguments: there was no memory for them, or they are no text
abbrev pub without_arguments : ErrorKind → Outcome
without_arguments OutOfMemory = Ran (Err NoMemory)
without_arguments kind = WrongArguments

-- what the arguments ask for, or the outcome where they ask for nothing
abbrev pub asked_mode : {A B : Type 0} → Result (Vec (String A) B) Error → Result (Bool × Kind) Outcome
asked_mode (Ok args) = mode_or_wrong (mode_of (map string_bytes args.items))
asked_mode (Err e) = Err (without_arguments (error_kind e))

-- the exit status.
abbrev pub status_of : Outcome → ℕ
status_of WrongArguments = 2
status_of (Ran (Ok done)) = 0
status_of (Ran (Err (Malformed n))) = 3
status_of (Ran (Err e)) = 1

-- what is written to standard error: a line, or nothing.
abbrev pub message_of : Outcome → List ℕ
message_of WrongArguments = codes "usage: triple_arena_run [heap | limited N | fixed N | array]" ++ 10 ∷ []
message_of (Ran (Ok done)) = []
message_of (Ran (Err e)) = error_text e ++ 10 ∷ []
