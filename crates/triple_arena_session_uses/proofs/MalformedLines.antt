-- What laws of lines and forms tell of a malformed line.
use Rattle.std.proofs.Common.{◌≡◌, ℕ, ◌-◌, List, Option, None, Some, slice_get, get_or, refl, subst}
use Rattle.std.specs.Prelude.{IsSomeAnd, Contains}
use Rattle.std.proofs.lemmas.Option.{slice_get_within, get_or_from_slice_get}
use Rattle.triple_arena_session.specs.Command.{Command}
use Rattle.triple_arena_session.specs.Lines.{lines_of}
use Rattle.triple_arena_session.specs.CommandText.{command_of}
use Rattle.triple_arena_session.specs.Forms.{HasForm, FormsAreExact, LinesAreExact}
use Rattle.triple_arena_session.specs.TextRun.{IsMalformed}

-- what such an option has
picked : (o : Option (List ℕ)) (P : List ℕ → Type 0) → IsSomeAnd o P → (x : List ℕ) × (o ≡ Some x) × P x
picked None P none = absurd none
picked (Some x) P holds = (x, refl, holds)

-- an option isn't none and some
no_form : (o : Option (Command ℕ)) (command : Command ℕ) → o ≡ None → o ≡ Some command → ⊥
no_form o command none some = cc

-- a malformed line has no line break, and the form of no command
pub malformed : LinesAreExact → FormsAreExact → (text : List ℕ) (n : ℕ) → IsMalformed (lines_of text) n
    → (line : List ℕ) × (slice_get (lines_of text) (n - 1) ≡ Some line) × (¬ (Contains line 10)) × ((command : Command ℕ) → ¬ (HasForm line command))
malformed lines forms text n is =
    let (line, at, bad) = picked (slice_get (lines_of text) (n - 1)) _ is.1 in
    let whole : ¬ (Contains (get_or (lines_of text) (n - 1) line) 10) = (lines text).1 (n - 1) line (slice_get_within (lines_of text) (n - 1) line at) in
    let NoBreak : List ℕ → Type 0 = λ l. ¬ (Contains l 10) in
    (line, at, subst NoBreak (get_or_from_slice_get (lines_of text) (n - 1) line line at) whole, λ command form. no_form (command_of line) command bad.1 ((forms line command).1 form))
