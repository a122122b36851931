-- What the program does with its arguments, its input and its output.
use Rattle.std.specs.Prelude.{◌≡◌, ℕ, Bool, List, Option, None, Some, Result, Ok, Err}
use Rattle.triple_arena_commands.specs.declared.arguments.Kind.{Kind}
use Rattle.triple_arena_commands.specs.declared.arguments.Outcome.{Outcome}
use Rattle.triple_arena_commands.specs.declared.arguments.Outcome.TheVariants.{Ran}
use Rattle.triple_arena_commands.specs.declared.text_error.TextError.{TextError}
use Rattle.triple_arena_commands.specs.declared.text_error.TextError.TheVariants.{NoMemory}
use Rattle.triple_arena_session.specs.KindRun.{RunsMode}

-- of what the arguments ask for, whether a session is to be strict and its kind, or the outcome where they ask for nothing;
-- and of the writer before, and after where it is given back: the text ran in the session that was asked for, the outcome is
-- its answer, and the writer is given back. Where there was no memory for a buffer, it isn't. Where nothing was asked for,
-- that is the outcome, and the writer is untouched.
abbrev pub RunsProgram : {W : Type 0} → (W → Option (List ℕ)) → Result (Bool × Kind) Outcome → Option (List ℕ) → Outcome → W → Option W → Type 0
RunsProgram contents (Ok mode) text outcome old (Some new) = (answer : Result (Unit {0}) TextError) × (outcome ≡ Ran answer) × RunsMode mode text answer (contents old) (contents new)
RunsProgram contents (Ok mode) text outcome old None = outcome ≡ Ran (Err NoMemory)
RunsProgram contents (Err why) text outcome old new = (outcome ≡ why) × (new ≡ Some old)
