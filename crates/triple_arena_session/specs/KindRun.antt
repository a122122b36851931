-- What the program runs: a text, in a new session over the stack that was asked for.
use Rattle.std.specs.Prelude.{ℕ, ◌^◌, ◌-◌, Bool, true, false, List, Option, None, Some, Result}
use Rattle.triple_arena_ptr.specs.Numbers.{counting_to, greatest_index, first_generation}
use Rattle.triple_arena_stack.specs.StackKind.{StackKind, heap, limited, fixed, array}
use Rattle.triple_arena_traits.specs.ArenaState.{new_arena}
use Rattle.triple_arena_commands.specs.TextRun.{IsFlushedRun}
use Rattle.triple_arena_commands.specs.declared.command.Command.{Command}
use Rattle.triple_arena_commands.specs.declared.reply.Reply.{Reply}
use Rattle.triple_arena_commands.specs.declared.arguments.Kind.{Kind}
use Rattle.triple_arena_commands.specs.declared.arguments.Kind.TheVariants.{Heap, Limited, Fixed, Array}
use Rattle.triple_arena_commands.specs.declared.text_error.TextError.{TextError}
use Rattle.triple_arena_session.specs.SessionState.{SessionState, new_session}
use Rattle.triple_arena_session.specs.SessionRun.{IsStep}
use Rattle.triple_arena_session.specs.StrictSession.{IsStrictSessionStep}
use Rattle.triple_arena_session.specs.StrictText.{IsWholeFlushedRun}

-- the greatest number of an index of P0, and of a generation
abbrev pub greatest : ℕ
greatest = 2 ^ 64 - 1

-- a session of P0 over an arena of this room and this limit, that has given no name
abbrev pub first_session : ℕ → Option ℕ → SessionState ℕ
first_session room limit = new_session (new_arena room limit (greatest_index greatest) (first_generation (counting_to greatest)))

-- the session that the program begins with, over the stack that its arguments ask for
abbrev pub first_of_kind : Kind → SessionState ℕ
first_of_kind Heap = first_session 0 None
first_of_kind (Limited n) = first_session n (Some n)
first_of_kind (Fixed n) = first_session n (Some n)
first_of_kind Array = first_session 8 (Some 8)

-- a step of a session of P0 over that stack
abbrev pub IsStepOfKind : Kind → (before : SessionState ℕ) (command : Command ℕ) (reply : Reply ℕ) (after : SessionState ℕ) → Type 0
IsStepOfKind Heap = IsStep heap (λ _. ⊥) (counting_to greatest)
IsStepOfKind (Limited n) = IsStep limited (λ _. ⊥) (counting_to greatest)
IsStepOfKind (Fixed n) = IsStep fixed (λ _. ⊥) (counting_to greatest)
IsStepOfKind Array = IsStep (array 8) (λ _. Unit {0}) (counting_to greatest)

-- the text ran over a stack of this kind, where memory is there for such requests, from this session
abbrev pub RunsOver : (kind : StackKind) (has_memory : ℕ → Type 0) (first : SessionState ℕ) (text : Option (List ℕ)) (outcome : Result (Unit {0}) TextError) (old new : Option (List ℕ)) → Type 0
RunsOver kind has_memory first text outcome old new = (last : SessionState ℕ) × IsFlushedRun (IsStep kind has_memory (counting_to greatest)) text outcome first last old new

-- the text ran in the session over the stack that the program's arguments ask for
abbrev pub RunsKind : Kind → (text : Option (List ℕ)) (outcome : Result (Unit {0}) TextError) (old new : Option (List ℕ)) → Type 0
RunsKind Heap = RunsOver heap (λ _. ⊥) (first_session 0 None)
RunsKind (Limited n) = RunsOver limited (λ _. ⊥) (first_session n (Some n))
RunsKind (Fixed n) = RunsOver fixed (λ _. ⊥) (first_session n (Some n))
RunsKind Array = RunsOver (array 8) (λ _. Unit {0}) (first_session 8 (Some 8))

-- the same of a strict session, whose run no wrap ends
abbrev pub RunsStrictlyOver : (kind : StackKind) (has_memory : ℕ → Type 0) (first : SessionState ℕ) (text : Option (List ℕ)) (outcome : Result (Unit {0}) TextError) (old new : Option (List ℕ)) → Type 0
RunsStrictlyOver kind has_memory first text outcome old new = (last : SessionState ℕ) × IsWholeFlushedRun (IsStrictSessionStep kind has_memory (counting_to greatest)) text outcome first last old new

-- the text ran in the strict session over the stack that the program's arguments ask for
abbrev pub RunsKindStrictly : Kind → (text : Option (List ℕ)) (outcome : Result (Unit {0}) TextError) (old new : Option (List ℕ)) → Type 0
RunsKindStrictly Heap = RunsStrictlyOver heap (λ _. ⊥) (first_session 0 None)
RunsKindStrictly (Limited n) = RunsStrictlyOver limited (λ _. ⊥) (first_session n (Some n))
RunsKindStrictly (Fixed n) = RunsStrictlyOver fixed (λ _. ⊥) (first_session n (Some n))
RunsKindStrictly Array = RunsStrictlyOver (array 8) (λ _. Unit {0}) (first_session 8 (Some 8))

-- the text ran in the session that the program's arguments ask for, a strict one or not
abbrev pub RunsMode : Bool × Kind → (text : Option (List ℕ)) (outcome : Result (Unit {0}) TextError) (old new : Option (List ℕ)) → Type 0
RunsMode (false, kind) = RunsKind kind
RunsMode (true, kind) = RunsKindStrictly kind
