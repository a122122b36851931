-- What a text writes in a strict session is what the strict store of names answers that the session shows.
use Rattle.std.proofs.Common.{◌≡◌, ℕ, ◌-◌, Bool, true, false, List, [], ◌∷◌, ◌++◌, ◌≤◌, Option, Some, None, IfSome, Result, Ok, Err, take, refl, sym, ap, subst, inl, inr, arith}
use Rattle.triple_arena_ptr.specs.Numbers.{counting_to, Generations, greatest_index, first_generation}
use Rattle.triple_arena_stack.specs.StackKind.{StackKind, IsOfKind}
use Rattle.triple_arena_stack.specs.StackKind.StackKind.{heap, limited, fixed, array}
use Rattle.triple_arena_commands.specs.declared.command.Command.{Command}
use Rattle.triple_arena_commands.specs.declared.reply.Reply.{Reply}
use Rattle.triple_arena_commands.specs.declared.arguments.Kind.{Kind}
use Rattle.triple_arena_commands.specs.declared.arguments.Kind.TheVariants.{Heap, Limited, Fixed, Array}
use Rattle.triple_arena_commands.specs.declared.arguments.Outcome.{Outcome}
use Rattle.triple_arena_commands.specs.declared.arguments.Outcome.TheVariants.{WrongArguments, Ran}
use Rattle.triple_arena_commands.specs.declared.text_error.TextError.{TextError}
use Rattle.triple_arena_commands.specs.declared.text_error.TextError.TheVariants.{Malformed, Read, Write, NoMemory}
use Rattle.triple_arena_commands.specs.Lines.{lines_of}
use Rattle.triple_arena_commands.specs.TextRun.{RunsLines, AnswersLines, RunsThrough, IsTextRun, IsFlushedRun, IsFlushed}
use Rattle.triple_arena_commands.specs.StrictStore.{StrictStore}
use Rattle.triple_arena_commands.specs.laws.StrictStoreLaws.{StrictIsUnseen}
use Rattle.triple_arena_commands.specs.laws.TextLaws.{IsFlushedRun-not_begun}
use Rattle.triple_arena_session.specs.SessionState.{SessionState}
use Rattle.triple_arena_session.specs.KindRun.{greatest, first_session, RunsStrictlyOver, RunsKindStrictly}
use Rattle.triple_arena_session.specs.ProgramRun.{RunsProgram}
use Rattle.triple_arena_session.specs.StoreText.{IsAnsweredText, first_strict_store, AnswersFreshly, AnswersProgram}
use Rattle.triple_arena_session.specs.SessionLayout.{IsStepStrictIf}
use Rattle.triple_arena_session.specs.Shown.{IsSound, IsArenaOver}
use Rattle.triple_arena_session.specs.StrictSession.{IsStrictSessionStep, strictly_shown}
use Rattle.triple_arena_session.specs.StrictText.{IsWholeTextRun, IsWholeFlushedRun, RunsStrictStore, BringsStrictStore, IsStrictStoreText}
use Rattle.triple_arena_session.proofs.Soundness.{sound_over}
use Rattle.triple_arena_session.proofs.StoreLaws.{SoundOver-new}
use Rattle.triple_arena_session.proofs.StoreRunLaws.{quiet_ends}
use Rattle.triple_arena_session.proofs.StoreTextLaws.{RunsKindFreshly}
use Rattle.triple_arena_session.proofs.StrictLaws.{StrictlySound, StrictRunIsStores, StrictRunIsQuiet}

module _ (kind : StackKind) (has_memory : ℕ → Type 0) (generations : Generations) (s t : SessionState ℕ) (old new : Option (List ℕ)) where
  abbrev TextStep : SessionState ℕ → Command ℕ → Reply ℕ → SessionState ℕ → Type 0
  TextStep = IsStrictSessionStep kind has_memory generations

  -- no wrap ends a run
  whole : (lines : List (List ℕ)) → RunsThrough TextStep lines s t old new → AnswersLines TextStep lines s t old new
  whole lines (inl all) = all
  whole lines (inr first) =
      let ran = first.1 in
      absurd (quiet_ends ran.0 (StrictRunIsQuiet kind has_memory generations s ran.1.0 ran.0 t ran.1.2) ran.2)

  pub StrictTextIsWhole : (text : Option (List ℕ)) (outcome : Result (Unit {0}) TextError) → IsTextRun TextStep text outcome s t old new → IsWholeTextRun TextStep text outcome s t old new
  StrictTextIsWhole None (Ok done) ran = ran
  StrictTextIsWhole (Some bytes) (Ok done) ran = whole (lines_of bytes) ran
  StrictTextIsWhole text (Err e) ran = ran

  pub StrictFlushedIsWhole : (text : Option (List ℕ)) (outcome : Result (Unit {0}) TextError) → IsFlushedRun TextStep text outcome s t old new → IsWholeFlushedRun TextStep text outcome s t old new
  StrictFlushedIsWhole None (Ok done) ran = ran
  StrictFlushedIsWhole (Some bytes) (Ok done) ran = whole (lines_of bytes) ran
  StrictFlushedIsWhole text (Err e) ran = ran

  module _ (counts : generations.counting ≡ true) (sound : StrictlySound kind has_memory generations counts s) where
    -- the store that the lines of a run bring about
    runs : (lines : List (List ℕ)) (replies : List (Reply ℕ)) → RunsLines TextStep lines replies s t → IsSound t × RunsStrictStore (strictly_shown generations.greatest s) (strictly_shown generations.greatest t) lines replies
    runs lines replies ran =
        let stores = StrictRunIsStores kind has_memory generations counts s ran.0 replies t sound ran.2 in
        (stores.sound.sound.table, (ran.0, ran.1, stores.stores, StrictIsUnseen (strictly_shown generations.greatest s) (strictly_shown generations.greatest t) ran.0 replies stores.stores))

    brings : (lines : List (List ℕ)) → AnswersLines TextStep lines s t old new → IsSound t × BringsStrictStore (strictly_shown generations.greatest s) (strictly_shown generations.greatest t) lines old new
    brings lines a =
        let ran = runs lines a.0 a.1 in
        (ran.0, (a.0, ran.1, a.3))

    -- the session is sound, where the text is known, and the store is that of the text
    abbrev pub LeavesStrictStore : Option (List ℕ) → Result (Unit {0}) TextError → Type 0
    LeavesStrictStore text outcome = IfSome text (λ bytes. IsSound t) × IsStrictStoreText (strictly_shown generations.greatest s) (strictly_shown generations.greatest t) text outcome old new

    -- where the writer failed
    partly : (bytes : List ℕ) (count : ℕ) (replies : List (Reply ℕ)) → RunsLines TextStep (take count (lines_of bytes)) replies s t → LeavesStrictStore (Some bytes) (Err Write)
    partly bytes count replies ran =
        let stores = runs (take count (lines_of bytes)) replies ran in
        (stores.0, (count, replies, stores.1))

    -- where nothing ran
    stays : (text : Option (List ℕ)) → t ≡ s → IfSome text (λ bytes. IsSound t) × (strictly_shown generations.greatest t ≡ strictly_shown generations.greatest s)
    stays None same = (tt, ap (strictly_shown generations.greatest) same)
    stays (Some bytes) same = (subst IsSound (sym same) sound.sound.table, ap (strictly_shown generations.greatest) same)

    pub StrictTextIsStores : (text : Option (List ℕ)) (outcome : Result (Unit {0}) TextError) → IsTextRun TextStep text outcome s t old new → LeavesStrictStore text outcome
    StrictTextIsStores None (Ok done) ran = (ran, ran)
    StrictTextIsStores (Some bytes) (Ok done) ran = brings (lines_of bytes) (whole (lines_of bytes) ran)
    StrictTextIsStores None (Err (Malformed n)) ran = (ran, ran)
    StrictTextIsStores (Some bytes) (Err (Malformed n)) ran =
        let stores = brings (take (n - 1) (lines_of bytes)) ran.1 in
        (stores.0, (ran.0, stores.1))
    StrictTextIsStores None (Err Write) ran = (ran, ran)
    StrictTextIsStores (Some bytes) (Err Write) ran = partly bytes ran.0 (ran.1 ++ ran.2 ∷ []) ran.3
    StrictTextIsStores text (Err Read) ran = stays text ran.0
    StrictTextIsStores text (Err NoMemory) ran = stays text ran.0

    pub StrictWholeIsStores : (text : Option (List ℕ)) (outcome : Result (Unit {0}) TextError) → IsWholeFlushedRun TextStep text outcome s t old new → LeavesStrictStore text outcome
    StrictWholeIsStores None (Ok done) ran = (ran, ran)
    StrictWholeIsStores (Some bytes) (Ok done) ran = brings (lines_of bytes) ran
    StrictWholeIsStores None (Err Write) ran = (ran, ran)
    StrictWholeIsStores (Some bytes) (Err Write) ran = partly bytes ran.0 ran.1 ran.2
    StrictWholeIsStores text (Err (Malformed n)) ran = StrictTextIsStores text (Err (Malformed n)) ran
    StrictWholeIsStores text (Err Read) ran = stays text ran.0
    StrictWholeIsStores text (Err NoMemory) ran = stays text ran.0

    pub StrictFlushedIsStores : (text : Option (List ℕ)) (outcome : Result (Unit {0}) TextError) → IsFlushedRun TextStep text outcome s t old new → LeavesStrictStore text outcome
    StrictFlushedIsStores text outcome ran = StrictWholeIsStores text outcome (StrictFlushedIsWhole text outcome ran)

-- the lines of a text leave a strict session sound, whatever the writer tells
pub StrictLinesKeepSound : (strict : Bool) (kind : StackKind) (has_memory : ℕ → Type 0) (generations : Generations) (s t : SessionState ℕ) (old new : Option (List ℕ)) (bytes : List ℕ) (outcome : Result (Unit {0}) TextError) → strict ≡ true → generations.counting ≡ true
    → IsArenaOver kind s.arena → s.arena.counter ≤ generations.greatest → IsSound s → IsTextRun (IsStepStrictIf strict kind has_memory generations) (Some bytes) outcome s t old new → IsSound t
StrictLinesKeepSound strict kind has_memory generations s t old new bytes outcome is counts over within sound ran =
    (StrictTextIsStores kind has_memory generations s t old new counts (record { sound = sound_over kind s sound over; within = within }) (Some bytes) outcome
    (subst (λ b. IsTextRun (IsStepStrictIf b kind has_memory generations) (Some bytes) outcome s t old new) is ran)).0

-- the run over a stack of a kind, from a strict session that has given no name
over_kind : (kind : StackKind) (has_memory : ℕ → Type 0) (room : ℕ) (limit : Option ℕ) (text : Option (List ℕ)) (outcome : Result (Unit {0}) TextError) (old new : Option (List ℕ)) → IsOfKind kind room limit
    → RunsStrictlyOver kind has_memory (first_session room limit) text outcome old new
    → (after : StrictStore ℕ) × IsStrictStoreText (strictly_shown greatest (first_session room limit)) after text outcome old new
over_kind kind has_memory room limit text outcome old new of_kind ran = (
  strictly_shown greatest ran.0,
  (StrictWholeIsStores kind has_memory (counting_to greatest) (first_session room limit) ran.0 old new refl
      (record { sound = SoundOver-new kind room limit (greatest_index greatest) (first_generation (counting_to greatest)) of_kind; within = omega arith }) text outcome ran.1).1,
)

-- the program's run, over each kind of stack
pub RunsKindStrictlyAsStore : (kind : Kind) (text : Option (List ℕ)) (outcome : Result (Unit {0}) TextError) (old new : Option (List ℕ)) → RunsKindStrictly kind text outcome old new → (after : StrictStore ℕ) × IsStrictStoreText (first_strict_store kind) after text outcome old new
RunsKindStrictlyAsStore Heap text outcome old new ran = over_kind heap (λ _. ⊥) 0 None text outcome old new refl ran
RunsKindStrictlyAsStore (Limited n) text outcome old new ran = over_kind limited (λ _. ⊥) n (Some n) text outcome old new (n, refl) ran
RunsKindStrictlyAsStore (Fixed n) text outcome old new ran = over_kind fixed (λ _. ⊥) n (Some n) text outcome old new refl ran
RunsKindStrictlyAsStore Array text outcome old new ran = over_kind (array 8) (λ _. Unit {0}) 8 (Some 8) text outcome old new (refl, refl) ran

-- where there was no memory to begin, nothing ran
pub RunsStrictly-not_begun : (kind : StackKind) (has_memory : ℕ → Type 0) (first : SessionState ℕ) (known : Option (List ℕ)) (outcome : Result (Unit {0}) TextError) (old new : Option (List ℕ)) → IsFlushed (Err NoMemory) outcome old new → RunsStrictlyOver kind has_memory first known outcome old new
RunsStrictly-not_begun kind has_memory first known outcome old new flushed =
    (first, StrictFlushedIsWhole kind has_memory (counting_to greatest) first first old new known outcome (IsFlushedRun-not_begun (IsStrictSessionStep kind has_memory (counting_to greatest)) known outcome first old new flushed))

-- the program's arguments, input and output
pub RunsProgramAsStore : {W : Type 0} (contents : W → Option (List ℕ)) (mode : Result (Bool × Kind) Outcome) (text : Option (List ℕ)) (outcome : Outcome) (old : W) (new : Option W) → RunsProgram contents mode text outcome old new → AnswersProgram contents mode text outcome old new
RunsProgramAsStore contents (Ok (false, kind)) text (Ran answer) old (Some new) ran =
    let same : answer ≡ ran.0 = cc in
    subst (λ a. IsAnsweredText (AnswersFreshly kind) text a (contents old) (contents new)) (sym same) (RunsKindFreshly kind text ran.0 (contents old) (contents new) ran.2)
RunsProgramAsStore contents (Ok (true, kind)) text (Ran answer) old (Some new) ran =
    let same : answer ≡ ran.0 = cc in
    subst (λ a. (after : StrictStore ℕ) × IsStrictStoreText (first_strict_store kind) after text a (contents old) (contents new)) (sym same) (RunsKindStrictlyAsStore kind text ran.0 (contents old) (contents new) ran.2)
RunsProgramAsStore contents (Ok (false, kind)) text (Ran answer) old None ran = tt
RunsProgramAsStore contents (Ok (true, kind)) text (Ran answer) old None ran = tt
RunsProgramAsStore contents (Ok (false, kind)) text WrongArguments old new ran = tt
RunsProgramAsStore contents (Ok (true, kind)) text WrongArguments old new ran = tt
RunsProgramAsStore contents (Err why) text outcome old new ran = tt
