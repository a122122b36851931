-- What the program writes is what the store of names answers that its session shows, and each pointer is given once.
use Rattle.std.proofs.Common.{◌≡◌, ◌⊎◌, ℕ, ◌-◌, true, List, Option, Some, None, Result, Ok, Err, take, refl, sym, ap, subst, inl, inr}
use Rattle.triple_arena_ptr.specs.Numbers.{counting_to, Generations, greatest_index, first_generation}
use Rattle.triple_arena_stack.specs.StackKind.{StackKind, IsOfKind}
use Rattle.triple_arena_stack.specs.StackKind.StackKind.{heap, limited, fixed, array}
use Rattle.triple_arena_commands.specs.declared.command.Command.{Command}
use Rattle.triple_arena_commands.specs.declared.reply.Reply.{Reply}
use Rattle.triple_arena_commands.specs.declared.arguments.Kind.{Kind}
use Rattle.triple_arena_commands.specs.declared.arguments.Kind.TheVariants.{Heap, Limited, Fixed, Array}
use Rattle.triple_arena_commands.specs.declared.text_error.TextError.{TextError}
use Rattle.triple_arena_commands.specs.declared.text_error.TextError.TheVariants.{Malformed, Read, Write, NoMemory}
use Rattle.triple_arena_commands.specs.Lines.{lines_of}
use Rattle.triple_arena_commands.specs.Runs.{IsRun, TellsOfNoWrap, EndsInWrap}
use Rattle.triple_arena_commands.specs.TextRun.{AnswersLines, AnswersToWrap, IsTextRun, IsFlushedRun}
use Rattle.triple_arena_commands.specs.NameStore.{new_store}
use Rattle.triple_arena_commands.specs.laws.UnseenLaws.{CompactionIsUnseen}
use Rattle.triple_arena_session.specs.SessionState.{SessionState}
use Rattle.triple_arena_session.specs.SessionRun.{IsStep}
use Rattle.triple_arena_session.specs.SessionCalls.{GivesOnceToWrap}
use Rattle.triple_arena_session.specs.KindRun.{greatest, first_session, RunsOver, RunsKind}
use Rattle.triple_arena_session.specs.Shown.{shown, IsSound}
use Rattle.triple_arena_session.specs.StoreText.{WritesAnswers, IsAnsweredText, AnswersUnseen, IsStoreText, BringsStore, LeavesStore, AnswersFreshly}
use Rattle.triple_arena_session.proofs.StoreLaws.{SoundOver-new}
use Rattle.triple_arena_session.proofs.StoreRunLaws.{QuietRunIsStores, answers}
use Rattle.triple_arena_session.proofs.Soundness.{SoundOver, over_of}
use Rattle.triple_arena_session.proofs.GivenOnce.{RunGivesOnce}

-- where each list of commands is answered so, a text is
module _ (Step : SessionState ℕ → Command ℕ → Reply ℕ → SessionState ℕ → Type 0) (s t : SessionState ℕ) (old new : Option (List ℕ)) (Answers : List (Command ℕ) → List (Reply ℕ) → Type 0) (answered : (commands : List (Command ℕ)) (replies : List (Reply ℕ)) → IsRun Step s commands replies t → TellsOfNoWrap replies ⊎ EndsInWrap replies → Answers commands replies) where
  all_lines : (lines : List (List ℕ)) → AnswersLines Step lines s t old new → WritesAnswers Answers TellsOfNoWrap lines old new
  all_lines lines a = (a.1.0, a.0, a.1.1, a.2, a.3, answered a.1.0 a.0 a.1.2 (inl a.2))

  to_wrap : (lines : List (List ℕ)) → AnswersToWrap Step lines s t old new → WritesAnswers Answers EndsInWrap lines old new
  to_wrap lines a = (a.1.0, a.0, a.1.1, a.2, a.3, answered a.1.0 a.0 a.1.2 (inr a.2))

  pub TextIsAnswered : (text : Option (List ℕ)) (outcome : Result (Unit {0}) TextError) → IsTextRun Step text outcome s t old new → IsAnsweredText Answers text outcome old new
  TextIsAnswered None (Ok done) ran = ran
  TextIsAnswered (Some bytes) (Ok done) (inl all) = inl (all_lines (lines_of bytes) all)
  TextIsAnswered (Some bytes) (Ok done) (inr first) = inr (first.0, to_wrap (take first.0 (lines_of bytes)) first.1)
  TextIsAnswered None (Err (Malformed n)) ran = ran
  TextIsAnswered (Some bytes) (Err (Malformed n)) ran = (ran.0, all_lines (take (n - 1) (lines_of bytes)) ran.1)
  TextIsAnswered text (Err Read) ran = tt
  TextIsAnswered text (Err Write) ran = tt
  TextIsAnswered text (Err NoMemory) ran = tt

  pub FlushedIsAnswered : (text : Option (List ℕ)) (outcome : Result (Unit {0}) TextError) → IsFlushedRun Step text outcome s t old new → IsAnsweredText Answers text outcome old new
  FlushedIsAnswered text (Err Write) ran = tt
  FlushedIsAnswered text (Ok done) ran = TextIsAnswered text (Ok done) ran
  FlushedIsAnswered text (Err (Malformed n)) ran = TextIsAnswered text (Err (Malformed n)) ran
  FlushedIsAnswered text (Err Read) ran = tt
  FlushedIsAnswered text (Err NoMemory) ran = tt

module _ (kind : StackKind) (has_memory : ℕ → Type 0) (generations : Generations) (counts : generations.counting ≡ true) (s t : SessionState ℕ) (sound : SoundOver kind s) (old new : Option (List ℕ)) where
  abbrev TextStep : SessionState ℕ → Command ℕ → Reply ℕ → SessionState ℕ → Type 0
  TextStep = IsStep kind has_memory generations

  as_store : (commands : List (Command ℕ)) (replies : List (Reply ℕ)) → IsRun TextStep s commands replies t → TellsOfNoWrap replies ⊎ EndsInWrap replies → AnswersUnseen (shown s) commands replies
  as_store commands replies run ends =
      let stores = answers kind has_memory generations counts s commands replies t sound run ends in
      (stores, CompactionIsUnseen (shown s) commands replies stores)

  -- a text that runs in a sound session is answered as by the store that the session shows
  pub TextIsStores : (text : Option (List ℕ)) (outcome : Result (Unit {0}) TextError) → IsTextRun TextStep text outcome s t old new → IsStoreText (shown s) text outcome old new
  TextIsStores text outcome ran = TextIsAnswered TextStep s t old new (AnswersUnseen (shown s)) as_store text outcome ran

  pub FlushedIsStores : (text : Option (List ℕ)) (outcome : Result (Unit {0}) TextError) → IsFlushedRun TextStep text outcome s t old new → IsStoreText (shown s) text outcome old new
  FlushedIsStores text outcome ran = FlushedIsAnswered TextStep s t old new (AnswersUnseen (shown s)) as_store text outcome ran

  brings : (lines : List (List ℕ)) → AnswersLines TextStep lines s t old new → IsSound t × BringsStore (shown s) (shown t) lines old new
  brings lines a =
      let stores = QuietRunIsStores kind has_memory generations counts s a.1.0 a.0 t sound a.1.2 a.2 in
      (stores.1.table, (a.1.0, a.0, a.1.1, stores.0, a.2, a.3))

  stays : t ≡ s → IsSound t × (shown t ≡ shown s)
  stays same = (subst IsSound (sym same) sound.table, ap shown same)

  -- and is sound after it, and shows what the store became, but where a wrap ended it or the writer failed
  pub TextLeavesStore : (text : Option (List ℕ)) (outcome : Result (Unit {0}) TextError) → IsTextRun TextStep text outcome s t old new → LeavesStore TextStep text outcome s t old new
  TextLeavesStore None (Ok done) ran = ran
  TextLeavesStore (Some bytes) (Ok done) (inl all) = inl (brings (lines_of bytes) all)
  TextLeavesStore (Some bytes) (Ok done) (inr first) = inr first
  TextLeavesStore None (Err (Malformed n)) ran = ran
  TextLeavesStore (Some bytes) (Err (Malformed n)) ran = brings (take (n - 1) (lines_of bytes)) ran.1
  TextLeavesStore text (Err Read) ran = stays ran.0
  TextLeavesStore text (Err Write) ran = tt
  TextLeavesStore text (Err NoMemory) ran = stays ran.0

  pub FlushedLeavesStore : (text : Option (List ℕ)) (outcome : Result (Unit {0}) TextError) → IsFlushedRun TextStep text outcome s t old new → LeavesStore TextStep text outcome s t old new
  FlushedLeavesStore text (Err Write) ran = tt
  FlushedLeavesStore text (Ok done) ran = TextLeavesStore text (Ok done) ran
  FlushedLeavesStore text (Err (Malformed n)) ran = TextLeavesStore text (Err (Malformed n)) ran
  FlushedLeavesStore text (Err Read) ran = TextLeavesStore text (Err Read) ran
  FlushedLeavesStore text (Err NoMemory) ran = TextLeavesStore text (Err NoMemory) ran

-- the run over a stack of a kind, from a session that has given no name, and that so gives each pointer once
over_kind : (kind : StackKind) (has_memory : ℕ → Type 0) (room : ℕ) (limit : Option ℕ) (text : Option (List ℕ)) (outcome : Result (Unit {0}) TextError) (old new : Option (List ℕ)) → IsOfKind kind room limit
    → RunsOver kind has_memory (first_session room limit) text outcome old new
    → IsAnsweredText (λ commands replies. AnswersUnseen (new_store room limit greatest) commands replies × GivesOnceToWrap (IsStep kind has_memory (counting_to greatest)) (first_session room limit) commands replies) text outcome old new
over_kind kind has_memory room limit text outcome old new of_kind ran =
    let first : SessionState ℕ = first_session room limit in
    let sound : SoundOver kind first = SoundOver-new kind room limit (greatest_index greatest) (first_generation (counting_to greatest)) of_kind in
    FlushedIsAnswered (IsStep kind has_memory (counting_to greatest)) first ran.0 old new
    (λ commands replies. AnswersUnseen (new_store room limit greatest) commands replies × GivesOnceToWrap (IsStep kind has_memory (counting_to greatest)) first commands replies)
    (λ commands replies run ends. (
      as_store kind has_memory (counting_to greatest) refl first ran.0 sound old new commands replies run ends,
      RunGivesOnce kind (counting_to greatest) has_memory refl first commands replies ran.0 (over_of kind first sound) refl run,
    )) text outcome ran.1

-- the program's run, over each kind of stack
pub RunsKindFreshly : (kind : Kind) (text : Option (List ℕ)) (outcome : Result (Unit {0}) TextError) (old new : Option (List ℕ)) → RunsKind kind text outcome old new → IsAnsweredText (AnswersFreshly kind) text outcome old new
RunsKindFreshly Heap text outcome old new ran = over_kind heap (λ _. ⊥) 0 None text outcome old new refl ran
RunsKindFreshly (Limited n) text outcome old new ran = over_kind limited (λ _. ⊥) n (Some n) text outcome old new (n, refl) ran
RunsKindFreshly (Fixed n) text outcome old new ran = over_kind fixed (λ _. ⊥) n (Some n) text outcome old new refl ran
RunsKindFreshly Array text outcome old new ran = over_kind (array 8) (λ _. Unit {0}) 8 (Some 8) text outcome old new (refl, refl) ran
