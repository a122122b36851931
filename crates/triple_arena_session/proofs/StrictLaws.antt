-- A strict session answers as the strict store that it shows, and its counter never wraps.
use Rattle.std.proofs.Common.{◌≡◌, ◌↔◌, ℕ, ◌+◌, ◌-◌, ◌≤◌, ◌==◌, nat_lt, ◌&&◌, Bool, true, false, List, [], ◌∷◌, length, take, is_some, cond, Result, Ok, Err, IfOk, OnErr, refl, sym, ap, subst, ◌∙◌, arith, true≢false}
use Rattle.std.specs.Option.{option_map}
use Rattle.std.specs.List.{list_all, list_any}
use Rattle.std.proofs.lemmas.Bool.{and_parts}
use Rattle.std.proofs.lemmas.Bool.Decides.{nat_tests}
use Rattle.triple_arena_ptr.specs.Numbers.{Generations, raise, wraps}
use Rattle.triple_arena_stack.specs.StackKind.{StackKind}
use Rattle.triple_arena_traits.specs.Histories.{Continues, Fits}
use Rattle.triple_arena_commands.specs.declared.command.Command.{Command}
use Rattle.triple_arena_commands.specs.declared.command.Command.TheVariants.{Remove, Invalidate, Clear, Compact, Reserve}
use Rattle.triple_arena_commands.specs.declared.reply.Reply.{Reply}
use Rattle.triple_arena_commands.specs.declared.reply.Reply.TheVariants.{Exhausted}
use Rattle.triple_arena_commands.specs.ReplyText.{tells_of_wrap}
use Rattle.triple_arena_commands.specs.Runs.{IsRun, TellsOfNoWrap, RunsToWrap}
use Rattle.triple_arena_commands.specs.laws.RunLaws.{TellsOfNoWrap-nil, TellsOfNoWrap-first}
use Rattle.triple_arena_commands.specs.StoreRuns.{is_named, is_no_memory, replies_with_memory, without_compactions, replies_without_compactions}
use Rattle.triple_arena_commands.specs.StrictStore.{tells_success, tells_exhausted, UnlessExhausted, raises_row, used, is_spent, IsCountedStep, IsStrictStoreStep}
use Rattle.triple_arena_commands.specs.laws.StrictStoreLaws.{unless_so, refused_where, made_where, StrictIsUnseen}
use Rattle.triple_arena_session.specs.SessionState.{SessionState, named}
use Rattle.triple_arena_session.specs.SessionRun.{IsStep}
use Rattle.triple_arena_session.specs.SessionCalls.{calls_of, calls_in}
use Rattle.triple_arena_session.specs.Shown.{as_row, shown, IsSound, IsArenaOver}
use Rattle.triple_arena_session.specs.StrictSession.{raises_counter, is_refused, IsStrictSessionStep, strictly_shown}
use Rattle.triple_arena_session.proofs.Rows.{is_some-map, row_count-shown}
use Rattle.triple_arena_session.proofs.Continuing.{raised_by_one, GoesOn, goes_same, StepGoesOn, StepsKeepHistories}
use Rattle.triple_arena_session.proofs.StoreSteps.{row_named}
use Rattle.triple_arena_session.proofs.StoreLaws.{StepIsStores}
use Rattle.triple_arena_session.proofs.StoreRunLaws.{whole_if_quiet}
use Rattle.triple_arena_session.proofs.Soundness.{SoundOver, sound_over}
use Rattle.triple_arena_session.proofs.StrictSteps.{step_counts}

-- no raise is left exactly where the next one wraps
none_left : (generations : Generations) (n : ℕ) → generations.counting ≡ true → n ≤ generations.greatest → (generations.greatest - n == 0) ≡ wraps generations n
none_left generations n counts within = by generations.counting counts
  where
    by : (counting : Bool) → counting ≡ true → (generations.greatest - n == 0) ≡ (counting && (n == generations.greatest))
    by true counts = grind (arith, nat_tests, within)
    by false counts = absurd (true≢false (sym counts))

below : (generations : Generations) (n : ℕ) → generations.counting ≡ true → n ≤ generations.greatest → wraps generations n ≡ false → n + 1 ≤ generations.greatest
below generations n counts within quiet = by generations.counting counts quiet
  where
    by : (counting : Bool) → counting ≡ true → (counting && (n == generations.greatest)) ≡ false → n + 1 ≤ generations.greatest
    by true counts quiet = grind (arith, nat_tests, within, quiet)
    by false counts quiet = absurd (true≢false (sym counts))

not_due : (a b : Bool) → (a && b) ≡ false → b ≡ true → a ≡ false
not_due true b h due = sym due ∙ h
not_due false b h due = refl

module _ {X : Type 0} where
  row_live : (s : SessionState X) (name : ℕ) → is_some (option_map (as_row s.table) (named s name)) ≡ is_some (named s name)
  row_live s name = is_some-map (as_row s.table) (named s name)

  -- a sound session raises its counter where its store uses a raise
  raises-shown : (kind : StackKind) (s : SessionState X) (command : Command X) → SoundOver kind s → raises_row (shown s) command ≡ raises_counter s command
  raises-shown kind s (Remove name) sound = ap is_some (row_named s name) ∙ row_live s name
  raises-shown kind s (Invalidate name) sound = ap is_some (row_named s name) ∙ row_live s name
  raises-shown kind s Clear sound = ap (nat_lt 0) (row_count-shown kind s sound)
  raises-shown kind s Compact sound = ap (nat_lt 0) (row_count-shown kind s sound)
  raises-shown kind s command sound = refl

  -- what is refused is no call
  no_calls : (s : SessionState X) (command : Command X) → raises_counter s command ≡ true → calls_of s command Exhausted ≡ []
  no_calls s (Reserve m) due = absurd (true≢false (sym due))
  no_calls s command due = refl

module _ {X : Type 0} (kind : StackKind) (has_memory : ℕ → Type 0) (generations : Generations) (counts : generations.counting ≡ true) where
  abbrev pub StrictStep : SessionState X → Command X → Reply X → SessionState X → Type 0
  StrictStep s command reply t = IsStrictSessionStep kind has_memory generations s command reply t

  -- a sound session whose counter is one of its pointers' generations
  pub record StrictlySound (s : SessionState X) : Type 0 where
    pub sound : SoundOver kind s
    pub within : s.arena.counter ≤ generations.greatest

  -- a step of a strict session is one of the strict store that it shows
  pub record StepsStrictly (s : SessionState X) (command : Command X) (reply : Reply X) (t : SessionState X) : Type 0 where
    pub quiet : tells_of_wrap reply ≡ false
    pub step : IsStrictStoreStep (strictly_shown generations.greatest s) command reply (strictly_shown generations.greatest t)
    pub sound : StrictlySound t

  module _ (s : SessionState X) (command : Command X) (sound : StrictlySound s) where
    spent : is_spent (strictly_shown generations.greatest s) command ≡ is_refused generations s command
    spent =
        ap (λ b. b && raises_row (shown s) command) (none_left generations s.arena.counter counts sound.within)
        ∙ ap (λ b. wraps generations s.arena.counter && b) (raises-shown kind s command sound.sound)

    as_refused : is_refused generations s command ≡ true → StepsStrictly s command Exhausted s
    as_refused so =
        record {
          quiet = refl;
          step = refused_where (IsCountedStep (strictly_shown generations.greatest s) command Exhausted (strictly_shown generations.greatest s)) Exhausted (strictly_shown generations.greatest s) (strictly_shown generations.greatest s) (is_spent (strictly_shown generations.greatest s) command) (spent ∙ so) refl refl;
          sound = sound;
        }

    module _ (reply : Reply X) (t : SessionState X) where
      -- the counter after a step that is not refused
      counted : (b : Bool) → (raises_counter s command && tells_success reply) ≡ b → (b ≡ true → wraps generations s.arena.counter ≡ false) → t.arena.counter ≡ cond b (raise generations s.arena.counter) s.arena.counter
          → (t.arena.counter ≤ generations.greatest) × (generations.greatest - t.arena.counter + cond b 1 0 ≡ generations.greatest - s.arena.counter)
      counted true is quiet after =
          let up : t.arena.counter ≡ s.arena.counter + 1 = after ∙ raised_by_one generations s.arena.counter counts (quiet refl) in
          let room : s.arena.counter + 1 ≤ generations.greatest = below generations s.arena.counter counts sound.within (quiet refl) in
          (omega (arith, up, room), omega (arith, up, room))
      counted false is quiet after = (subst (λ n. n ≤ generations.greatest) (sym after) sound.within, ap (λ n. generations.greatest - n + 0) after ∙ omega arith)

      as_step : is_refused generations s command ≡ false → IsStep kind has_memory generations s command reply t → StepsStrictly s command reply t
      as_step not_so step =
          let counting_of = step_counts generations kind has_memory s command reply t step in
          let stores = StepIsStores kind has_memory generations counts s command reply t sound.sound step in
          let quiet : tells_of_wrap reply ≡ false = counting_of.told not_so in
          let after = counted (raises_counter s command && tells_success reply) refl (λ both. not_due (wraps generations s.arena.counter) (raises_counter s command) not_so (and_parts (raises_counter s command) (tells_success reply) both).0) counting_of.counter in
          let uses : used (shown s) command reply ≡ cond (raises_counter s command && tells_success reply) 1 0 = ap (λ b. cond (b && tells_success reply) 1 0) (raises-shown kind s command sound.sound) in
          record {
            quiet = quiet;
            step = made_where (IsCountedStep (strictly_shown generations.greatest s) command reply (strictly_shown generations.greatest t)) reply (strictly_shown generations.greatest s) (strictly_shown generations.greatest t) (is_spent (strictly_shown generations.greatest s) command) (spent ∙ not_so)
                (stores.step quiet, ap (λ n. generations.greatest - t.arena.counter + n) uses ∙ after.1);
            sound = record { sound = stores.sound quiet; within = after.0 };
          }

  pub StrictStepIsStores : (s : SessionState X) (command : Command X) (reply : Reply X) (t : SessionState X) → StrictlySound s → StrictStep s command reply t → StepsStrictly s command reply t
  StrictStepIsStores s command reply t sound step = by (is_refused generations s command) refl step
    where
      by : (b : Bool) → is_refused generations s command ≡ b → UnlessExhausted b (IsStep kind has_memory generations s command reply t) reply s t → StepsStrictly s command reply t
      by true so refused = subst (λ r. StepsStrictly s command r t) (sym refused.0) (subst (StepsStrictly s command Exhausted) (sym refused.1) (as_refused s command sound so))
      by false not_so step = as_step s command sound reply t not_so step

  -- and so is each list of steps
  pub record RunsStrictly (s : SessionState X) (commands : List (Command X)) (replies : List (Reply X)) (t : SessionState X) : Type 0 where
    pub quiet : TellsOfNoWrap replies
    pub stores : IsRun IsStrictStoreStep (strictly_shown generations.greatest s) commands replies (strictly_shown generations.greatest t)
    pub sound : StrictlySound t

  pub StrictRunIsStores : (s : SessionState X) (commands : List (Command X)) (replies : List (Reply X)) (t : SessionState X) → StrictlySound s → IsRun StrictStep s commands replies t → RunsStrictly s commands replies t
  StrictRunIsStores s [] [] t sound run =
      record {
        quiet = TellsOfNoWrap-nil;
        stores = ap (strictly_shown generations.greatest) run;
        sound = subst StrictlySound (sym run) sound;
      }
  StrictRunIsStores s [] (reply ∷ replies) t sound run = absurd run
  StrictRunIsStores s (command ∷ commands) [] t sound run = absurd run
  StrictRunIsStores s (command ∷ commands) (reply ∷ replies) t sound run =
      let first = StrictStepIsStores s command reply run.0 sound run.1 in
      let later = StrictRunIsStores run.0 commands replies t first.sound run.2 in
      record {
        quiet = TellsOfNoWrap-first reply replies first.quiet later.quiet;
        stores = (strictly_shown generations.greatest run.0, first.step, later.stores);
        sound = later.sound;
      }

  -- compaction changes no other reply, as long as neither the refusal nor a want of memory comes
  pub StrictRunIsUnseen : (s : SessionState X) (commands : List (Command X)) (replies : List (Reply X)) (t : SessionState X) → StrictlySound s → IsRun StrictStep s commands replies t
      → list_all is_named commands ≡ true → list_any is_no_memory replies ≡ false → list_any tells_exhausted replies ≡ false → replies_without_compactions commands replies ≡ replies_with_memory (shown s) (without_compactions commands)
  StrictRunIsUnseen s commands replies t sound run named enough other =
      StrictIsUnseen (strictly_shown generations.greatest s) (strictly_shown generations.greatest t) commands replies (StrictRunIsStores s commands replies t sound run).stores named enough other

module _ {X : Type 0} (kind : StackKind) (has_memory : ℕ → Type 0) (generations : Generations) where
  refused : (s : SessionState X) (command : Command X) (reply : Reply X) (t : SessionState X) → IsStrictSessionStep kind has_memory generations s command reply t → reply ≡ Exhausted → (is_refused generations s command ≡ true) × (t ≡ s)
  refused s command reply t step so =
      unless_so (IsStep kind has_memory generations s command reply t) reply s t (is_refused generations s command) step (λ made. (step_counts generations kind has_memory s command reply t made).other) (ap tells_exhausted so)

  -- no reply of a strict session tells of a wrap, whatever it shows
  pub StrictStepIsQuiet : (s : SessionState X) (command : Command X) (reply : Reply X) (t : SessionState X) → IsStrictSessionStep kind has_memory generations s command reply t → tells_of_wrap reply ≡ false
  StrictStepIsQuiet s command reply t step = by (is_refused generations s command) refl step
    where
      by : (b : Bool) → is_refused generations s command ≡ b → UnlessExhausted b (IsStep kind has_memory generations s command reply t) reply s t → tells_of_wrap reply ≡ false
      by true so refused = ap tells_of_wrap refused.0
      by false not_so step = (step_counts generations kind has_memory s command reply t step).told not_so

  -- a command is refused for want of a raise exactly where the session is to refuse it, and then nothing changes
  pub ExhaustedWhere : (s : SessionState X) (command : Command X) (reply : Reply X) (t : SessionState X) → IsStrictSessionStep kind has_memory generations s command reply t → (reply ≡ Exhausted) ↔ (is_refused generations s command ≡ true)
  ExhaustedWhere s command reply t step = (
    (λ so. (refused s command reply t step so).0),
    λ due. (subst (λ b. UnlessExhausted b (IsStep kind has_memory generations s command reply t) reply s t) due step).0,
  )

  pub ExhaustedKeeps : (s : SessionState X) (command : Command X) (reply : Reply X) (t : SessionState X) → IsStrictSessionStep kind has_memory generations s command reply t → reply ≡ Exhausted → t ≡ s
  ExhaustedKeeps s command reply t step so = (refused s command reply t step so).1

  -- its arena goes on by the model calls of the command, whatever the table is
  pub StrictStepGoesOn : (s : SessionState X) (command : Command X) (reply : Reply X) (t : SessionState X) → IsArenaOver kind s.arena → IsStrictSessionStep kind has_memory generations s command reply t → GoesOn kind generations s command (reply, t)
  StrictStepGoesOn s command reply t over step = by (is_refused generations s command) refl step
    where
      by : (b : Bool) → is_refused generations s command ≡ b → UnlessExhausted b (IsStep kind has_memory generations s command reply t) reply s t → GoesOn kind generations s command (reply, t)
      by true so refused =
          subst (λ r. GoesOn kind generations s command (r, t)) (sym refused.0)
          (goes_same kind generations s command Exhausted t over (ap (λ u. u.arena) refused.1)
          (no_calls s command (and_parts (wraps generations s.arena.counter) (raises_counter s command) so).1))
      by false not_so step = StepGoesOn kind generations has_memory s command reply t over step

  pub StrictRunIsQuiet : (s : SessionState X) (commands : List (Command X)) (replies : List (Reply X)) (t : SessionState X) → IsRun (IsStrictSessionStep kind has_memory generations) s commands replies t → TellsOfNoWrap replies
  StrictRunIsQuiet s [] [] t run = TellsOfNoWrap-nil
  StrictRunIsQuiet s [] (reply ∷ replies) t run = absurd run
  StrictRunIsQuiet s (command ∷ commands) [] t run = absurd run
  StrictRunIsQuiet s (command ∷ commands) (reply ∷ replies) t run = TellsOfNoWrap-first reply replies (StrictStepIsQuiet s command reply run.0 run.1) (StrictRunIsQuiet run.0 commands replies t run.2)

  -- so where generations count, its arena goes on by all model calls
  pub StrictStepKeepsHistory : generations.counting ≡ true → (s : SessionState X) (command : Command X) (reply : Reply X) (t : SessionState X) → IsArenaOver kind s.arena → IsStrictSessionStep kind has_memory generations s command reply t → Continues Fits s.arena (calls_of s command reply) t.arena
  StrictStepKeepsHistory counts s command reply t over step =
      (StrictStepGoesOn s command reply t over step).calls (counts, StrictStepIsQuiet s command reply t step)

  pub StrictRunKeepsHistory : generations.counting ≡ true → (s : SessionState X) (commands : List (Command X)) (replies : List (Reply X)) (t : SessionState X) → IsArenaOver kind s.arena → (run : IsRun (IsStrictSessionStep kind has_memory generations) s commands replies t)
      → Continues Fits s.arena (calls_in (IsStrictSessionStep kind has_memory generations) s commands replies t run) t.arena
  StrictRunKeepsHistory counts s commands replies t over run =
      StepsKeepHistories kind generations (IsStrictSessionStep kind has_memory generations) StrictStepGoesOn counts s commands replies t over run (StrictRunIsQuiet s commands replies t run)

  -- and it runs all commands
  pub StrictRunsAll : (s : SessionState X) (commands : List (Command X)) (replies : List (Reply X)) (t : SessionState X) → RunsToWrap (IsStrictSessionStep kind has_memory generations) s commands replies t → IsRun (IsStrictSessionStep kind has_memory generations) s commands replies t
  StrictRunsAll s commands replies t ran =
      let quiet = StrictRunIsQuiet s (take (length replies) commands) replies t ran.0 in
      subst (λ cs. IsRun (IsStrictSessionStep kind has_memory generations) s cs replies t) (whole_if_quiet commands replies quiet ran.1) ran.0

  -- where generations count, each step leaves the session sound, and so does a run, also one that was refused and did not begin
  module _ (counts : generations.counting ≡ true) (s : SessionState X) (over : IsArenaOver kind s.arena) (within : s.arena.counter ≤ generations.greatest) (sound : IsSound s) where
    strictly : StrictlySound kind has_memory generations counts s
    strictly = record { sound = sound_over kind s sound over; within = within }

    pub StrictStepKeepsSound : (command : Command X) (reply : Reply X) (t : SessionState X) → IsStrictSessionStep kind has_memory generations s command reply t → IsSound t
    StrictStepKeepsSound command reply t step = (StrictStepIsStores kind has_memory generations counts s command reply t strictly step).sound.sound.table

    pub StrictRunKeepsSound : {A E : Type 0} (commands : List (Command X)) (result : Result A E) (replies : A → List (Reply X)) (t : SessionState X) → IfOk result (λ a. RunsToWrap (IsStrictSessionStep kind has_memory generations) s commands (replies a) t) → OnErr result (t ≡ s) → IsSound t
    StrictRunKeepsSound commands (Ok a) replies t ran kept =
        (StrictRunIsStores kind has_memory generations counts s commands (replies a) t strictly (StrictRunsAll s commands (replies a) t ran)).sound.sound.table
    StrictRunKeepsSound commands (Err e) replies t ran kept = subst IsSound (sym kept) sound
