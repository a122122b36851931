-- A strict store of names answers as the store that it has, but where a command needs a raise and none is left.
use Rattle.std.proofs.Common.{◌≡◌, ◌↔◌, ◌+◌, ◌==◌, ◌||◌, Bool, true, false, List, [], ◌∷◌, Option, Some, None, if◌then◌else◌, refl, sym, ap, subst, ◌∙◌, true≢false}
use Rattle.std.specs.List.{list_any, list_all}
use Rattle.triple_arena_commands.specs.declared.command.Command.{Command}
use Rattle.triple_arena_commands.specs.declared.command.Command.TheVariants.{Insert, InsertWithin, Get, Set, Remove, Invalidate, Clear, Compact, Len, Capacity, Reserve, Show}
use Rattle.triple_arena_commands.specs.declared.reply.Reply.{Reply}
use Rattle.triple_arena_commands.specs.declared.reply.Reply.TheVariants.{Full, BeyondMaxCapacity, NoMemory, Found, Nothing, Done, Removed, Invalid, Cleared, Compacted, Unresolved, BadName, Count, Line, Exhausted}
use Rattle.triple_arena_commands.specs.Limits.{is_at_limit}
use Rattle.triple_arena_commands.specs.ReplyText.{tells_of_wrap}
use Rattle.triple_arena_commands.specs.Runs.{IsRun, TellsOfNoWrap}
use Rattle.triple_arena_commands.specs.laws.RunLaws.{TellsOfNoWrap-nil, TellsOfNoWrap-first}
use Rattle.triple_arena_commands.specs.NameStore.{NameRow, Store, row_count, row, is_good_link, with_row, give_row, grown_store, store_refusal, insert_row_unless, get_row_reply, act_on_row, row_dangles, store_answer, IsStoreStep}
use Rattle.triple_arena_commands.specs.StoreRuns.{is_named, is_no_memory, AnswersAsStore, replies_with_memory, without_compactions, replies_without_compactions}
use Rattle.triple_arena_commands.specs.laws.UnseenLaws.{without_wrap-quiet, CompactionIsUnseen}
use Rattle.triple_arena_commands.specs.StrictStore.{tells_exhausted, UnlessExhausted, StrictStore, used, is_spent, IsCountedStep, IsStrictStoreStep}

module _ {S X : Type 0} (Step : Type 0) (reply : Reply X) (s t : S) where
  -- where the reply is another, the step was made
  pub unless_not : (b : Bool) → UnlessExhausted b Step reply s t → tells_exhausted reply ≡ false → Step
  unless_not true refused other = absurd (true≢false (sym (ap tells_exhausted refused.0) ∙ other))
  unless_not false step other = step

  -- where a step is never answered so, that reply comes exactly where it is to come
  pub unless_so : (b : Bool) → UnlessExhausted b Step reply s t → (Step → tells_exhausted reply ≡ false) → tells_exhausted reply ≡ true → (b ≡ true) × (t ≡ s)
  unless_so true refused never so = (refl, refused.1)
  unless_so false step never so = absurd (true≢false (sym so ∙ never step))

  -- the refusal, and a step that isn't refused
  pub refused_where : (b : Bool) → b ≡ true → reply ≡ Exhausted → t ≡ s → UnlessExhausted b Step reply s t
  refused_where true so is same = (is, same)
  refused_where false so is same = absurd (true≢false (sym so))

  pub made_where : (b : Bool) → b ≡ false → Step → UnlessExhausted b Step reply s t
  made_where true not_so step = absurd (true≢false not_so)
  made_where false not_so step = step

either_false : (a b : Bool) → (a || b) ≡ false → (a ≡ false) × (b ≡ false)
either_false true b e = absurd (true≢false e)
either_false false b e = (refl, e)

-- a reply without a bool that is true, and not the refusal
pub record IsPlain {X : Type 0} (reply : Reply X) : Type 0 where
  pub quiet : tells_of_wrap reply ≡ false
  pub other : tells_exhausted reply ≡ false

module _ {X : Type 0} where
  pub plain : (reply : Reply X) → tells_of_wrap reply ≡ false → tells_exhausted reply ≡ false → IsPlain reply
  plain reply quiet other = record { quiet = quiet; other = other }

  if_plain : (b : Bool) (x y : Reply X × Store X) → IsPlain x.0 → IsPlain y.0 → IsPlain (if b then x else y).0
  if_plain true x y first second = first
  if_plain false x y first second = second

  acted_plain : (s : Store X) (o : Option (NameRow X)) (act : NameRow X → Reply X × Store X) → ((r : NameRow X) → IsPlain (act r).0) → IsPlain (act_on_row s o act).0
  acted_plain s None act each = plain Invalid refl refl
  acted_plain s (Some r) act each = each r

  insert_plain : (s : Store X) (full at_limit out : Bool) (r : NameRow X) → IsPlain (insert_row_unless (if full then (if at_limit then Some BeyondMaxCapacity else if out then Some NoMemory else None) else None) s r).0
  insert_plain s true true out r = plain BeyondMaxCapacity refl refl
  insert_plain s true false true r = plain NoMemory refl refl
  insert_plain s true false false r = plain (give_row (grown_store s) r).0 refl refl
  insert_plain s false at_limit out r = plain (give_row (grown_store s) r).0 refl refl

  pub store_plain : (s : Store X) (command : Command X) → IsPlain (store_answer s command).0
  store_plain s (Insert datum link) =
      if_plain (is_good_link s link) (insert_row_unless (store_refusal s) s (datum, link)) (BadName, s) (insert_plain s (row_count s == s.capacity) (is_at_limit s.limit s.capacity) (s.capacity == s.greatest) (datum, link)) (plain BadName refl refl)
  store_plain s (InsertWithin datum link) =
      if_plain (is_good_link s link) (if row_count s == s.capacity then (Full, s) else give_row s (datum, link)) (BadName, s)
      (if_plain (row_count s == s.capacity) (Full, s) (give_row s (datum, link)) (plain Full refl refl) (plain (give_row s (datum, link)).0 refl refl)) (plain BadName refl refl)
  store_plain s (Get name) = by (row s name)
    where
      by : (o : Option (NameRow X)) → IsPlain (get_row_reply o)
      by None = plain Nothing refl refl
      by (Some r) = plain (Found r.0 r.1) refl refl
  store_plain s (Set name datum link) =
      if_plain (is_good_link s link) (act_on_row s (row s name) (λ r. (Done, with_row s name (Some (datum, link))))) (BadName, s)
      (acted_plain s (row s name) (λ r. (Done, with_row s name (Some (datum, link)))) (λ r. plain Done refl refl)) (plain BadName refl refl)
  store_plain s (Remove name) = acted_plain s (row s name) (λ r. (Removed r.0 r.1 false, with_row s name None)) (λ r. plain (Removed r.0 r.1 false) refl refl)
  store_plain s (Invalidate name) = acted_plain s (row s name) (λ r. give_row (with_row s name None) r) (λ r. plain (give_row (with_row s name None) r).0 refl refl)
  store_plain s Clear = plain (Cleared false) refl refl
  store_plain s Compact = by (list_any (row_dangles s) s.rows)
    where
      by : (b : Bool) → IsPlain {X = X} (if b then Unresolved else Compacted false)
      by true = plain Unresolved refl refl
      by false = plain (Compacted false) refl refl
  store_plain s Len = plain (Count (row_count s)) refl refl
  store_plain s Capacity = plain (Count s.capacity) refl refl
  store_plain s (Reserve m) = plain NoMemory refl refl
  store_plain s Show = plain NoMemory refl refl

  -- no step of a store tells of a wrap, nor refuses for want of a raise
  pub step_plain : (s : Store X) (command : Command X) (reply : Reply X) (t : Store X) → IsStoreStep s command reply t → IsPlain reply
  step_plain s (Reserve m) Done t step = plain Done refl refl
  step_plain s (Reserve m) BeyondMaxCapacity t step = plain BeyondMaxCapacity refl refl
  step_plain s (Reserve m) NoMemory t step = plain NoMemory refl refl
  step_plain s (Reserve m) reply t step = absurd step
  step_plain s Show (Line text) t step = plain (Line text) refl refl
  step_plain s Show NoMemory t step = plain NoMemory refl refl
  step_plain s Show reply t step = absurd step.0
  step_plain s command NoMemory t step = plain NoMemory refl refl
  step_plain s command reply t step = subst IsPlain (sym (ap (λ (o : Reply X × Store X). o.0) step)) (store_plain s command)

  -- no reply of a strict store tells of a wrap
  pub StrictIsQuiet : (s t : StrictStore X) (command : Command X) (reply : Reply X) → IsStrictStoreStep s command reply t → tells_of_wrap reply ≡ false
  StrictIsQuiet s t command reply step = by (is_spent s command) step
    where
      by : (b : Bool) → UnlessExhausted b (IsCountedStep s command reply t) reply s t → tells_of_wrap reply ≡ false
      by true refused = ap tells_of_wrap refused.0
      by false step = (step_plain s.store command reply t.store step.0).quiet

  -- a step that isn't refused so is one of the store, and the raise that it used is left no more
  StrictIsCounted : (s t : StrictStore X) (command : Command X) (reply : Reply X) → IsStrictStoreStep s command reply t → tells_exhausted reply ≡ false → IsCountedStep s command reply t
  StrictIsCounted s t command reply step other = unless_not (IsCountedStep s command reply t) reply s t (is_spent s command) step other

  pub StrictIsStores : (s t : StrictStore X) (command : Command X) (reply : Reply X) → IsStrictStoreStep s command reply t → tells_exhausted reply ≡ false → IsStoreStep s.store command reply t.store
  StrictIsStores s t command reply step other = (StrictIsCounted s t command reply step other).0

  pub StrictCounts : (s t : StrictStore X) (command : Command X) (reply : Reply X) → IsStrictStoreStep s command reply t → tells_exhausted reply ≡ false → t.left + used s.store command reply ≡ s.left
  StrictCounts s t command reply step other = (StrictIsCounted s t command reply step other).1

  -- a command is refused so exactly where it needs a raise and none is left, and then nothing changes
  pub ExhaustedExactly : (s t : StrictStore X) (command : Command X) → IsStrictStoreStep s command Exhausted t ↔ ((is_spent s command ≡ true) × (t ≡ s))
  ExhaustedExactly s t command = (
    (λ step. unless_so (IsCountedStep s command Exhausted t) Exhausted s t (is_spent s command) step (λ made. (step_plain s.store command Exhausted t.store made.0).other) refl),
    λ h. refused_where (IsCountedStep s command Exhausted t) Exhausted s t (is_spent s command) h.0 refl h.1,
  )

  pub StrictRunIsQuiet : (s t : StrictStore X) (commands : List (Command X)) (replies : List (Reply X)) → IsRun IsStrictStoreStep s commands replies t → TellsOfNoWrap replies
  StrictRunIsQuiet s t [] [] run = TellsOfNoWrap-nil
  StrictRunIsQuiet s t [] (reply ∷ replies) run = absurd run
  StrictRunIsQuiet s t (command ∷ commands) [] run = absurd run
  StrictRunIsQuiet s t (command ∷ commands) (reply ∷ replies) run = TellsOfNoWrap-first reply replies (StrictIsQuiet s run.0 command reply run.1) (StrictRunIsQuiet run.0 t commands replies run.2)

  -- a run without this refusal is one of the store
  pub StrictRunAnswers : (s t : StrictStore X) (commands : List (Command X)) (replies : List (Reply X)) → IsRun IsStrictStoreStep s commands replies t → list_any tells_exhausted replies ≡ false → AnswersAsStore s.store commands replies
  StrictRunAnswers s t [] [] run other = tt
  StrictRunAnswers s t [] (reply ∷ replies) run other = absurd run
  StrictRunAnswers s t (command ∷ commands) [] run other = absurd run
  StrictRunAnswers s t (command ∷ commands) (reply ∷ replies) run other =
      let others = either_false (tells_exhausted reply) (list_any tells_exhausted replies) other in
      let step : IsStoreStep s.store command reply run.0.store = StrictIsStores s run.0 command reply run.1 others.0 in
      (run.0.store, subst (λ r. IsStoreStep s.store command r run.0.store) (sym (without_wrap-quiet reply (StrictIsQuiet s run.0 command reply run.1))) step, StrictRunAnswers run.0 t commands replies run.2 others.1)

  -- compaction is unseen by whoever asks a strict store, as long as neither this refusal nor a want of memory comes
  pub StrictIsUnseen : (s t : StrictStore X) (commands : List (Command X)) (replies : List (Reply X)) → IsRun IsStrictStoreStep s commands replies t → list_all is_named commands ≡ true → list_any is_no_memory replies ≡ false → list_any tells_exhausted replies ≡ false
      → replies_without_compactions commands replies ≡ replies_with_memory s.store (without_compactions commands)
  StrictIsUnseen s t commands replies run named enough other = CompactionIsUnseen s.store commands replies (StrictRunAnswers s t commands replies run other) named enough
