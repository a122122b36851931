-- What a step does to the counter of a session, and what its reply tells of it.
use Rattle.std.proofs.Common.{◌≡◌, ◌⊎◌, ℕ, ◌==◌, nat_lt, nat_le, ◌&&◌, ◌||◌, Bool, true, false, not, List, [], ◌∷◌, Option, Some, None, is_some, cond, refl, sym, ap, subst, ◌∙◌, inl, inr, arith, true≢false, String}
use Rattle.std.specs.declared.alloc.Global.{Global}
use Rattle.std.specs.Option.{option_and_then}
use Rattle.std.specs.List.{list_any}
use Rattle.std.proofs.lemmas.Bool.Decides.{nat_tests}
use Rattle.triple_arena_base.specs.declared.errors.ReallocationError.{ReallocationError}
use Rattle.triple_arena_base.specs.declared.errors.ReallocationError.TheVariants as refused
use Rattle.triple_arena_ptr.specs.Numbers.{Generations, raise, wraps}
use Rattle.triple_arena_ptr.specs.Pointers.{Pointer}
use Rattle.triple_arena_stack.specs.StackKind.{StackKind}
use Rattle.triple_arena_traits.specs.Items.{item}
use Rattle.triple_arena_traits.specs.Entries.{look_up}
use Rattle.triple_arena_traits.specs.ArenaState.{ArenaState, arena_len, capacity, with_value}
use Rattle.triple_arena_traits.specs.Insertion.{inserted, inserted_among}
use Rattle.triple_arena_stack.specs.Capacity.{next_capacity}
use Rattle.triple_arena_traits.specs.Reallocation.{with_room_for, grown, reallocated}
use Rattle.triple_arena_traits.specs.laws.WellFormedLaws.{counter-removed}
use Rattle.triple_arena_commands.specs.declared.command.Command.{Command}
use Rattle.triple_arena_commands.specs.declared.command.Command.TheVariants.{Insert, InsertWithin, Get, Set, Remove, Invalidate, Clear, Compact, Len, Capacity, Reserve, Show}
use Rattle.triple_arena_commands.specs.declared.reply.Reply.{Reply}
use Rattle.triple_arena_commands.specs.declared.reply.Reply.TheVariants.{Full, BeyondMaxCapacity, NoMemory, Nothing, Done, Invalid, Cleared, Compacted, Unresolved, BadName, Count, Exhausted}
use Rattle.triple_arena_commands.specs.Limits.{is_within}
use Rattle.triple_arena_commands.specs.ReplyText.{tells_of_wrap}
use Rattle.triple_arena_commands.specs.Runs.{IsRun}
use Rattle.triple_arena_commands.specs.StrictStore.{tells_success, tells_exhausted}
use Rattle.triple_arena_session.specs.SessionState.{SessionState, named, link_pointer}
use Rattle.triple_arena_session.specs.Compaction.{any_dangles, compacted}
use Rattle.triple_arena_session.specs.SessionRun.{refusal, get_reply, show_reply, shown_text, act_under, act_on, set_answer, insert_within_answer, insert_unless, insert_answer, remove_under, invalidate_under, with_tidied_arena, with_room_for_name, answer, WantsMemory, IsStep}
use Rattle.triple_arena_session.specs.StrictSession.{raises_counter}
use Rattle.triple_arena_session.proofs.Continuing.{step_cases}

-- the insertion of a value leaves the counter, and so does growth
counter-inserted : {T : Type 0} (free : List ℕ) (s : ArenaState T) (value : T) → (inserted_among free s value).counter ≡ s.counter
counter-inserted [] s value = refl
counter-inserted (i ∷ rest) s value = refl

counter-grown : {T : Type 0} (kind : StackKind) (s : ArenaState T) (value : T) → (inserted (grown kind s) value).counter ≡ s.counter
counter-grown kind s value = counter-inserted (grown kind s).free (grown kind s) value ∙ by (arena_len s == capacity s)
  where
    by : (b : Bool) → (cond b (with_room_for kind s (next_capacity (capacity s) s.limit s.greatest)) s).counter ≡ s.counter
    by true = refl
    by false = refl

-- something is there where the count is not 0
some_by : (n : ℕ) (b : Bool) → (n == 0) ≡ b → nat_lt 0 n ≡ not b
some_by n true e = grind (arith, nat_tests, e)
some_by n false e = grind (arith, nat_tests, e)

module _ {X : Type 0} (generations : Generations) where
  -- a reply and the session after it: a wrap is told only where one is due, the counter is raised where the command raises it
  -- and succeeds, and the refusal for want of a raise is not among the replies
  pub record Counts (s : SessionState X) (command : Command X) (a : Reply X × SessionState X) : Type 0 where
    pub told : (wraps generations s.arena.counter && raises_counter s command) ≡ false → tells_of_wrap a.0 ≡ false
    pub counter : a.1.arena.counter ≡ cond (raises_counter s command && tells_success a.0) (raise generations s.arena.counter) s.arena.counter
    pub other : tells_exhausted a.0 ≡ false

  -- nothing is raised
  kept : (s : SessionState X) (command : Command X) (r : Reply X) (t : SessionState X) → (raises_counter s command && tells_success r) ≡ false → tells_of_wrap r ≡ false → tells_exhausted r ≡ false → t.arena.counter ≡ s.arena.counter → Counts s command (r, t)
  kept s command r t none quiet other same =
      record {
        told = λ h. quiet;
        counter = same ∙ sym (ap (λ b. cond b (raise generations s.arena.counter) s.arena.counter) none);
        other = other;
      }

  -- the counter is raised
  raised : (s : SessionState X) (command : Command X) (r : Reply X) (t : SessionState X) → raises_counter s command ≡ true → tells_success r ≡ true → tells_of_wrap r ≡ wraps generations s.arena.counter → tells_exhausted r ≡ false → t.arena.counter ≡ raise generations s.arena.counter → Counts s command (r, t)
  raised s command r t due success tells other up =
      record {
        told = λ h. tells ∙ first (wraps generations s.arena.counter) (raises_counter s command) due h;
        counter = up ∙ sym (ap (λ b. cond (b && tells_success r) (raise generations s.arena.counter) s.arena.counter) due ∙ ap (λ b. cond b (raise generations s.arena.counter) s.arena.counter) success);
        other = other;
      }
    where
      first : (a b : Bool) → b ≡ true → (a && b) ≡ false → a ≡ false
      first true b due h = sym due ∙ h
      first false b due h = refl

  not_success : (b : Bool) (r : Reply X) → tells_success r ≡ false → (b && tells_success r) ≡ false
  not_success true r refusal = refusal
  not_success false r refusal = refl

  -- what is done under a name
  module _ (s : SessionState X) (command : Command X) (act : Pointer → X × Option Pointer → Reply X × SessionState X) (name : ℕ) where
    counts_at : ((p : Pointer) (node : X × Option Pointer) → named s name ≡ Some node → Counts s command (act p node)) → Counts s command (act_on s act (item s.table name))
    counts_at each = by (item s.table name) refl
      where
        none : Counts s command (Invalid, s)
        none = kept s command Invalid s (not_success (raises_counter s command) Invalid refl) refl refl refl

        under : (p : Pointer) (o : Option (X × Option Pointer)) → item s.table name ≡ Some p → look_up s.arena.slots p ≡ o → Counts s command (act_under s act p o)
        under p None at found = none
        under p (Some node) at found = each p node (ap (option_and_then (look_up s.arena.slots)) at ∙ found)

        by : (o : Option Pointer) → item s.table name ≡ o → Counts s command (act_on s act o)
        by None at = none
        by (Some p) at = under p (look_up s.arena.slots p) at refl

  module _ (kind : StackKind) (text : Option (String Global)) where
    counts : (s : SessionState X) (command : Command X) → Counts s command (answer kind generations text s command)
    counts s (Insert datum link) = by (link_pointer s.table link)
      where
        unless : (why : Option ReallocationError) (l : Option Pointer) → Counts s (Insert datum link) (insert_unless kind generations why s datum l)
        unless (Some refused.BeyondMaxCapacity) l = kept s (Insert datum link) BeyondMaxCapacity s refl refl refl refl
        unless (Some refused.AllocError) l = kept s (Insert datum link) NoMemory s refl refl refl refl
        unless None l = kept s (Insert datum link) (insert_unless kind generations None s datum l).0 (insert_unless kind generations None s datum l).1 refl refl refl (counter-grown kind s.arena (datum, l))

        by : (o : Option (Option Pointer)) → Counts s (Insert datum link) (insert_answer kind generations s datum o)
        by None = kept s (Insert datum link) BadName s refl refl refl refl
        by (Some l) = unless (refusal s.arena) l
    counts s (InsertWithin datum link) = by (link_pointer s.table link)
      where
        unless : (full : Bool) (l : Option Pointer) (given : Reply X × SessionState X) → Counts s (InsertWithin datum link) given → Counts s (InsertWithin datum link) (cond full (Full, s) given)
        unless true l given counted = kept s (InsertWithin datum link) Full s refl refl refl refl
        unless false l given counted = counted

        by : (o : Option (Option Pointer)) → Counts s (InsertWithin datum link) (insert_within_answer s datum o)
        by None = kept s (InsertWithin datum link) BadName s refl refl refl refl
        by (Some l) = unless (arena_len s.arena == capacity s.arena) l _ (kept s (InsertWithin datum link) _ _ refl refl refl (counter-inserted s.arena.free s.arena (datum, l)))
    counts s (Get name) = by (named s name)
      where
        by : (o : Option (X × Option Pointer)) → Counts s (Get name) (get_reply s o, s)
        by None = kept s (Get name) Nothing s refl refl refl refl
        by (Some node) = kept s (Get name) (get_reply s (Some node)) s refl refl refl refl
    counts s (Set name datum link) = by (link_pointer s.table link)
      where
        by : (o : Option (Option Pointer)) → Counts s (Set name datum link) (set_answer s name datum o)
        by None = kept s (Set name datum link) BadName s refl refl refl refl
        by (Some l) = counts_at s (Set name datum link) (λ p node. (Done, record s { arena = with_value s.arena p.0 (datum, l) })) name (λ p node live. kept s (Set name datum link) Done (record s { arena = with_value s.arena p.0 (datum, l) }) refl refl refl refl)
    counts s (Remove name) =
        counts_at s (Remove name) (remove_under kind generations s) name
        (λ p node live. raised s (Remove name) (remove_under kind generations s p node).0 (remove_under kind generations s p node).1 (ap is_some live) refl refl refl (counter-removed (raise generations) s.arena p.0))
    counts s (Invalidate name) =
        counts_at s (Invalidate name) (invalidate_under kind generations s) name
        (λ p node live. raised s (Invalidate name) (invalidate_under kind generations s p node).0 (invalidate_under kind generations s p node).1 (ap is_some live) refl refl refl refl)
    counts s Clear = by (arena_len s.arena == 0) refl
      where
        by : (b : Bool) → (arena_len s.arena == 0) ≡ b → Counts s Clear (Cleared (cond b false (wraps generations s.arena.counter)), record s { arena = record s.arena { slots = []; counter = cond b s.arena.counter (raise generations s.arena.counter); free = [] } })
        by true none = kept s Clear (Cleared false) (record s { arena = record s.arena { slots = []; counter = s.arena.counter; free = [] } }) (ap (λ b. b && true) (some_by (arena_len s.arena) true none)) refl refl refl
        by false some = raised s Clear (Cleared (wraps generations s.arena.counter)) (record s { arena = record s.arena { slots = []; counter = raise generations s.arena.counter; free = [] } }) (some_by (arena_len s.arena) false some) refl refl refl refl
    counts s Compact = dangling (any_dangles s.arena)
      where
        by : (b : Bool) → (arena_len s.arena == 0) ≡ b → Counts s Compact (Compacted (cond b false (wraps generations s.arena.counter)), compacted s (cond b s.arena.counter (raise generations s.arena.counter)))
        by true none = kept s Compact (Compacted false) (compacted s s.arena.counter) (ap (λ b. b && true) (some_by (arena_len s.arena) true none)) refl refl refl
        by false some = raised s Compact (Compacted (wraps generations s.arena.counter)) (compacted s (raise generations s.arena.counter)) (some_by (arena_len s.arena) false some) refl refl refl refl

        dangling : (b : Bool) → Counts s Compact (cond b (Unresolved, s) (Compacted (cond (arena_len s.arena == 0) false (wraps generations s.arena.counter)), compacted s (cond (arena_len s.arena == 0) s.arena.counter (raise generations s.arena.counter))))
        dangling true = kept s Compact Unresolved s (not_success (raises_counter s Compact) Unresolved refl) refl refl refl
        dangling false = by (arena_len s.arena == 0) refl
    counts s Len = kept s Len (Count (arena_len s.arena)) s refl refl refl refl
    counts s Capacity = kept s Capacity (Count (capacity s.arena)) s refl refl refl refl
    counts s (Reserve m) = by (nat_le m s.arena.greatest) (is_within s.arena.limit m)
      where
        by : (range within : Bool) → Counts s (Reserve m) (cond range (cond within (Done, record s { arena = reallocated kind s.arena m }) (BeyondMaxCapacity, with_tidied_arena s)) (NoMemory, with_tidied_arena s))
        by true true = kept s (Reserve m) Done (record s { arena = reallocated kind s.arena m }) refl refl refl refl
        by true false = kept s (Reserve m) BeyondMaxCapacity (with_tidied_arena s) refl refl refl refl
        by false within = kept s (Reserve m) NoMemory (with_tidied_arena s) refl refl refl refl
    counts s Show = by text
      where
        by : (o : Option (String Global)) → Counts s Show (show_reply o, s)
        by None = kept s Show NoMemory s refl refl refl refl
        by (Some t) = kept s Show (show_reply (Some t)) s refl refl refl refl

  -- where memory is refused, the counter stays
  module _ (kind : StackKind) (has_memory : ℕ → Type 0) where
    wanting : (s : SessionState X) (command : Command X) (t : SessionState X) → WantsMemory kind has_memory s command t → t.arena.counter ≡ s.arena.counter
    wanting s (Insert datum link) t wants = either wants.2
      where
        either : {P Q R : Type 0} → (P × (t ≡ s)) ⊎ (Q × R × (t ≡ with_room_for_name s)) → t.arena.counter ≡ s.arena.counter
        either (inl table) = ap (λ u. u.arena.counter) table.1
        either (inr arena) = ap (λ u. u.arena.counter) arena.2
    wanting s (InsertWithin datum link) t wants = ap (λ u. u.arena.counter) wants.2.1
    wanting s (Invalidate name) t wants = ap (λ u. u.arena.counter) wants.1.1
    wanting s Compact t wants = ap (λ u. u.arena.counter) wants.1
    wanting s (Reserve m) t wants = ap (λ u. u.arena.counter) wants.1
    wanting s command t wants = absurd wants

    -- the same of each step
    pub step_counts : (s : SessionState X) (command : Command X) (reply : Reply X) (t : SessionState X) → IsStep kind has_memory generations s command reply t → Counts s command (reply, t)
    step_counts s command reply t step =
        elim (step_cases kind generations has_memory s command reply t step) [
          | inl is ↦ subst (Counts s command) (sym is) (counts kind (shown_text reply) s command)
          | inr wants ↦ subst (λ r. Counts s command (r, t)) (sym wants.0) (kept s command NoMemory t (not_success (raises_counter s command) NoMemory refl) refl refl (wanting s command t wants.1))
        ]

    -- no step refuses for want of a raise, and no run of steps
    pub NeverExhausted : (s t : SessionState X) (command : Command X) → IsStep kind has_memory generations s command Exhausted t → ⊥
    NeverExhausted s t command step = true≢false (step_counts s command Exhausted t step).other

    pub RunNeverExhausted : (s t : SessionState X) (commands : List (Command X)) (replies : List (Reply X)) → IsRun (IsStep kind has_memory generations) s commands replies t → list_any tells_exhausted replies ≡ false
    RunNeverExhausted s t [] [] run = refl
    RunNeverExhausted s t [] (reply ∷ replies) run = absurd run
    RunNeverExhausted s t (command ∷ commands) [] run = absurd run
    RunNeverExhausted s t (command ∷ commands) (reply ∷ replies) run =
        ap (λ b. b || list_any tells_exhausted replies) (step_counts s command reply run.0 run.1).other ∙ RunNeverExhausted run.0 t commands replies run.2
