-- A session answers as the store that it shows.
use Rattle.std.proofs.Common.{◌≡◌, ◌⊎◌, ℕ, ◌+◌, ◌<◌, ◌≤◌, ◌==◌, Bool, true, false, Option, Some, None, is_some, if◌then◌else◌, cond, refl, sym, ap, subst, ◌∙◌, inl, inr, arith, true≢false, String}
use Rattle.std.specs.declared.alloc.Global.{Global}
use Rattle.std.specs.List.{list_any}
use Rattle.std.specs.Option.{option_map}
use Rattle.triple_arena_ptr.specs.Numbers.{Generations, raise, wraps}
use Rattle.triple_arena_ptr.specs.Pointers.{Pointer}
use Rattle.triple_arena_stack.specs.StackKind.{StackKind, IsOfKind}
use Rattle.triple_arena_traits.specs.ArenaState.{arena_len, capacity, new_arena}
use Rattle.triple_arena_traits.specs.Compression.{raised_if_any}
use Rattle.triple_arena_traits.specs.laws.WellFormedLaws.{IsWellFormed-empty}
use Rattle.triple_arena_commands.specs.declared.command.Command.{Command}
use Rattle.triple_arena_commands.specs.declared.command.Command.TheVariants.{Insert, InsertWithin, Get, Set, Remove, Invalidate, Clear, Compact, Len, Capacity, Reserve, Show}
use Rattle.triple_arena_commands.specs.declared.reply.Reply.{Reply}
use Rattle.triple_arena_commands.specs.declared.reply.Reply.TheVariants.{Given, Removed, Cleared, NoMemory, Compacted, Unresolved}
use Rattle.triple_arena_commands.specs.ReplyText.{tells_of_wrap}
use Rattle.triple_arena_commands.specs.NameStore.{Store, row_dangles, store_answer, ReservesRows, RowWantsMemory, IsStoreStep}
use Rattle.triple_arena_commands.specs.StoreRuns.{without_wrap}
use Rattle.triple_arena_commands.specs.laws.UnseenLaws.{without_wrap-quiet}
use Rattle.triple_arena_session.specs.SessionState.{SessionState, new_session, named}
use Rattle.triple_arena_session.specs.Compaction.{any_dangles, compacted}
use Rattle.triple_arena_session.specs.SessionRun.{refused_reply, show_reply, shown_text, wraps_if_any, with_room_for_name, reserve_answer, answer, WantsMemory, IsStep}
use Rattle.triple_arena_session.specs.Shown.{as_row, shown}
use Rattle.triple_arena_session.proofs.Rows.{row_count-shown}
use Rattle.triple_arena_session.proofs.StoreSteps.{row_named, good_link, Agrees, agrees, agrees_same, agrees_get, agrees_len, agrees_capacity, agrees_set, agrees_remove, agrees_invalidate, agrees_clear}
use Rattle.triple_arena_session.proofs.StoreInsertions.{refusal-shown, agrees_insert, agrees_within}
use Rattle.triple_arena_session.proofs.Reserving.{Reserved, reserved_answer, reserved_wanting}
use Rattle.triple_arena_session.proofs.Compacting.{shown-compacted, SoundOver-compacted}
use Rattle.triple_arena_session.proofs.Dangling.{dangling}
use Rattle.triple_arena_session.proofs.Soundness.{SoundOver, IsSound-empty}
use Rattle.triple_arena_session.proofs.Continuing.{raised_by_one, step_cases}

-- the commands that the store answers in one way, memory aside
abbrev pub has_answer : {X : Type 0} → Command X → Bool
has_answer (Reserve m) = false
has_answer Show = false
has_answer command = true

module _ {X : Type 0} (kind : StackKind) where
  -- a step of the store
  pub as_step : (s : Store X) (command : Command X) (reply : Reply X) (t : Store X) → has_answer command ≡ true → (reply, t) ≡ store_answer s command → IsStoreStep s command reply t
  as_step s (Reserve m) reply t has is = absurd (true≢false (sym has))
  as_step s Show reply t has is = absurd (true≢false (sym has))
  as_step s command NoMemory t has is = inl is
  as_step s command reply t has is = is

  as_wanting : (s : Store X) (command : Command X) → RowWantsMemory s command → IsStoreStep s command NoMemory s
  as_wanting s (Reserve m) wants = absurd wants
  as_wanting s Show wants = absurd wants
  as_wanting s command wants = inr (wants, refl)

  -- the reply to a command, bools aside, is one that the store that the session shows can give; and where it tells of no wrap,
  -- what the session shows then is what that store becomes, and the session stays sound
  pub record StepsAsStore (s : SessionState X) (command : Command X) (reply : Reply X) (t : SessionState X) : Type 0 where
    pub answers : (u : Store X) × IsStoreStep (shown s) command (without_wrap reply) u
    pub step : tells_of_wrap reply ≡ false → IsStoreStep (shown s) command reply (shown t)
    pub sound : tells_of_wrap reply ≡ false → SoundOver kind t

  from_agreement : (s : SessionState X) (command : Command X) (a : Reply X × SessionState X) → has_answer command ≡ true → Agrees kind s command a → StepsAsStore s command a.0 a.1
  from_agreement s command a has agreement =
      record {
        answers = ((store_answer (shown s) command).1, as_step (shown s) command (without_wrap a.0) (store_answer (shown s) command).1 has (ap (λ r. (r, (store_answer (shown s) command).1)) agreement.reply));
        step = λ quiet. as_step (shown s) command a.0 (shown a.1) has (ap (λ r. (r, shown a.1)) (sym (without_wrap-quiet a.0 quiet) ∙ agreement.reply) ∙ ap (λ u. ((store_answer (shown s) command).0, u)) (agreement.store quiet));
        sound = agreement.sound;
      }

  -- a step without a wrap
  quiet_step : (s : SessionState X) (command : Command X) (reply : Reply X) (t : SessionState X) → without_wrap reply ≡ reply → IsStoreStep (shown s) command reply (shown t) → SoundOver kind t → StepsAsStore s command reply t
  quiet_step s command reply t plain step sound =
      record {
        answers = (shown t, subst (λ r. IsStoreStep (shown s) command r (shown t)) (sym plain) step);
        step = λ quiet. step;
        sound = λ quiet. sound;
      }

  reserved_plain : (s : SessionState X) (m : ℕ) (reply : Reply X) (u : Store X) → ReservesRows (shown s) m reply u → without_wrap reply ≡ reply
  reserved_plain s m (Given name wrapped) u is = absurd is
  reserved_plain s m (Removed datum link wrapped) u is = absurd is
  reserved_plain s m (Cleared wrapped) u is = absurd is
  reserved_plain s m (Compacted wrapped) u is = absurd is
  reserved_plain s m reply u is = refl

  from_reserved : (s : SessionState X) (sound : SoundOver kind s) (m : ℕ) (a : Reply X × SessionState X) → Reserved kind s sound m a → StepsAsStore s (Reserve m) a.0 a.1
  from_reserved s sound m a is = quiet_step s (Reserve m) a.0 a.1 (reserved_plain s m a.0 (shown a.1) is.0) is.0 is.1

  -- a session with more room in its table shows the same
  more_room : (s : SessionState X) → SoundOver kind s → SoundOver kind (with_room_for_name s)
  more_room s sound =
      record {
        table =
            record {
              distinct = sound.table.distinct;
              has_live = sound.table.has_live;
              has_links = sound.table.has_links;
              by_now = sound.table.by_now;
              before = sound.table.before;
            };
        well_formed = sound.well_formed;
        of_kind = sound.of_kind;
      }

  -- where memory is refused, and nothing changes but the table's room
  refused_step : (s : SessionState X) (command : Command X) (t : SessionState X) → SoundOver kind s → (t ≡ s) ⊎ (t ≡ with_room_for_name s) → RowWantsMemory (shown s) command → StepsAsStore s command NoMemory t
  refused_step s command t sound (inl is) wants =
      subst (λ u. StepsAsStore s command NoMemory u) (sym is)
      (quiet_step s command NoMemory s refl (as_wanting (shown s) command wants) sound)
  refused_step s command t sound (inr is) wants =
      subst (λ u. StepsAsStore s command NoMemory u) (sym is)
      (quiet_step s command NoMemory (with_room_for_name s) refl (as_wanting (shown s) command wants) (more_room s sound))

  module _ (has_memory : ℕ → Type 0) where
    wanting_steps : (s : SessionState X) (command : Command X) (t : SessionState X) → SoundOver kind s → WantsMemory kind has_memory s command t → StepsAsStore s command NoMemory t
    wanting_steps s (Insert datum link) t sound wants =
        refused_step s (Insert datum link) t sound (either wants.2) (good_link s link ∙ wants.0, refusal-shown kind s sound ∙ ap (option_map refused_reply) wants.1)
      where
        either : {P Q R : Type 0} → (P × (t ≡ s)) ⊎ (Q × R × (t ≡ with_room_for_name s)) → (t ≡ s) ⊎ (t ≡ with_room_for_name s)
        either (inl table) = inl table.1
        either (inr arena) = inr arena.2
    wanting_steps s (InsertWithin datum link) t sound wants =
        refused_step s (InsertWithin datum link) t sound (inl wants.2.1) (good_link s link ∙ wants.0, subst (λ n. n < capacity s.arena) (sym (row_count-shown kind s sound)) wants.1)
    wanting_steps s (Invalidate name) t sound wants =
        refused_step s (Invalidate name) t sound (inl wants.1.1) (ap is_some (row_named s name) ∙ by (named s name) ∙ wants.0)
      where
        by : (o : Option (X × Option Pointer)) → is_some (option_map (as_row s.table) o) ≡ is_some o
        by None = refl
        by (Some node) = refl
    wanting_steps s Compact t sound wants =
        refused_step s Compact t sound (inl wants.1) (subst (λ n. 0 < n) (sym (row_count-shown kind s sound)) wants.0)
    wanting_steps s (Reserve m) t sound wants = from_reserved s sound m (NoMemory, t) (reserved_wanting kind s sound has_memory m t wants.0 wants.1)
    wanting_steps s command t sound wants = absurd wants

module _ {X : Type 0} (kind : StackKind) (generations : Generations) (counts : generations.counting ≡ true) (text : Option (String Global)) where
  agrees_compact : (s : SessionState X) → SoundOver kind s → Agrees kind s Compact (answer kind generations text s Compact)
  agrees_compact s sound = by (any_dangles s.arena) (dangling kind s sound)
    where
      wrapped : Bool
      wrapped = wraps_if_any kind generations s

      n : ℕ
      n = raised_if_any (raise generations) s.arena

      at_one : (b : Bool) → cond b false (wraps generations s.arena.counter) ≡ false → cond b s.arena.counter (raise generations s.arena.counter) ≡ cond b s.arena.counter (s.arena.counter + 1)
      at_one true quiet = refl
      at_one false quiet = raised_by_one generations s.arena.counter counts quiet

      no_lower : (b : Bool) → s.arena.counter ≤ cond b s.arena.counter (s.arena.counter + 1)
      no_lower true = omega arith
      no_lower false = omega arith

      rises : wrapped ≡ false → s.arena.counter ≤ n
      rises quiet = subst (λ m. s.arena.counter ≤ m) (sym (at_one (arena_len s.arena == 0) quiet)) (no_lower (arena_len s.arena == 0))

      by : (b : Bool) → list_any (row_dangles (shown s)) (shown s).rows ≡ b → Agrees kind s Compact (cond b (Unresolved, s) (Compacted wrapped, compacted s n))
      by true is = agrees_same kind s Compact Unresolved sound (ap (λ b. (if b then Unresolved else Compacted false, shown s)) is) refl
      by false is =
          agrees kind s Compact (Compacted wrapped) (compacted s n) (Compacted false) (shown s) (ap (λ b. (if b then Unresolved else Compacted false, shown s)) is) refl (λ quiet. (
            shown-compacted kind s n sound (rises quiet),
            SoundOver-compacted kind s n sound (rises quiet),
          ))

  agree : (s : SessionState X) (command : Command X) → SoundOver kind s → has_answer command ≡ true → Agrees kind s command (answer kind generations text s command)
  agree s (Insert datum link) sound has = agrees_insert kind generations text s datum link sound
  agree s (InsertWithin datum link) sound has = agrees_within kind generations text s datum link sound
  agree s (Get name) sound has = agrees_get kind generations counts text s name sound
  agree s (Set name datum link) sound has = agrees_set kind generations counts text s name datum link sound
  agree s (Remove name) sound has = agrees_remove kind generations counts text s name sound
  agree s (Invalidate name) sound has = agrees_invalidate kind generations counts text s name sound
  agree s Clear sound has = agrees_clear kind generations counts text s sound
  agree s Compact sound has = agrees_compact s sound
  agree s Len sound has = agrees_len kind generations counts text s sound
  agree s Capacity sound has = agrees_capacity kind generations counts text s sound
  agree s (Reserve m) sound has = absurd (true≢false (sym has))
  agree s Show sound has = absurd (true≢false (sym has))

  -- where no memory is refused
  answer_steps : (s : SessionState X) (command : Command X) → SoundOver kind s → StepsAsStore kind s command (answer kind generations text s command).0 (answer kind generations text s command).1
  answer_steps s (Reserve m) sound = from_reserved kind s sound m (reserve_answer kind generations s m) (reserved_answer kind s sound generations m)
  answer_steps s Show sound = by text
    where
      by : (o : Option (String Global)) → StepsAsStore kind s Show (show_reply o) s
      by None = quiet_step kind s Show NoMemory s refl (tt, refl) sound
      by (Some t) = quiet_step kind s Show (show_reply (Some t)) s refl (tt, refl) sound
  answer_steps s command sound = from_agreement kind s command (answer kind generations text s command) refl (agree s command sound refl)

module _ {X : Type 0} (kind : StackKind) (has_memory : ℕ → Type 0) (generations : Generations) (counts : generations.counting ≡ true) where
  -- each step of a sound session is one of the store that it shows
  pub StepIsStores : (s : SessionState X) (command : Command X) (reply : Reply X) (t : SessionState X) → SoundOver kind s → IsStep kind has_memory generations s command reply t → StepsAsStore kind s command reply t
  StepIsStores s command reply t sound step =
      elim (step_cases kind generations has_memory s command reply t step) [
        | inl is ↦
            let text = shown_text reply in
            subst (λ (a : Reply X × SessionState X). StepsAsStore kind s command a.0 a.1) (sym is) (answer_steps kind generations counts text s command sound)
        | inr wants ↦
            subst (λ r. StepsAsStore kind s command r t) (sym wants.0) (wanting_steps kind has_memory s command t sound wants.1)
      ]

-- a session that has given no name is sound, over an empty arena of its kind
pub SoundOver-new : {X : Type 0} (kind : StackKind) (room : ℕ) (limit : Option ℕ) (most counter : ℕ) → IsOfKind kind room limit → SoundOver {X = X} kind (new_session (new_arena room limit most counter))
SoundOver-new kind room limit most counter of_kind =
    let arena = new_arena room limit most counter in
    record { table = IsSound-empty arena refl; well_formed = IsWellFormed-empty room limit most counter; of_kind = of_kind }
