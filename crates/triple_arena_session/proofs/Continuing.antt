-- The arena of a session goes on by the model calls of its commands, whatever the table of the session is.
use Rattle.std.proofs.Common.{◌≡◌, ◌≢◌, ◌⊎◌, ℕ, ◌+◌, ◌*◌, ◌<◌, ◌≤◌, ◌==◌, ◌&&◌, nat_le, Bool, true, false, List, [], ◌∷◌, map, min, Option, Some, None, is_some, if◌then◌else◌, cond, refl, sym, ap, subst, ◌∙◌, inl, inr, arith, true≢false, String}
use Rattle.std.specs.declared.alloc.Global.{Global}
use Rattle.std.proofs.lemmas.Bool.{leb-false, eqb-true, eqb-false}
use Rattle.std.proofs.lemmas.List.{length-map}
use Rattle.std.proofs.lemmas.List.Elements.{All-head, All-tail}
use Rattle.std.proofs.lemmas.Option.{same_Some}
use Rattle.triple_arena_base.specs.declared.errors.ReallocationError.{ReallocationError}
use Rattle.triple_arena_base.specs.declared.errors.ReallocationError.TheVariants as refused
use Rattle.triple_arena_ptr.specs.Numbers.{Generations, raise, wraps, first_generation}
use Rattle.triple_arena_ptr.specs.Pointers.{Pointer}
use Rattle.triple_arena_stack.specs.StackKind.{StackKind, IsOfKind, reallocated_room}
use Rattle.triple_arena_stack.specs.StackKind.StackKind.{heap, limited, fixed, array}
use Rattle.triple_arena_stack.specs.Capacity.{stack_capacity, next_capacity}
use Rattle.triple_arena_traits.specs.Items.{item}
use Rattle.triple_arena_traits.specs.Entries.{look_up}
use Rattle.triple_arena_traits.specs.ArenaState.{ArenaState, entry, arena_len, capacity, slot_count, with_value, IsWellFormed}
use Rattle.triple_arena_traits.specs.Insertion.{next_pointer, inserted}
use Rattle.triple_arena_traits.specs.FreeList.{tidied}
use Rattle.triple_arena_traits.specs.Reallocation.{grown, with_room_for, reallocated}
use Rattle.triple_arena_traits.specs.Ending.{removed, invalidated, cleared}
use Rattle.triple_arena_traits.specs.Walks.{keys, values}
use Rattle.triple_arena_traits.specs.Compression.{compressed, raised_if_any}
use Rattle.triple_arena_traits.specs.laws.CompressionLaws.{length-values}
use Rattle.triple_arena_traits.specs.laws.EntryLaws.{doubled, slots-tidied}
use Rattle.triple_arena_traits.specs.Histories.{insertion, removal, invalidation, compression, CountsUp, Continues, Fits}
use Rattle.triple_arena_traits.specs.laws.WellFormedLaws.{IsWellFormed-inserted, kept-inserted, len_within, room-removed, limit-removed}
use Rattle.triple_arena_traits.specs.laws.StepLaws.{IsWellFormed-tidied, IsWellFormed-compressed, with_value_stays, invalidated_stays, removed_stays, cleared_stays, reallocated_stays}
use Rattle.triple_arena_traits.specs.laws.HistoryLaws.{Continues-none, Continues-kept, Continues-written, Continues-inserted, Continues-removed, Continues-invalidated, Continues-cleared, Continues-compressed, Continues-resized, Continues-append}
use Rattle.triple_arena_commands.specs.declared.command.Command.{Command}
use Rattle.triple_arena_commands.specs.declared.command.Command.TheVariants.{Insert, InsertWithin, Get, Set, Remove, Invalidate, Clear, Compact, Len, Capacity, Reserve, Show}
use Rattle.triple_arena_commands.specs.declared.reply.Reply.{Reply}
use Rattle.triple_arena_commands.specs.declared.reply.Reply.TheVariants.{Full, BeyondMaxCapacity, NoMemory, Nothing, Done, Invalid, Compacted, Unresolved, BadName, Count}
use Rattle.triple_arena_commands.specs.Limits.{is_at_limit, is_within}
use Rattle.triple_arena_commands.specs.ReplyText.{tells_of_wrap}
use Rattle.triple_arena_commands.specs.Runs.{IsRun}
use Rattle.triple_arena_session.specs.SessionState.{SessionState, named, link_pointer}
use Rattle.triple_arena_session.specs.Compaction.{relinked, any_dangles, compacted}
use Rattle.triple_arena_session.specs.SessionRun.{refusal, get_reply, show_reply, shown_text, act_under, act_on, set_answer, insert_within_answer, insert_unless, insert_answer, remove_under, invalidate_under, wraps_if_any, give, with_tidied_arena, with_room_for_name, answer, WantsMemory, IsStep}
use Rattle.triple_arena_session.specs.SessionCalls.{call_at, calls_of, calls_in, KeepsHistories}
use Rattle.triple_arena_session.specs.Shown.{IsArenaOver}
use Rattle.triple_arena_session.proofs.Rows.{entry_found}

-- an arena of a fixed room is at its limit or has all its indexes
fixed_full : (room : ℕ) (limit : Option ℕ) (greatest : ℕ) → limit ≡ Some room → is_at_limit limit (min (stack_capacity room limit) greatest) ≡ false → min (stack_capacity room limit) greatest ≢ greatest → ⊥
fixed_full room None greatest is below past = absurd (cc)
fixed_full room (Some most) greatest is below past =
    let same : most ≡ room = same_Some most room is in
    let under : min (min room most) greatest < most = leb-false most _ below in
    omega (arith, same, under, past)

-- a full arena that can take one more entry grows past its capacity, and to just the next capacity
grows : (kind : StackKind) (room n w : ℕ) (limit : Option ℕ) (greatest : ℕ) → IsOfKind kind room limit → n ≤ min (stack_capacity room limit) greatest
    → is_at_limit limit (min (stack_capacity room limit) greatest) ≡ false → min (stack_capacity room limit) greatest ≢ greatest → min (stack_capacity room limit) greatest < w
    → (min (stack_capacity (reallocated_room kind room n (min (stack_capacity w limit) greatest)) limit) greatest ≡ min (stack_capacity w limit) greatest)
    × (min (stack_capacity room limit) greatest < min (stack_capacity w limit) greatest)
grows heap room n w None greatest is fits below past more = (omega arith, omega arith)
grows heap room n w (Some most) greatest is fits below past more = absurd (cc)
grows limited room n w None greatest is fits below past more = absurd (let no = is.1 in cc)
grows limited room n w (Some most) greatest is fits below past more =
    let under : min (min room most) greatest < most = leb-false most _ below in
    (omega arith, omega arith)
grows fixed room n w limit greatest is fits below past more = absurd (fixed_full room limit greatest is below past)
grows (array places) room n w limit greatest is fits below past more = absurd (fixed_full room limit greatest (is.1 ∙ ap Some (sym is.0)) below past)

-- a reallocated room is one that the kind has
pub kind_kept : (kind : StackKind) (room n m : ℕ) (limit : Option ℕ) → IsOfKind kind room limit → IsOfKind kind (reallocated_room kind room n m) limit
kind_kept heap room n m limit is = is
kind_kept limited room n m limit is = is
kind_kept fixed room n m limit is = is
kind_kept (array places) room n m limit is = is

not_refused : (a b : Bool) → cond a (Some refused.BeyondMaxCapacity) (cond b (Some refused.AllocError) None) ≡ None → (a ≡ false) × (b ≡ false)
not_refused true b e = absurd (cc)
not_refused false true e = absurd (cc)
not_refused false false e = (refl, refl)

-- where the count does not begin anew, the raised counter is the next number
pub raised_by_one : (generations : Generations) (n : ℕ) → generations.counting ≡ true → wraps generations n ≡ false → raise generations n ≡ n + 1
raised_by_one generations n counts quiet = by generations.counting counts quiet
  where
    by : (counting : Bool) → counting ≡ true → (counting && (n == generations.greatest)) ≡ false → cond counting (if n == generations.greatest then 2 else n + 1) n ≡ n + 1
    by true counts quiet = ap {B = ℕ} (λ b. if b then 2 else n + 1) quiet
    by false counts quiet = absurd (true≢false (sym counts))

-- what a command leaves of an arena over a stack is as every such arena is
module _ {T : Type 0} (kind : StackKind) (s : ArenaState T) (over : IsArenaOver kind s) where
  pub over_written : (i : ℕ) (value : T) → IsArenaOver kind (with_value s i value)
  over_written i value = (with_value_stays s i value over.0, over.1)

  pub over_removed : (raise : ℕ → ℕ) (i : ℕ) (e : ℕ × T) → entry s i ≡ Some e → IsArenaOver kind (removed raise s i)
  over_removed raise i e stands =
      (removed_stays raise s i over.0 (ap is_some stands), rw (room-removed raise s i, limit-removed raise s i) over.1)

  pub over_invalidated : (raise : ℕ → ℕ) (i : ℕ) → IsArenaOver kind (invalidated raise s i)
  over_invalidated raise i = (invalidated_stays raise s i over.0, over.1)

  pub over_cleared : (raise : ℕ → ℕ) → IsArenaOver kind (cleared raise s)
  over_cleared raise = (cleared_stays raise s, over.1)

  pub over_compressed : (counter : ℕ) (f : T → T) → IsArenaOver kind (compressed s counter (map f (values s.slots)))
  over_compressed counter f =
      let many = length-map (values s.slots) f ∙ length-values s.slots in
      (IsWellFormed-compressed s counter (map f (values s.slots)) (omega (arith, many, len_within s over.0)), over.1)

  pub over_tidied : IsArenaOver kind (tidied s)
  over_tidied = (IsWellFormed-tidied s over.0, over.1)

  pub over_reallocated : (m : ℕ) → IsArenaOver kind (reallocated kind s m)
  over_reallocated m = (reallocated_stays kind s m over.0, kind_kept kind s.room (slot_count (tidied s)) m s.limit over.1)

  -- the arena with this room
  abbrev pub with_room : ℕ → ArenaState T
  with_room room = record s { room = room }

  -- the room of a full arena that can take one more entry, once it has grown: it has just the next capacity
  pub grown_room : (arena_len s == capacity s) ≡ true → refusal s ≡ None
      → let next = next_capacity (capacity s) s.limit s.greatest in
      let room = reallocated_room kind s.room (slot_count s) next in
      (capacity (with_room room) ≡ next) × IsWellFormed (with_room room) × IsOfKind kind room s.limit × (arena_len s < capacity (with_room room))
  grown_room full free =
      let why = not_refused (is_at_limit s.limit (capacity s)) (capacity s == s.greatest) (sym (ap (λ b. cond b (cond (is_at_limit s.limit (capacity s)) (Some refused.BeyondMaxCapacity) (cond (capacity s == s.greatest) (Some refused.AllocError) None)) None) full) ∙ free) in
      let g = grows kind s.room (slot_count s) (cond (capacity s == 0) 4 (capacity s * 2)) s.limit s.greatest over.1 over.0.fits why.0 (eqb-false _ _ why.1) (doubled (capacity s)) in
      let next : ℕ = next_capacity (capacity s) s.limit s.greatest in
      let room : ℕ = reallocated_room kind s.room (slot_count s) next in
      let to : capacity (with_room room) ≡ next = g.0 in
      let count : arena_len s ≡ capacity s = eqb-true (arena_len s) (capacity s) full in (
        to,
        record { free_once = over.0.free_once; total = over.0.total; fits = omega (arith, to, g.1, over.0.fits) },
        kind_kept kind s.room (slot_count s) next s.limit over.1,
        omega (arith, to, g.1, count),
      )

  module _ (value : T) where
    -- an insertion left this
    abbrev pub Inserts : ArenaState T → Type 0
    Inserts t = IsArenaOver kind t × Continues Fits s (insertion (next_pointer s) ∷ []) t

    -- insertion where there is a place in this room
    pub inserts_in : (room : ℕ) → IsWellFormed (with_room room) → IsOfKind kind room s.limit → arena_len s < capacity (with_room room) → Inserts (inserted (with_room room) value)
    inserts_in room well of_kind place_left =
        let a : ArenaState T = with_room room in
        let kept = kept-inserted a value in (
          (IsWellFormed-inserted a value well place_left, rw (kept.1, kept.2) of_kind),
          Continues-append s a (inserted a value) [] (insertion (next_pointer s) ∷ []) (Continues-kept s a (λ i. refl) refl)
              (Continues-inserted a (inserted a value) (next_pointer s) value well refl refl),
        )

    -- where the arena has a place
    pub inserts_within : (arena_len s == capacity s) ≡ false → Inserts (inserted s value)
    inserts_within is =
        inserts_in s.room over.0 over.1 (omega (arith, len_within s over.0, eqb-false (arena_len s) (capacity s) is))

    -- and where it can take one more entry
    pub inserts_grown : refusal s ≡ None → Inserts (inserted (grown kind s) value)
    inserts_grown free = by (arena_len s == capacity s) refl
      where
        by : (b : Bool) → (arena_len s == capacity s) ≡ b → Inserts (inserted (cond b (with_room_for kind s (next_capacity (capacity s) s.limit s.greatest)) s) value)
        by false is = inserts_within is
        by true is =
            let g = grown_room is free in
            inserts_in (reallocated_room kind s.room (slot_count s) (next_capacity (capacity s) s.limit s.greatest)) g.1 g.2 g.3

-- what stays goes on by no call
pub unmoved : {T : Type 0} (s : ArenaState T) → Continues Fits s [] s
unmoved s = Continues-none s s (λ p. refl) (omega arith)

module _ {X : Type 0} (kind : StackKind) (generations : Generations) where
  -- the arena after a command is as every arena over the stack is; and where generations count, and the reply tells of no
  -- wrap, it has gone on by the model calls of the command
  pub record GoesOn (s : SessionState X) (command : Command X) (a : Reply X × SessionState X) : Type 0 where
    pub over : IsArenaOver kind a.1.arena
    pub calls : CountsUp generations (tells_of_wrap a.0) → Continues Fits s.arena (calls_of s command a.0) a.1.arena

  -- the arena has not changed
  pub goes_same : (s : SessionState X) (command : Command X) (reply : Reply X) (t : SessionState X) → IsArenaOver kind s.arena → t.arena ≡ s.arena → calls_of s command reply ≡ [] → GoesOn s command (reply, t)
  goes_same s command reply t over same none =
      record {
        over = subst (IsArenaOver kind) (sym same) over;
        calls = λ up. subst (Continues Fits s.arena (calls_of s command reply)) (sym same) (subst (λ calls. Continues Fits s.arena calls s.arena) (sym none) (unmoved s.arena));
      }

  -- what is done under a name
  goes_at : (s : SessionState X) (command : Command X) (name : ℕ) (act : Pointer → X × Option Pointer → Reply X × SessionState X) → IsArenaOver kind s.arena → calls_of s command Invalid ≡ []
      → ((p : Pointer) (node : X × Option Pointer) → item s.table name ≡ Some p → look_up s.arena.slots p ≡ Some node → GoesOn s command (act p node))
      → GoesOn s command (act_on s act (item s.table name))
  goes_at s command name act over none acts = by (item s.table name) refl
    where
      under : (p : Pointer) (o : Option (X × Option Pointer)) → item s.table name ≡ Some p → look_up s.arena.slots p ≡ o → GoesOn s command (act_under s act p o)
      under p None at found = goes_same s command Invalid s over refl none
      under p (Some node) at found = acts p node at found

      by : (o : Option Pointer) → item s.table name ≡ o → GoesOn s command (act_on s act o)
      by None at = goes_same s command Invalid s over refl none
      by (Some p) at = under p (look_up s.arena.slots p) at refl

module _ {X : Type 0} (kind : StackKind) (generations : Generations) where
  abbrev Goes : SessionState X → Command X → Reply X × SessionState X → Type 0
  Goes s command a = GoesOn kind generations s command a

  same : (s : SessionState X) (command : Command X) (reply : Reply X) → IsArenaOver kind s.arena → calls_of s command reply ≡ [] → Goes s command (reply, s)
  same s command reply over none = goes_same kind generations s command reply s over refl none

  -- the free list, tidied
  tidied_goes : (s : SessionState X) (m : ℕ) (reply : Reply X) → IsArenaOver kind s.arena → Goes s (Reserve m) (reply, with_tidied_arena s)
  tidied_goes s m reply over =
      record {
        over = over_tidied kind s.arena over;
        calls = λ up. Continues-resized s.arena (tidied s.arena) (slots-tidied s.arena (tidied s.arena) refl) refl;
      }

  compacts : (s : SessionState X) → IsArenaOver kind s.arena → Goes s Compact (Compacted (wraps_if_any kind generations s), compacted s (raised_if_any (raise generations) s.arena))
  compacts s over =
      record {
        over = over_compressed kind s.arena over n (relinked s.arena n);
        calls = λ up. subst (λ m. Continues Fits s.arena (compression (keys s.arena.slots) (keys (compacted s m).arena.slots) ∷ []) (compacted s n).arena) (at_one up (arena_len s.arena == 0) up.1)
            (Continues-compressed generations s.arena (compacted s n).arena (first_generation generations) false (map (relinked s.arena n) (values s.arena.slots)) refl up
            (length-map (values s.arena.slots) (relinked s.arena n) ∙ length-values s.arena.slots) refl);
      }
    where
      n : ℕ
      n = raised_if_any (raise generations) s.arena

      at_one : CountsUp generations (wraps_if_any kind generations s) → (b : Bool) → cond b false (wraps generations s.arena.counter) ≡ false → cond b s.arena.counter (raise generations s.arena.counter) ≡ cond b s.arena.counter (s.arena.counter + 1)
      at_one up true quiet = refl
      at_one up false quiet = raised_by_one generations s.arena.counter up.0 quiet

  -- where no memory is refused
  goes : (text : Option (String Global)) (s : SessionState X) (command : Command X) → IsArenaOver kind s.arena → Goes s command (answer kind generations text s command)
  goes text s (Insert datum link) over = by (link_pointer s.table link)
    where
      unless : (why : Option ReallocationError) (l : Option Pointer) → refusal s.arena ≡ why → Goes s (Insert datum link) (insert_unless kind generations why s datum l)
      unless (Some refused.BeyondMaxCapacity) l is = same s (Insert datum link) BeyondMaxCapacity over refl
      unless (Some refused.AllocError) l is = same s (Insert datum link) NoMemory over refl
      unless None l is = let t = inserts_grown kind s.arena over (datum, l) is in record { over = t.0; calls = λ up. t.1 }

      by : (o : Option (Option Pointer)) → Goes s (Insert datum link) (insert_answer kind generations s datum o)
      by None = same s (Insert datum link) BadName over refl
      by (Some l) = unless (refusal s.arena) l refl
  goes text s (InsertWithin datum link) over = by (link_pointer s.table link)
    where
      unless : (full : Bool) (l : Option Pointer) → (arena_len s.arena == capacity s.arena) ≡ full → Goes s (InsertWithin datum link) (cond full (Full, s) (give s (next_pointer s.arena) false (inserted s.arena (datum, l))))
      unless true l is = same s (InsertWithin datum link) Full over refl
      unless false l is = let t = inserts_within kind s.arena over (datum, l) is in record { over = t.0; calls = λ up. t.1 }

      by : (o : Option (Option Pointer)) → Goes s (InsertWithin datum link) (insert_within_answer s datum o)
      by None = same s (InsertWithin datum link) BadName over refl
      by (Some l) = unless (arena_len s.arena == capacity s.arena) l refl
  goes text s (Get name) over = by (named s name)
    where
      by : (o : Option (X × Option Pointer)) → Goes s (Get name) (get_reply s o, s)
      by None = same s (Get name) Nothing over refl
      by (Some node) = same s (Get name) (get_reply s (Some node)) over refl
  goes text s (Set name datum link) over = by (link_pointer s.table link)
    where
      by : (o : Option (Option Pointer)) → Goes s (Set name datum link) (set_answer s name datum o)
      by None = same s (Set name datum link) BadName over refl
      by (Some l) =
          goes_at kind generations s (Set name datum link) name (λ p node. (Done, record s { arena = with_value s.arena p.0 (datum, l) })) over refl
          (λ p node at found. record { over = over_written kind s.arena over p.0 (datum, l); calls = λ up. Continues-written s.arena p.0 (datum, l) })
  goes text s (Remove name) over =
      goes_at kind generations s (Remove name) name (remove_under kind generations s) over refl
      (λ p node at found.
      let t : ArenaState (X × Option Pointer) = removed (raise generations) s.arena p.0 in
      record {
        over = over_removed kind s.arena over (raise generations) p.0 (p.1, node) (entry_found s.arena p node found);
        calls = λ up. subst (λ o. Continues Fits s.arena (call_at removal o) t) (sym at) (Continues-removed generations s.arena t p up (ap is_some found) refl);
      })
  goes text s (Invalidate name) over =
      goes_at kind generations s (Invalidate name) name (invalidate_under kind generations s) over refl
      (λ p node at found.
      let t : ArenaState (X × Option Pointer) = invalidated (raise generations) s.arena p.0 in
      record {
        over = over_invalidated kind s.arena over (raise generations) p.0;
        calls = λ up. subst (λ o. Continues Fits s.arena (call_at (λ q. invalidation q (q.0, s.arena.counter + 1)) o) t) (sym at)
            (subst (λ n. Continues Fits s.arena (invalidation p (p.0, n) ∷ []) t) (raised_by_one generations s.arena.counter up.0 up.1)
            (Continues-invalidated generations s.arena t p up (ap is_some found) refl));
      })
  goes text s Clear over =
      record {
        over = over_cleared kind s.arena over (raise generations);
        calls = λ up. Continues-cleared generations s.arena (cleared (raise generations) s.arena) up refl;
      }
  goes text s Compact over = by (any_dangles s.arena)
    where
      by : (b : Bool) → Goes s Compact (cond b (Unresolved, s) (Compacted (wraps_if_any kind generations s), compacted s (raised_if_any (raise generations) s.arena)))
      by true = same s Compact Unresolved over refl
      by false = compacts s over
  goes text s Len over = same s Len (Count (arena_len s.arena)) over refl
  goes text s Capacity over = same s Capacity (Count (capacity s.arena)) over refl
  goes text s (Reserve m) over = by (nat_le m s.arena.greatest) (is_within s.arena.limit m)
    where
      by : (range within : Bool) → Goes s (Reserve m) (cond range (cond within (Done, record s { arena = reallocated kind s.arena m }) (BeyondMaxCapacity, with_tidied_arena s)) (NoMemory, with_tidied_arena s))
      by true true =
          record {
            over = over_reallocated kind s.arena over m;
            calls = λ up. Continues-resized s.arena (reallocated kind s.arena m) (slots-tidied s.arena (tidied s.arena) refl) refl;
          }
      by true false = tidied_goes s m BeyondMaxCapacity over
      by false within = tidied_goes s m NoMemory over
  goes text s Show over = by text
    where
      by : (o : Option (String Global)) → Goes s Show (show_reply o, s)
      by None = same s Show NoMemory over refl
      by (Some t) = same s Show (show_reply (Some t)) over refl

  module _ (has_memory : ℕ → Type 0) where
    -- and where it is
    goes_wanting : (s : SessionState X) (command : Command X) (t : SessionState X) → IsArenaOver kind s.arena → WantsMemory kind has_memory s command t → Goes s command (NoMemory, t)
    goes_wanting s (Insert datum link) t over wants = goes_same kind generations s (Insert datum link) NoMemory t over (either wants.2) refl
      where
        either : {P Q R : Type 0} → (P × (t ≡ s)) ⊎ (Q × R × (t ≡ with_room_for_name s)) → t.arena ≡ s.arena
        either (inl table) = ap (λ u. u.arena) table.1
        either (inr arena) = ap (λ u. u.arena) arena.2
    goes_wanting s (InsertWithin datum link) t over wants = goes_same kind generations s (InsertWithin datum link) NoMemory t over (ap (λ u. u.arena) wants.2.1) refl
    goes_wanting s (Invalidate name) t over wants = goes_same kind generations s (Invalidate name) NoMemory t over (ap (λ u. u.arena) wants.1.1) refl
    goes_wanting s Compact t over wants = goes_same kind generations s Compact NoMemory t over (ap (λ u. u.arena) wants.1) refl
    goes_wanting s (Reserve m) t over wants = subst (λ u. Goes s (Reserve m) (NoMemory, u)) (sym wants.1) (tidied_goes s m NoMemory over)
    goes_wanting s command t over wants = absurd wants

    -- a step is the answer, or a refusal for want of memory
    pub step_cases : (s : SessionState X) (command : Command X) (reply : Reply X) (t : SessionState X) → IsStep kind has_memory generations s command reply t
        → ((reply, t) ≡ answer kind generations (shown_text reply) s command) ⊎ ((reply ≡ NoMemory) × WantsMemory kind has_memory s command t)
    step_cases s command NoMemory t (inl is) = inl is
    step_cases s command NoMemory t (inr wants) = inr (refl, wants)
    step_cases s command reply t is = inl is

    -- so goes the arena of each step
    pub StepGoesOn : (s : SessionState X) (command : Command X) (reply : Reply X) (t : SessionState X) → IsArenaOver kind s.arena → IsStep kind has_memory generations s command reply t → GoesOn kind generations s command (reply, t)
    StepGoesOn s command reply t over step =
        elim (step_cases s command reply t step) [
          | inl is ↦ subst (Goes s command) (sym is) (goes (shown_text reply) s command over)
          | inr wants ↦ subst (λ r. Goes s command (r, t)) (sym wants.0) (goes_wanting s command t over wants.1)
        ]

-- where the arena goes on by each step, it does so by each list of steps
module _ {X : Type 0} (kind : StackKind) (generations : Generations) (Step : SessionState X → Command X → Reply X → SessionState X → Type 0) (goes : (s : SessionState X) (command : Command X) (reply : Reply X) (t : SessionState X) → IsArenaOver kind s.arena → Step s command reply t → GoesOn kind generations s command (reply, t)) where
  pub OverAfterRun : (s : SessionState X) (commands : List (Command X)) (replies : List (Reply X)) (t : SessionState X) → IsArenaOver kind s.arena → IsRun Step s commands replies t → IsArenaOver kind t.arena
  OverAfterRun s [] [] t over run = subst (λ (u : SessionState X). IsArenaOver kind u.arena) (sym run) over
  OverAfterRun s [] (reply ∷ replies) t over run = absurd run
  OverAfterRun s (command ∷ commands) [] t over run = absurd run
  OverAfterRun s (command ∷ commands) (reply ∷ replies) t over run =
      OverAfterRun run.0 commands replies t (goes s command reply run.0 over run.1).over run.2

  pub StepsKeepHistories : generations.counting ≡ true → (s : SessionState X) (commands : List (Command X)) (replies : List (Reply X)) (t : SessionState X) → IsArenaOver kind s.arena → KeepsHistories Step s commands replies t
  StepsKeepHistories counts s [] [] t over run quiet = subst (λ (u : SessionState X). Continues Fits s.arena [] u.arena) (sym run) (unmoved s.arena)
  StepsKeepHistories counts s [] (reply ∷ replies) t over run quiet = absurd run
  StepsKeepHistories counts s (command ∷ commands) [] t over run quiet = absurd run
  StepsKeepHistories counts s (command ∷ commands) (reply ∷ replies) t over run quiet =
      let first = goes s command reply run.0 over run.1 in
      let told = All-head (λ r. tells_of_wrap r ≡ false) reply replies quiet in
      let later = StepsKeepHistories counts run.0 commands replies t first.over run.2 (All-tail (λ r. tells_of_wrap r ≡ false) reply replies quiet) in
      Continues-append s.arena run.0.arena t.arena (calls_of s command reply) (calls_in Step run.0 commands replies t run.2) (first.calls (counts, told)) later
