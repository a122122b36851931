-- Insertions into a sound session are answered as by the store that it shows.
use Rattle.std.proofs.Common.{◌≡◌, ℕ, ◌+◌, ◌<◌, ◌==◌, Bool, true, false, [], ◌∷◌, ◌++◌, length, map, Option, Some, None, is_some, if◌then◌else◌, cond, refl, sym, ap, ◌∙◌, inl, inr, arith, String}
use Rattle.std.specs.declared.alloc.Global.{Global}
use Rattle.std.specs.Option.{option_map, option_and_then}
use Rattle.std.proofs.lemmas.Bool.{eqb-false}
use Rattle.std.proofs.lemmas.List.{map-append, length-map}
use Rattle.triple_arena_base.specs.declared.errors.ReallocationError.{ReallocationError}
use Rattle.triple_arena_base.specs.declared.errors.ReallocationError.TheVariants as refused
use Rattle.triple_arena_ptr.specs.Numbers.{Generations}
use Rattle.triple_arena_ptr.specs.Pointers.{Pointer}
use Rattle.triple_arena_stack.specs.StackKind.{StackKind, IsOfKind, reallocated_room}
use Rattle.triple_arena_stack.specs.Capacity.{next_capacity}
use Rattle.triple_arena_traits.specs.Entries.{value_of_generation, ChangesAt, look_up}
use Rattle.triple_arena_traits.specs.ArenaState.{ArenaState, entry, arena_len, capacity, slot_count, IsWellFormed}
use Rattle.triple_arena_traits.specs.Insertion.{place, next_pointer, inserted}
use Rattle.triple_arena_traits.specs.Reallocation.{grown, with_room_for}
use Rattle.triple_arena_traits.specs.laws.EntryLaws.{slots-inserted, capacity-inserted, limit-inserted}
use Rattle.triple_arena_traits.specs.Histories.{has, insertion}
use Rattle.triple_arena_traits.specs.laws.WellFormedLaws.{kept-inserted, place_free, len_within}
use Rattle.triple_arena_commands.specs.declared.command.Command.TheVariants.{Insert, InsertWithin}
use Rattle.triple_arena_commands.specs.declared.reply.Reply.{Reply}
use Rattle.triple_arena_commands.specs.declared.reply.Reply.TheVariants.{Given, Full, BeyondMaxCapacity, NoMemory}
use Rattle.triple_arena_commands.specs.PointerNames.{name_of}
use Rattle.triple_arena_commands.specs.Limits.{is_at_limit}
use Rattle.triple_arena_commands.specs.NameStore.{row_count, give_row, grown_store, store_refusal, insert_row_unless, store_answer}
use Rattle.triple_arena_commands.specs.StoreRuns.{without_wrap}
use Rattle.triple_arena_session.specs.SessionState.{SessionState, link_pointer}
use Rattle.triple_arena_session.specs.SessionRun.{refusal, refused_reply, give, insert_unless, insert_answer, insert_within_answer, answer}
use Rattle.triple_arena_session.specs.Shown.{row_of, shown, IsArenaOver}
use Rattle.triple_arena_session.proofs.TableNames.{map_same, link_name-given, name_of-append}
use Rattle.triple_arena_session.proofs.Rows.{value_hit, value_miss, kept_value, row_count-shown, row_kept, found_before}
use Rattle.triple_arena_session.proofs.Soundness.{SoundOver, TableSound-given, SoundOver-from, over_of}
use Rattle.triple_arena_session.proofs.Continuing.{with_room, grown_room, inserts_in}
use Rattle.triple_arena_session.proofs.StoreSteps.{link_there, has_longer, new_link, Store-is, row_last, Agrees, agrees, agrees_same, agrees_linked}

-- why a store can take no more rows, and why an arena can take no more entries
same_refusal : {X : Type 0} (full at_limit out : Bool) → (if full then (if at_limit then Some BeyondMaxCapacity else if out then Some NoMemory else None) else None) ≡ option_map {U = Reply X} refused_reply (cond full (cond at_limit (Some refused.BeyondMaxCapacity) (cond out (Some refused.AllocError) None)) None)
same_refusal true true out = refl
same_refusal true false true = refl
same_refusal true false false = refl
same_refusal false at_limit out = refl

module _ {X : Type 0} where
  pub refusal-shown : (kind : StackKind) (s : SessionState X) → SoundOver kind s → store_refusal (shown s) ≡ option_map refused_reply (refusal s.arena)
  refusal-shown kind s sound =
      ap (λ n. if n == capacity s.arena then (if is_at_limit s.arena.limit (capacity s.arena) then Some BeyondMaxCapacity else if capacity s.arena == s.arena.greatest then Some NoMemory else None) else None) (row_count-shown kind s sound)
      ∙ same_refusal (arena_len s.arena == capacity s.arena) (is_at_limit s.arena.limit (capacity s.arena)) (capacity s.arena == s.arena.greatest)

module _ {X : Type 0} (kind : StackKind) (s : SessionState X) (sound : SoundOver kind s) (datum : X) (link : Option ℕ) (l : Option Pointer) (good : link_pointer s.table link ≡ Some l) where
  abbrev node : X × Option Pointer
  node = (datum, l)

  abbrev new : Pointer
  new = next_pointer s.arena

  abbrev over : IsArenaOver kind s.arena
  over = over_of kind s sound

  abbrev roomy : ℕ → ArenaState (X × Option Pointer)
  roomy room = with_room kind s.arena over room

  abbrev after : ℕ → SessionState X
  after room = (give s new false (inserted (roomy room) node)).1

  -- the session with a new name, in its arena with this room
  named_more : (room : ℕ) → IsWellFormed (roomy room) → IsOfKind kind room s.arena.limit → arena_len s.arena < capacity (roomy room)
      → (shown (after room) ≡ (give_row (record (shown s) { capacity = capacity (roomy room) }) (datum, link)).1) × SoundOver kind (after room)
  named_more room well of_kind place_left =
      let a : ArenaState (X × Option Pointer) = roomy room in
      let t : ArenaState (X × Option Pointer) = inserted a node in
      let changes : ChangesAt a.slots (place a) (Some (a.counter, node)) t.slots = slots-inserted a node well in
      let vacant : entry a (place a) ≡ None = place_free a well in
      let all_kept = kept-inserted a node in
      let inserts = inserts_in kind s.arena over node room well of_kind place_left in
      let names : (x : Pointer) → has s.table x ≡ true → name_of (s.table ++ new ∷ []) x ≡ name_of s.table x = λ x h. name_of-append s.table (new ∷ []) x h in
      let stored : (x : Pointer) → l ≡ Some x → has s.table x ≡ true = λ x h. link_there s.table link x (good ∙ ap Some h) in
      let old : (q : Pointer) → has s.table q ≡ true → row_of t (s.table ++ new ∷ []) q ≡ row_of s.arena s.table q =
      λ q h. row_kept kind s t (s.table ++ new ∷ []) q sound names
      (kept_value a t (place a) (Some (a.counter, node)) q changes (λ here.
      let none : look_up s.arena.slots q ≡ None = ap (option_and_then (value_of_generation q.1)) (ap (entry a) here ∙ vacant) in
      (none, value_miss (Some (a.counter, node)) q.1 a.counter node refl (λ same. omega (arith, sound.table.before q h (ap is_some none), same))))) in (
        Store-is _ _ _ _ _ _ _ _
            (map-append (row_of t (s.table ++ new ∷ [])) s.table (new ∷ [])
            ∙ ap (λ rows. rows ++ row_of t (s.table ++ new ∷ []) new ∷ []) (map_same (row_of s.arena s.table) (row_of t (s.table ++ new ∷ [])) s.table old)
            ∙ ap (λ r. map (row_of s.arena s.table) s.table ++ r ∷ [])
            (row_last s t new node stored (value_hit (entry t (place a)) a.counter node changes.there) ∙ ap (λ name. Some (datum, name)) (link_name-given s.table link l sound.table.distinct good)))
            (capacity-inserted a node) (limit-inserted a node) all_kept.3,
        SoundOver-from kind (after room)
            (TableSound-given kind s sound (insertion new) t inserts.1)
            (λ q x d holds. has_longer s.table (new ∷ []) x (elim (found_before a t (place a) (Some (a.counter, node)) q (d, Some x) changes holds) [
              | inl here ↦ stored x (new_link a.counter q.1 node d x here)
              | inr before ↦ sound.table.has_links q x d before
            ]))
            inserts.0,
      )

  -- where the arena has a place
  pub within_more : (arena_len s.arena == capacity s.arena) ≡ false → (shown (after s.arena.room) ≡ (give_row (shown s) (datum, link)).1) × SoundOver kind (after s.arena.room)
  within_more is =
      named_more s.arena.room sound.well_formed sound.of_kind (omega (arith, len_within s.arena sound.well_formed, eqb-false (arena_len s.arena) (capacity s.arena) is))

  -- where it can take one more entry
  abbrev grown_after : SessionState X
  grown_after = (give s new false (inserted (grown kind s.arena) node)).1

  pub grown_more : refusal s.arena ≡ None
      → (store_answer (shown s) (Insert datum link) ≡ give_row (grown_store (shown s)) (datum, link) → store_answer (shown s) (Insert datum link) ≡ (Given (length s.table + 1) false, shown grown_after))
      × SoundOver kind grown_after
  grown_more free = by (arena_len s.arena == capacity s.arena) refl
    where
      size : length (map (row_of s.arena s.table) s.table) ≡ length s.table
      size = length-map s.table (row_of s.arena s.table)

      in_store : (b : Bool) → (arena_len s.arena == capacity s.arena) ≡ b → grown_store (shown s) ≡ (if b then record (shown s) { capacity = next_capacity (capacity s.arena) s.arena.limit s.arena.greatest } else shown s)
      in_store b is =
          ap (λ n. if n == capacity s.arena then record (shown s) { capacity = next_capacity (capacity s.arena) s.arena.limit s.arena.greatest } else shown s) (row_count-shown kind s sound)
          ∙ ap (λ b. if b then record (shown s) { capacity = next_capacity (capacity s.arena) s.arena.limit s.arena.greatest } else shown s) is

      by : (b : Bool) → (arena_len s.arena == capacity s.arena) ≡ b
          → (store_answer (shown s) (Insert datum link) ≡ give_row (grown_store (shown s)) (datum, link) → store_answer (shown s) (Insert datum link) ≡ (Given (length s.table + 1) false, shown (give s new false (inserted (cond b (with_room_for kind s.arena (next_capacity (capacity s.arena) s.arena.limit s.arena.greatest)) s.arena) node)).1))
          × SoundOver kind (give s new false (inserted (cond b (with_room_for kind s.arena (next_capacity (capacity s.arena) s.arena.limit s.arena.greatest)) s.arena) node)).1
      by false is =
          let more = within_more is in (
            (λ answers. answers ∙ ap (λ u. give_row u (datum, link)) (in_store false is) ∙ ap (λ n. (Given (n + 1) false, (give_row (shown s) (datum, link)).1)) size ∙ ap (λ u. (Given (length s.table + 1) false, u)) (sym more.0)),
            more.1,
          )
      by true is =
          let g = grown_room kind s.arena over is free in
          let next : ℕ = next_capacity (capacity s.arena) s.arena.limit s.arena.greatest in
          let room : ℕ = reallocated_room kind s.arena.room (slot_count s.arena) next in
          let to : capacity (roomy room) ≡ next = g.0 in
          let more = named_more room g.1 g.2 g.3 in (
            (λ answers. answers ∙ ap (λ u. give_row u (datum, link)) (in_store true is) ∙ ap (λ n. (Given (n + 1) false, (give_row (record (shown s) { capacity = next }) (datum, link)).1)) size
                ∙ ap (λ c. (Given (length s.table + 1) false, (give_row (record (shown s) { capacity = c }) (datum, link)).1)) (sym to) ∙ ap (λ u. (Given (length s.table + 1) false, u)) (sym more.0)),
            more.1,
          )

module _ {X : Type 0} (kind : StackKind) (generations : Generations) (text : Option (String Global)) where
  pub agrees_insert : (s : SessionState X) (datum : X) (link : Option ℕ) → SoundOver kind s → Agrees kind s (Insert datum link) (answer kind generations text s (Insert datum link))
  agrees_insert s datum link sound =
      agrees_linked kind s (Insert datum link) link (insert_answer kind generations s datum) (insert_row_unless (store_refusal (shown s)) (shown s) (datum, link)) sound refl refl
      (λ l good is. by l good (refusal s.arena) refl (is ∙ ap (λ o. insert_row_unless o (shown s) (datum, link)) (refusal-shown kind s sound)))
    where
      plain : (why : ReallocationError) → without_wrap {X = X} (refused_reply why) ≡ refused_reply why
      plain refused.BeyondMaxCapacity = refl
      plain refused.AllocError = refl

      by : (l : Option Pointer) → link_pointer s.table link ≡ Some l → (why : Option ReallocationError) → refusal s.arena ≡ why → store_answer (shown s) (Insert datum link) ≡ insert_row_unless (option_map refused_reply (refusal s.arena)) (shown s) (datum, link) → Agrees kind s (Insert datum link) (insert_unless kind generations why s datum l)
      by l good (Some why) free is =
          agrees_same kind s (Insert datum link) (refused_reply why) sound (is ∙ ap (λ o. insert_row_unless (option_map refused_reply o) (shown s) (datum, link)) free) (plain why)
      by l good None free is =
          let more = grown_more kind s sound datum link l good free in
          let t : SessionState X = (give s (next_pointer s.arena) false (inserted (grown kind s.arena) (datum, l))).1 in
          agrees kind s (Insert datum link) (Given (length s.table + 1) false) t (Given (length s.table + 1) false) (shown t)
          (more.0 (is ∙ ap (λ o. insert_row_unless (option_map refused_reply o) (shown s) (datum, link)) free)) refl (λ quiet. (refl, more.1))

  pub agrees_within : (s : SessionState X) (datum : X) (link : Option ℕ) → SoundOver kind s → Agrees kind s (InsertWithin datum link) (answer kind generations text s (InsertWithin datum link))
  agrees_within s datum link sound =
      agrees_linked kind s (InsertWithin datum link) link (insert_within_answer s datum) (if row_count (shown s) == capacity s.arena then (Full, shown s) else give_row (shown s) (datum, link)) sound refl refl
      (λ l good is. by l good (arena_len s.arena == capacity s.arena) refl (is ∙ ap (λ n. if n == capacity s.arena then (Full, shown s) else give_row (shown s) (datum, link)) (row_count-shown kind s sound)))
    where
      by : (l : Option Pointer) → link_pointer s.table link ≡ Some l → (b : Bool) → (arena_len s.arena == capacity s.arena) ≡ b → store_answer (shown s) (InsertWithin datum link) ≡ (if arena_len s.arena == capacity s.arena then (Full, shown s) else give_row (shown s) (datum, link))
          → Agrees kind s (InsertWithin datum link) (cond b (Full, s) (give s (next_pointer s.arena) false (inserted s.arena (datum, l))))
      by l good true full is =
          agrees_same kind s (InsertWithin datum link) Full sound (is ∙ ap (λ b. if b then (Full, shown s) else give_row (shown s) (datum, link)) full) refl
      by l good false full is =
          let more = within_more kind s sound datum link l good full in
          let size = length-map s.table (row_of s.arena s.table) in
          agrees kind s (InsertWithin datum link) (Given (length s.table + 1) false) (give s (next_pointer s.arena) false (inserted s.arena (datum, l))).1 (Given (length s.table + 1) false) (give_row (shown s) (datum, link)).1
          (is ∙ ap (λ b. if b then (Full, shown s) else give_row (shown s) (datum, link)) full ∙ ap (λ n. (Given (n + 1) false, (give_row (shown s) (datum, link)).1)) size) refl
          (λ quiet. more)
