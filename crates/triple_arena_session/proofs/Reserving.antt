-- Reserve: what a session shows stays, its capacity aside.
use Rattle.std.proofs.Common.{◌≡◌, ◌⊎◌, ℕ, ◌≤◌, true, false, cond, map, Option, Some, None, min, refl, sym, ap, subst, ◌∙◌, inl, inr, arith}
use Rattle.std.proofs.lemmas.Bool.Decides.{leb_tells}
use Rattle.std.proofs.lemmas.List.{append-nil}
use Rattle.std.proofs.lemmas.Option.{same_Some}
use Rattle.std.specs.Option.{option_and_then}
use Rattle.triple_arena_ptr.specs.Numbers.{Generations}
use Rattle.triple_arena_ptr.specs.Pointers.{Pointer}
use Rattle.triple_arena_stack.specs.StackKind.{StackKind, IsOfKind, reallocated_room}
use Rattle.triple_arena_stack.specs.StackKind.StackKind.{heap, limited, fixed, array}
use Rattle.triple_arena_stack.specs.Capacity.{stack_capacity, IsWithin, IsBeyond}
use Rattle.triple_arena_traits.specs.Entries.{value_of_generation, KeepsEntries}
use Rattle.triple_arena_traits.specs.ArenaState.{ArenaState, arena_len, capacity, slot_count}
use Rattle.triple_arena_traits.specs.FreeList.{tidied}
use Rattle.triple_arena_traits.specs.Reallocation.{reallocated}
use Rattle.triple_arena_traits.specs.laws.EntryLaws.{slots-tidied}
use Rattle.triple_arena_traits.specs.Histories.{resizing}
use Rattle.triple_arena_traits.specs.laws.WellFormedLaws.{len_within}
use Rattle.triple_arena_traits.specs.laws.HistoryLaws.{Continues-resized}
use Rattle.triple_arena_commands.specs.declared.reply.Reply.{Reply}
use Rattle.triple_arena_commands.specs.declared.reply.Reply.TheVariants.{BeyondMaxCapacity, NoMemory, Done}
use Rattle.triple_arena_commands.specs.Limits.{is_within}
use Rattle.triple_arena_commands.specs.NameStore.{row_count, ReservesRows}
use Rattle.triple_arena_session.specs.SessionState.{SessionState}
use Rattle.triple_arena_session.specs.SessionRun.{with_tidied_arena, reserve_answer, RoomWantsMemory}
use Rattle.triple_arena_session.specs.Shown.{row_of, shown, IsArenaOver}
use Rattle.triple_arena_session.proofs.TableNames.{map_same}
use Rattle.triple_arena_session.proofs.Rows.{row_kept, row_count-shown}
use Rattle.triple_arena_session.proofs.Soundness.{SoundOver, TableSound, TableSound-given, SoundOver-from, over_of}
use Rattle.triple_arena_session.proofs.Continuing.{over_tidied, over_reallocated}

-- a reallocation within the limit makes room for what was asked
enough : (kind : StackKind) (room n m : ℕ) (limit : Option ℕ) (greatest : ℕ) → IsOfKind kind room limit → m ≤ greatest → IsWithin limit m → m ≤ min (stack_capacity (reallocated_room kind room n m) limit) greatest
enough heap room n m None greatest is below within = omega arith
enough heap room n m (Some most) greatest is below within = omega arith
enough limited room n m None greatest is below within = omega arith
enough limited room n m (Some most) greatest is below within = omega arith
enough fixed room n m None greatest is below within = absurd (cc)
enough fixed room n m (Some most) greatest is below within = let same : most ≡ room = same_Some most room is in omega (arith, same, within)
enough (array places) room n m None greatest is below within = absurd (let no = is.1 in cc)
enough (array places) room n m (Some most) greatest is below within = let same : most ≡ places = same_Some most places is.1 in omega (arith, same, within, is.0)

cut_within : (room : ℕ) (limit : Option ℕ) (greatest : ℕ) → IsWithin limit (min (stack_capacity room limit) greatest)
cut_within room None greatest = tt
cut_within room (Some most) greatest = omega arith

within_tells : (limit : Option ℕ) (m : ℕ) → ((is_within limit m ≡ true) × IsWithin limit m) ⊎ ((is_within limit m ≡ false) × IsBeyond limit m)
within_tells None m = inl (refl, tt)
within_tells (Some most) m = leb_tells m most

module _ {X : Type 0} (kind : StackKind) (s : SessionState X) (sound : SoundOver kind s) where
  -- another arena with the same entries
  same_rows : (a : ArenaState (X × Option Pointer)) → KeepsEntries s.arena.slots a.slots → map (row_of a s.table) s.table ≡ map (row_of s.arena s.table) s.table
  same_rows a same = map_same (row_of s.arena s.table) (row_of a s.table) s.table (λ q h. row_kept kind s a s.table q sound (λ l h. refl) (ap (option_and_then (value_of_generation q.1)) (same q.0)))

  same_sound : (a : ArenaState (X × Option Pointer)) → KeepsEntries s.arena.slots a.slots → a.counter ≡ s.arena.counter → IsArenaOver kind a → SoundOver kind (record s { arena = a })
  same_sound a same counter over =
      SoundOver-from kind (record s { arena = a })
      (subst (TableSound a) (append-nil s.table) (TableSound-given kind s sound resizing a (Continues-resized s.arena a same counter)))
      (λ p q datum found. sound.table.has_links p q datum (sym (ap (option_and_then (value_of_generation p.1)) (same p.0)) ∙ found))
      over

  -- a reply to a reservation, and the session after it, are those of the store that the session shows
  abbrev pub Reserved : ℕ → Reply X × SessionState X → Type 0
  Reserved m a = ReservesRows (shown s) m a.0 (shown a.1) × SoundOver kind a.1

  tidied_shows : (shown (with_tidied_arena s) ≡ shown s) × SoundOver kind (with_tidied_arena s)
  tidied_shows =
      let entries = slots-tidied s.arena (tidied s.arena) refl in (
        ap (λ rows. record (shown s) { rows = rows }) (same_rows (tidied s.arena) entries),
        same_sound (tidied s.arena) entries refl (over_tidied kind s.arena (over_of kind s sound)),
      )

  reallocated_shows : (m : ℕ) → m ≤ s.arena.greatest → IsWithin s.arena.limit m → Reserved m (Done, record s { arena = reallocated kind s.arena m })
  reallocated_shows m below within =
      let a : ArenaState (X × Option Pointer) = reallocated kind s.arena m in
      let entries = slots-tidied s.arena (tidied s.arena) refl in
      let n : ℕ = slot_count (tidied s.arena) in
      let over : IsArenaOver kind a = over_reallocated kind s.arena (over_of kind s sound) m in
      let after = same_sound a entries refl over in
      let rows = same_rows a entries in
      let count : row_count (shown s) ≡ arena_len a = ap (λ r. row_count {X = X} (record (shown s) { rows = r })) (sym rows) ∙ row_count-shown kind (record s { arena = a }) after in (
        (
          ap (λ r. record (shown s) { rows = r; capacity = capacity a }) rows,
          enough kind s.arena.room n m s.arena.limit s.arena.greatest sound.of_kind below within,
          subst (λ k. k ≤ capacity a) (sym count) (len_within a over.0),
          cut_within (reallocated_room kind s.arena.room n m) s.arena.limit s.arena.greatest,
          omega arith,
        ),
        after,
      )

  module _ (generations : Generations) where
    -- where no memory is refused
    pub reserved_answer : (m : ℕ) → Reserved m (reserve_answer kind generations s m)
    reserved_answer m =
        elim (leb_tells m s.arena.greatest) [
          | inl fits ↦ subst (λ b. Reserved m (cond b (cond (is_within s.arena.limit m) (Done, record s { arena = reallocated kind s.arena m }) (BeyondMaxCapacity, with_tidied_arena s)) (NoMemory, with_tidied_arena s))) (sym fits.0)
              (elim (within_tells s.arena.limit m) [
                | inl allowed ↦ subst (λ b. Reserved m (cond b (Done, record s { arena = reallocated kind s.arena m }) (BeyondMaxCapacity, with_tidied_arena s))) (sym allowed.0) (reallocated_shows m fits.1 allowed.1)
                | inr beyond ↦ subst (λ b. Reserved m (cond b (Done, record s { arena = reallocated kind s.arena m }) (BeyondMaxCapacity, with_tidied_arena s))) (sym beyond.0) ((fits.1, beyond.1, tidied_shows.0), tidied_shows.1)
              ])
          | inr past ↦ subst (λ b. Reserved m (cond b (cond (is_within s.arena.limit m) (Done, record s { arena = reallocated kind s.arena m }) (BeyondMaxCapacity, with_tidied_arena s)) (NoMemory, with_tidied_arena s))) (sym past.0)
              (((λ fits. absurd (omega (arith, past.1, fits))), tidied_shows.0), tidied_shows.1)
        ]

  -- and where it is
  pub reserved_wanting : (has_memory : ℕ → Type 0) (m : ℕ) (t : SessionState X) → RoomWantsMemory kind has_memory s.arena m → t ≡ with_tidied_arena s → Reserved m (NoMemory, t)
  reserved_wanting has_memory m t wants is =
      subst (λ u. Reserved m (NoMemory, u)) (sym is) (((λ below. wants.1), tidied_shows.0), tidied_shows.1)
