-- What each command makes of a session, and what is replied.
use Rattle.std.specs.Prelude.{◌≡◌, ℕ, ◌+◌, ◌<◌, ◌≤◌, ◌==◌, nat_le, ◌⊎◌, Bool, false, cond, [], ◌∷◌, ◌++◌, length, Option, Some, None, IsSome, String}
use Rattle.std.specs.declared.alloc.Global.{Global}
use Rattle.triple_arena_base.specs.declared.errors.ReallocationError.{ReallocationError}
use Rattle.triple_arena_base.specs.declared.errors.ReallocationError.TheVariants as refused
use Rattle.triple_arena_ptr.specs.Numbers.{Generations, raise, wraps}
use Rattle.triple_arena_ptr.specs.Pointers.{Pointer}
use Rattle.triple_arena_stack.specs.StackKind.{StackKind}
use Rattle.triple_arena_stack.specs.Capacity.{IsWithin, room_for_one_more, CanGrow}
use Rattle.triple_arena_traits.specs.Items.{item}
use Rattle.triple_arena_traits.specs.Entries.{look_up}
use Rattle.triple_arena_traits.specs.ArenaState.{ArenaState, arena_len, capacity, with_value}
use Rattle.triple_arena_traits.specs.Insertion.{inserted, next_pointer}
use Rattle.triple_arena_traits.specs.FreeList.{tidied}
use Rattle.triple_arena_traits.specs.Reallocation.{grown, reallocated, KeepsRoom}
use Rattle.triple_arena_traits.specs.Ending.{removed, invalidated, cleared}
use Rattle.triple_arena_traits.specs.Compression.{raised_if_any, wraps_after}
use Rattle.triple_arena_commands.specs.declared.command.Command.{Command}
use Rattle.triple_arena_commands.specs.declared.command.Command.TheVariants.{Insert, InsertWithin, Get, Set, Remove, Invalidate, Clear, Compact, Len, Capacity, Reserve, Show}
use Rattle.triple_arena_commands.specs.declared.reply.Reply.{Reply}
use Rattle.triple_arena_commands.specs.declared.reply.Reply.TheVariants.{Given, Full, BeyondMaxCapacity, NoMemory, Found, Nothing, Done, Removed, Invalid, Cleared, Compacted, Unresolved, BadName, Count, Line}
use Rattle.triple_arena_commands.specs.Limits.{is_at_limit, is_within}
use Rattle.triple_arena_session.specs.SessionState.{SessionState, link_name, link_pointer, named}
use Rattle.triple_arena_session.specs.Compaction.{any_dangles, compacted}

-- why an arena cannot take one more entry whatever memory there is: it is full, and its limit is reached, or else its
-- indexes are all taken
abbrev pub refusal : {T : Type 0} → ArenaState T → Option ReallocationError
refusal s =
    cond (arena_len s == capacity s)
    (cond (is_at_limit s.limit (capacity s)) (Some refused.BeyondMaxCapacity) (cond (capacity s == s.greatest) (Some refused.AllocError) None))
    None

module _ {X : Type 0} where
  -- the reply to an insertion that is refused so
  abbrev pub refused_reply : ReallocationError → Reply X
  refused_reply refused.BeyondMaxCapacity = BeyondMaxCapacity
  refused_reply refused.AllocError = NoMemory

  -- the reply to a look-up of what stands under a name, if the name is live
  abbrev pub get_reply : SessionState X → Option (X × Option Pointer) → Reply X
  get_reply s (Some node) = Found node.0 (link_name s.table node.1)
  get_reply s None = Nothing

  -- the reply that shows a text, or that there was no memory for one
  abbrev pub show_reply : Option (String Global) → Reply X
  show_reply (Some text) = Line text
  show_reply None = NoMemory

  -- the text that a reply shows
  abbrev pub shown_text : Reply X → Option (String Global)
  shown_text (Line text) = Some text
  shown_text reply = None

  -- the session with room for one more pointer in its table, which has grown where it was full
  abbrev pub with_room_for_name : SessionState X → SessionState X
  with_room_for_name s = record s { table_room = room_for_one_more s.table_room None (length s.table) }

  -- a pointer gets a new name over this arena: it stands last in the table
  abbrev pub give : SessionState X → Pointer → Bool → ArenaState (X × Option Pointer) → Reply X × SessionState X
  give s p wrapped arena = (Given (length s.table + 1) wrapped, record (with_room_for_name s) { arena = arena; table = s.table ++ p ∷ [] })

  -- what is done to what stands under the pointer of a name, if the name was given and has not ended
  abbrev pub act_under : SessionState X → (Pointer → X × Option Pointer → Reply X × SessionState X) → Pointer → Option (X × Option Pointer) → Reply X × SessionState X
  act_under s act p (Some node) = act p node
  act_under s act p None = (Invalid, s)

  abbrev pub act_on : SessionState X → (Pointer → X × Option Pointer → Reply X × SessionState X) → Option Pointer → Reply X × SessionState X
  act_on s act (Some p) = act_under s act p (look_up s.arena.slots p)
  act_on s act None = (Invalid, s)

  -- another datum and another link, if it is good, under a name
  abbrev pub set_answer : SessionState X → ℕ → X → Option (Option Pointer) → Reply X × SessionState X
  set_answer s name datum (Some link) = act_on s (λ p node. (Done, record s { arena = with_value s.arena p.0 (datum, link) })) (item s.table name)
  set_answer s name datum None = (BadName, s)

  -- insertion where the arena has a place, with the pointer of its link, if the link is good
  abbrev pub insert_within_answer : SessionState X → X → Option (Option Pointer) → Reply X × SessionState X
  insert_within_answer s datum (Some link) =
      cond (arena_len s.arena == capacity s.arena) (Full, s) (give s (next_pointer s.arena) false (inserted s.arena (datum, link)))
  insert_within_answer s datum None = (BadName, s)

  -- the session with the free list of its arena tidied
  abbrev pub with_tidied_arena : SessionState X → SessionState X
  with_tidied_arena s = record s { arena = tidied s.arena }

  -- the table was full and could not grow: all stays
  abbrev pub TableWantsMemory : SessionState X → SessionState X → Type 0
  TableWantsMemory s t = (length s.table ≡ s.table_room) × (t ≡ s)

  -- the arena was full and could not grow, where memory is there for such requests: all stays, but for the room that the
  -- table had got before
  abbrev pub ArenaWantsMemory : (ℕ → Type 0) → SessionState X → SessionState X → Type 0
  ArenaWantsMemory has_memory s t =
      (arena_len s.arena ≡ capacity s.arena)
      × (CanGrow has_memory (capacity s.arena) s.arena.limit s.arena.greatest → ⊥)
      × (t ≡ with_room_for_name s)

module _ {X : Type 0} (kind : StackKind) (generations : Generations) where
  -- insertion with a good link, where nothing or something stands against it; a full arena grows first
  abbrev pub insert_unless : Option ReallocationError → SessionState X → X → Option Pointer → Reply X × SessionState X
  insert_unless (Some why) s datum link = (refused_reply why, s)
  insert_unless None s datum link = give s (next_pointer s.arena) false (inserted (grown kind s.arena) (datum, link))

  -- insertion with the pointer of its link, if the link is good
  abbrev pub insert_answer : SessionState X → X → Option (Option Pointer) → Reply X × SessionState X
  insert_answer s datum (Some link) = insert_unless (refusal s.arena) s datum link
  insert_answer s datum None = (BadName, s)

  -- whether the counter of the session wraps where it is raised, and what it is then
  abbrev pub wraps_next : SessionState X → Bool
  wraps_next s = wraps generations s.arena.counter

  abbrev pub next_counter : SessionState X → ℕ
  next_counter s = raise generations s.arena.counter

  -- removal of what stands under a pointer; the reply tells whether the counter wraps
  abbrev pub remove_under : SessionState X → Pointer → X × Option Pointer → Reply X × SessionState X
  remove_under s p node = (
    Removed node.0 (link_name s.table node.1) (wraps_next s),
    record s { arena = removed (raise generations) s.arena p.0 },
  )

  -- the entry of a pointer gets the raised counter, and the pointer that it has then a new name
  abbrev pub invalidate_under : SessionState X → Pointer → X × Option Pointer → Reply X × SessionState X
  invalidate_under s p node = give s (p.0, next_counter s) (wraps_next s) (invalidated (raise generations) s.arena p.0)

  -- whether the counter wraps where it is raised if there is an entry
  abbrev pub wraps_if_any : SessionState X → Bool
  wraps_if_any s = wraps_after (wraps generations) false s.arena

  -- compaction, unless a link dangles
  abbrev pub compact_answer : SessionState X → Reply X × SessionState X
  compact_answer s =
      cond (any_dangles s.arena) (Unresolved, s)
      (Compacted (wraps_if_any s), compacted s (raised_if_any (raise generations) s.arena))

  -- reallocation, which tidies the free list first, also where it is refused
  abbrev pub reserve_answer : SessionState X → ℕ → Reply X × SessionState X
  reserve_answer s m =
      cond (nat_le m s.arena.greatest)
      (cond (is_within s.arena.limit m) (Done, record s { arena = reallocated kind s.arena m }) (BeyondMaxCapacity, with_tidied_arena s))
      (NoMemory, with_tidied_arena s)

  -- the reply to a command, and the session after it, where no memory is refused; and the text that Show tells, if there
  -- was memory for one
  abbrev pub answer : Option (String Global) → SessionState X → Command X → Reply X × SessionState X
  answer text s (Insert datum link) = insert_answer s datum (link_pointer s.table link)
  answer text s (InsertWithin datum link) = insert_within_answer s datum (link_pointer s.table link)
  answer text s (Get name) = (get_reply s (named s name), s)
  answer text s (Set name datum link) = set_answer s name datum (link_pointer s.table link)
  answer text s (Remove name) = act_on s (remove_under s) (item s.table name)
  answer text s (Invalidate name) = act_on s (invalidate_under s) (item s.table name)
  answer text s Clear = (Cleared (wraps_if_any s), record s { arena = cleared (raise generations) s.arena })
  answer text s Compact = compact_answer s
  answer text s Len = (Count (arena_len s.arena), s)
  answer text s Capacity = (Count (capacity s.arena), s)
  answer text s (Reserve m) = reserve_answer s m
  answer text s Show = (show_reply text, s)

module _ {X : Type 0} (kind : StackKind) (has_memory : ℕ → Type 0) where
  -- so many entries are allowed, the room must change for them, and memory for it isn't known to be there
  abbrev pub RoomWantsMemory : ArenaState (X × Option Pointer) → ℕ → Type 0
  RoomWantsMemory arena m =
      (m ≤ arena.greatest) × IsWithin arena.limit m × (KeepsRoom kind arena m → ⊥) × (has_memory (reallocated kind arena m).room → ⊥)

  -- a command may be refused for want of memory, and this is the session after it
  abbrev pub WantsMemory : SessionState X → Command X → SessionState X → Type 0
  WantsMemory s (Insert datum link) t = IsSome (link_pointer s.table link) × (refusal s.arena ≡ None) × (TableWantsMemory s t ⊎ ArenaWantsMemory has_memory s t)
  WantsMemory s (InsertWithin datum link) t = IsSome (link_pointer s.table link) × (arena_len s.arena < capacity s.arena) × TableWantsMemory s t
  WantsMemory s (Invalidate name) t = IsSome (named s name) × TableWantsMemory s t
  WantsMemory s Compact t = (0 < arena_len s.arena) × (t ≡ s)
  WantsMemory s (Reserve m) t = RoomWantsMemory s.arena m × (t ≡ with_tidied_arena s)
  WantsMemory s command t = ⊥

module _ {X : Type 0} (kind : StackKind) (has_memory : ℕ → Type 0) (generations : Generations) where
  -- a command, its reply and the session after it: the answer, or a refusal for want of memory
  abbrev pub IsStep : (before : SessionState X) (command : Command X) (reply : Reply X) (after : SessionState X) → Type 0
  IsStep s command NoMemory t =
      ((NoMemory, t) ≡ answer kind generations None s command) ⊎ WantsMemory kind has_memory s command t
  IsStep s command reply t = (reply, t) ≡ answer kind generations (shown_text reply) s command
