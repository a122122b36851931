-- A store of names: rows under names. Names are given in order, from 1 on, and none is given again.
use Rattle.std.specs.Prelude.{◌≡◌, ℕ, ◌<◌, ◌≤◌, ◌+◌, ◌==◌, ◌⊎◌, Bool, true, false, not, if◌then◌else◌, List, [], ◌∷◌, ◌++◌, length, map, min, count_by, Option, Some, None, IsSome, IsTrue, is_some}
use Rattle.std.specs.Option.{option_and_then}
use Rattle.std.specs.List.{list_any}
use Rattle.triple_arena_stack.specs.Capacity.{stack_capacity, IsWithin, IsBeyond, next_capacity}
use Rattle.triple_arena_traits.specs.Items.{item, with_item}
use Rattle.triple_arena_commands.specs.declared.command.Command.{Command}
use Rattle.triple_arena_commands.specs.declared.command.Command.TheVariants.{Insert, InsertWithin, Get, Set, Remove, Invalidate, Clear, Compact, Len, Capacity, Reserve, Show}
use Rattle.triple_arena_commands.specs.declared.reply.Reply.{Reply}
use Rattle.triple_arena_commands.specs.declared.reply.Reply.TheVariants.{Given, Full, BeyondMaxCapacity, NoMemory, Found, Nothing, Done, Removed, Invalid, Cleared, Compacted, Unresolved, BadName, Count, Line}
use Rattle.triple_arena_commands.specs.Limits.{is_at_limit}

-- a datum, and the name of its link, or none
abbrev pub NameRow : Type 0 → Type 0
NameRow X = X × Option ℕ

-- for each name that was given, in order, its row, or none where the name has ended; how many rows fit without growth; how
-- many are allowed, if there is a limit; and how many there can ever be
pub record Store (X : Type 0) : Type 0 where
  pub rows : List (Option (NameRow X))
  pub capacity : ℕ
  pub limit : Option ℕ
  pub greatest : ℕ

module _ {X : Type 0} where
  -- a store that has given no name, over so much room: the room counts as far as limit and greatest number allow
  abbrev pub new_store : (room : ℕ) (limit : Option ℕ) (greatest : ℕ) → Store X
  new_store room limit greatest = record { rows = []; capacity = min (stack_capacity room limit) greatest; limit = limit; greatest = greatest }

  -- the number that the next name will be
  abbrev pub next_name : Store X → ℕ
  next_name s = length s.rows + 1

  -- how many names have a row
  abbrev pub row_count : Store X → ℕ
  row_count s = count_by is_some s.rows

  -- the row of a name, if it has one
  abbrev pub row : Store X → ℕ → Option (NameRow X)
  row s name = option_and_then (λ r. r) (item s.rows name)

  -- a name was given, and has no row
  abbrev pub HasEnded : Store X → ℕ → Type 0
  HasEnded s name = item s.rows name ≡ Some None

  -- a link is none, or a name that was given
  abbrev pub is_good_link : Store X → Option ℕ → Bool
  is_good_link s None = true
  is_good_link s (Some name) = is_some (item s.rows name)

  -- another row under a name, or none, which ends the name
  abbrev pub with_row : Store X → ℕ → Option (NameRow X) → Store X
  with_row s name r = record s { rows = with_item s.rows name r }

  -- a row gets the next name
  abbrev pub give_row : Store X → NameRow X → Reply X × Store X
  give_row s r = (Given (next_name s) false, record s { rows = s.rows ++ Some r ∷ [] })

  -- a full store grows: its capacity is doubled, or 4 where it was 0, as far as limit and greatest number allow
  abbrev pub grown_store : Store X → Store X
  grown_store s =
      if row_count s == s.capacity then record s { capacity = next_capacity s.capacity s.limit s.greatest } else s

  -- why a full store can't grow, whatever memory there is: its limit is reached, or else its greatest number
  abbrev pub store_refusal : Store X → Option (Reply X)
  store_refusal s =
      if row_count s == s.capacity
      then (if is_at_limit s.limit s.capacity then Some BeyondMaxCapacity else if s.capacity == s.greatest then Some NoMemory else None)
      else None

  -- insertion, where something or nothing stands against it
  abbrev pub insert_row_unless : Option (Reply X) → Store X → NameRow X → Reply X × Store X
  insert_row_unless (Some refused) s r = (refused, s)
  insert_row_unless None s r = give_row (grown_store s) r

  -- the reply to a look-up
  abbrev pub get_row_reply : Option (NameRow X) → Reply X
  get_row_reply (Some r) = Found r.0 r.1
  get_row_reply None = Nothing

  -- what is done with the row of a name, if it has one
  abbrev pub act_on_row : Store X → Option (NameRow X) → (NameRow X → Reply X × Store X) → Reply X × Store X
  act_on_row s (Some r) act = act r
  act_on_row s None act = (Invalid, s)

  -- a row has a link to a name that has no row
  abbrev pub row_dangles : Store X → Option (NameRow X) → Bool
  row_dangles s None = false
  row_dangles s (Some (datum, None)) = false
  row_dangles s (Some (datum, Some name)) = not (is_some (row s name))

  -- the reply to a command, and the store after it, where no memory is refused. Reserve and Show have no one answer: their
  -- rows here stand for nothing, and their steps below
  abbrev pub store_answer : Store X → Command X → Reply X × Store X
  store_answer s (Insert datum link) =
      if is_good_link s link then insert_row_unless (store_refusal s) s (datum, link) else (BadName, s)
  store_answer s (InsertWithin datum link) =
      if is_good_link s link then (if row_count s == s.capacity then (Full, s) else give_row s (datum, link)) else (BadName, s)
  store_answer s (Get name) = (get_row_reply (row s name), s)
  store_answer s (Set name datum link) =
      if is_good_link s link then act_on_row s (row s name) (λ r. (Done, with_row s name (Some (datum, link)))) else (BadName, s)
  store_answer s (Remove name) = act_on_row s (row s name) (λ r. (Removed r.0 r.1 false, with_row s name None))
  store_answer s (Invalidate name) = act_on_row s (row s name) (λ r. give_row (with_row s name None) r)
  store_answer s Clear = (Cleared false, record s { rows = map (λ r. None) s.rows })
  store_answer s Compact = (if list_any (row_dangles s) s.rows then Unresolved else Compacted false, s)
  store_answer s Len = (Count (row_count s), s)
  store_answer s Capacity = (Count s.capacity, s)
  store_answer s (Reserve m) = (NoMemory, s)
  store_answer s Show = (NoMemory, s)

  -- room for m rows: any capacity that is enough for them and for the rows there are, and that limit and greatest number
  -- allow; else m is beyond the limit, or there was no memory, and nothing has changed
  abbrev pub ReservesRows : Store X → ℕ → Reply X → Store X → Type 0
  ReservesRows s m Done t =
      (t ≡ record s { capacity = t.capacity })
      × (m ≤ t.capacity) × (row_count s ≤ t.capacity) × IsWithin s.limit t.capacity × (t.capacity ≤ s.greatest)
  ReservesRows s m BeyondMaxCapacity t = (m ≤ s.greatest) × IsBeyond s.limit m × (t ≡ s)
  ReservesRows s m NoMemory t = (m ≤ s.greatest → IsWithin s.limit m) × (t ≡ s)
  ReservesRows s m reply t = ⊥

  -- any text, or no memory for one
  abbrev pub IsShown : Reply X → Type 0
  IsShown (Line text) = Unit {0}
  IsShown NoMemory = Unit {0}
  IsShown reply = ⊥

  -- the command asks for memory
  abbrev pub RowWantsMemory : Store X → Command X → Type 0
  RowWantsMemory s (Insert datum link) = IsTrue (is_good_link s link) × (store_refusal s ≡ None)
  RowWantsMemory s (InsertWithin datum link) = IsTrue (is_good_link s link) × (row_count s < s.capacity)
  RowWantsMemory s (Invalidate name) = IsSome (row s name)
  RowWantsMemory s Compact = 0 < row_count s
  RowWantsMemory s command = ⊥

  -- a step: a command, its reply and the store after it. It is the answer, or a refusal for want of memory, which changes
  -- nothing
  abbrev pub IsStoreStep : (before : Store X) (command : Command X) (reply : Reply X) (after : Store X) → Type 0
  IsStoreStep s (Reserve m) reply t = ReservesRows s m reply t
  IsStoreStep s Show reply t = IsShown reply × (t ≡ s)
  IsStoreStep s command NoMemory t = ((NoMemory, t) ≡ store_answer s command) ⊎ (RowWantsMemory s command × (t ≡ s))
  IsStoreStep s command reply t = (reply, t) ≡ store_answer s command

  -- the replies that may come to a command: the answer's, or NoMemory where the command asks for memory
  abbrev pub MayReply : Store X → Command X → Reply X → Type 0
  MayReply s (Reserve m) reply = (t : Store X) × ReservesRows s m reply t
  MayReply s Show reply = IsShown reply
  MayReply s command reply = (reply ≡ (store_answer s command).0) ⊎ ((reply ≡ NoMemory) × RowWantsMemory s command)
