-- The tickets of leases.
use Rattle.std.specs.Prelude.{◌≡◌, ◌≢◌, ℕ, suc, ◌+◌, ◌-◌, ◌*◌, ◌^◌, ◌==◌, Bool, false, not, cond, Some, None, IsSome}
use Rattle.triple_arena_ptr.specs.Numbers.{counting_to}
use Rattle.triple_arena_ptr.specs.Pointers.{Pointer}
use Rattle.triple_arena.specs.ArenaState.{ArenaState, arena_len}
use Rattle.triple_arena.specs.Compression.{rank}
use Rattle.triple_arena.specs.Entries.{look_up}
use Rattle.triple_arena_direct.specs.Gone.{IsGoneForGood}
use Rattle.triple_arena_direct.specs.StrictAnswers.{is_exhausted}
use Rattle.triple_arena_direct_uses.specs.declared.ticket.Ticket.{Ticket}
use Rattle.triple_arena_direct_uses.specs.declared.leases.Lease.{Lease}

-- the numbers of a ticket's index and of its generation
abbrev pub ticket_numbers : Ticket → Pointer
ticket_numbers ticket = (suc ticket.0, suc ticket.1)

-- were a lease revoked, its ticket could be given again
abbrev pub are_used_up : ArenaState Lease → Bool
are_used_up leases = is_exhausted (counting_to (2 ^ 8 - 1)) leases

-- where the ticket of a lease leads once the leases are renewed: all are of the first generation then
abbrev pub anew : ArenaState Lease → Pointer → Pointer
anew leases = rank leases 2

-- a lease, handed from one holder to another, if it is that one's
abbrev pub handed : (from to : ℕ) → Lease → Lease
handed from to lease = record lease { holder = cond (lease.holder == from) to lease.holder }

-- the number of an item that is numbered by the ticket of its lease: the index, and then a byte, the generation
abbrev pub number_of : Pointer → ℕ
number_of ticket = ticket.0 * 256 + ticket.1

-- a lease, in the hands of another's holder
abbrev pub in_hands_of : Lease → Lease → Lease
in_hands_of other lease = record lease { holder = other.holder }

-- whether a lease is in other hands than this holder's
abbrev pub is_of_another : (holder : ℕ) → Pointer → Lease → Bool
is_of_another holder ticket lease = not (lease.holder == holder)

-- a lease was issued: its ticket finds it, which no lease had that has ended, and none has that has not
pub record IsIssued (old : ArenaState Lease) (lease : Lease) (ticket : Pointer) (after : ArenaState Lease) : Type 0 where
  pub found : look_up after.slots ticket ≡ Some lease
  pub free : look_up old.slots ticket ≡ None
  pub new : (q : Pointer) → IsGoneForGood old q → ticket ≢ q
  pub others : (q : Pointer) → q ≢ ticket → look_up after.slots q ≡ look_up old.slots q

-- the same leases stand in another registry, under new tickets, which aren't used up
pub record IsRenewed (old after : ArenaState Lease) : Type 0 where
  pub found : (q : Pointer) → IsSome (look_up old.slots q) → look_up after.slots (anew old q) ≡ look_up old.slots q
  pub count : arena_len after ≡ arena_len old
  pub usable : are_used_up after ≡ false
