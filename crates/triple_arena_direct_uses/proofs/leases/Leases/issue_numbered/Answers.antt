use Rattle.std.proofs.Common.{rules, IfOk}
use Rattle.triple_arena_stack.specs.StackKind.StackKind.{heap}
use Rattle.triple_arena_direct_uses.specs.Tickets.{ticket_numbers, number_of, IsIssued}
use Rattle.triple_arena_direct_uses.proofs.Entering.{StaysGone, issued, issued_of, stays_gone_of}
use Rattle.triple_arena_direct_uses.proofs.leases.Leases.issue_numbered.Goals as goal
use Rattle.triple_arena_direct_uses.proofs.leases.Leases.issue_numbered.Goals.{in-Ok, in-Err}

-- the lease that was put into the place
issued_if_ok : (c : goal.Joined-entry_insert) → IfOk c.match-entry_insert.result (λ ticket.
    IsIssued c.self.inside.leases (record { item = number_of (ticket_numbers ticket); holder = c.args.holder })
    (ticket_numbers ticket) c.match-entry_insert.self-inside.leases × StaysGone c.self.inside.leases c.match-entry_insert.self-inside.leases)
issued_if_ok c = elim c.match-entry_insert.branch [
  | in-Ok w ↦
      rw (w.result-is, ← w.item_number-item.ensures)
      (issued heap c.self.inside.leases w.in-Ok.place.arena.now c.match-entry_insert.self-inside.leases _
      (ticket_numbers w.ptr-ticket.result) (record { item = w.item_number-item.result; holder = c.args.holder })
      w.in-Ok.ensures.done w.ptr-ticket.ensures.pointer (search rules) (w.insert.ensures.done _) (w.insert.ensures.stays_gone _))
  | in-Err w ↦ rw w.result-is tt
]

pub returns-clause-issued : goal.returns-clause-issued
returns-clause-issued c = rw (← c.self.view_is) (issued_of c.self.inside.leases c.match-entry_insert.self-inside.leases _ c.match-entry_insert.result (issued_if_ok c))

pub returns-clause-stays_gone : goal.returns-clause-stays_gone
returns-clause-stays_gone c =
    rw (← c.self.view_is) (stays_gone_of c.self.inside.leases c.match-entry_insert.self-inside.leases _ c.match-entry_insert.result (issued_if_ok c) (search rules))
