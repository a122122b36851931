use Rattle.std.proofs.Common.{◌≡◌, List, Option, None, sym, subst, ◌∙◌}
use Rattle.triple_arena.specs.ArenaState.{ArenaState, arena_len}
use Rattle.triple_arena.specs.Walks.{values}
use Rattle.triple_arena_direct.specs.Renaming.{first_unresolved, Refuses}
use Rattle.triple_arena_direct_uses.specs.Tickets.{ticket_numbers, anew}
use Rattle.triple_arena_direct_uses.specs.declared.ticket.Ticket.{Ticket}
use Rattle.triple_arena_direct_uses.specs.declared.leases.Lease.{Lease}
use Rattle.triple_arena_direct_uses.proofs.Leasing.{nothing_held, nothing_filled, names_kept, kept_found, first_kept}
use Rattle.triple_arena_direct_uses.proofs.leases.Leases.renew.Goals as goal

pub returns-in-Some-clause-refusal : goal.returns-in-Some-clause-refusal
returns-in-Some-clause-refusal c =
    let s : ArenaState Lease = c.self.inside.leases in
    rw (← c.self.view_is) (first_kept ticket_numbers s.slots c.args.kept.now.items _ (rw c.arena.ensures at c.in-Some.ensures.first))

pub returns-in-Ok-clause-kept : goal.returns-in-Ok-clause-kept
returns-in-Ok-clause-kept c =
    let s : ArenaState Lease = c.self.inside.leases in
    let none = rw c.arena.ensures at c.in_default.ensures.first in
    let renamed = c.holders_follow.ensures.renamed (anew s) s.slots c.in-Ok.tickets.slots c.args.kept.now c.recast-renamed.new.self
    c.in-Ok.ensures.maps (sym none) (rw c.unresolved.ensures.unchanged at c.recast-renamed.ensures.after) in
    rw (← c.self.view_is) (kept_found ticket_numbers (anew s) s.slots c.in-Ok.leases.slots
    (λ q live. (c.in-Ok.ensures.compacted.found q live).filled ∙ nothing_filled _) c.args.kept.now.items c.recast-renamed.new.self.items none renamed.holds)

pub returns-in-Ok-clause-renamed : goal.returns-in-Ok-clause-renamed
returns-in-Ok-clause-renamed c =
    let s : ArenaState Lease = c.self.inside.leases in
    let none = rw c.arena.ensures at c.in_default.ensures.first in
    let renamed = c.holders_follow.ensures.renamed (anew s) s.slots c.in-Ok.tickets.slots c.args.kept.now c.recast-renamed.new.self
    c.in-Ok.ensures.maps (sym none) (rw c.unresolved.ensures.unchanged at c.recast-renamed.ensures.after) in
    rw (← c.self.view_is) (names_kept ticket_numbers (anew s) c.args.kept.now.items c.recast-renamed.new.self.items renamed.holds)

pub returns-in-Ok-clause-resolved : goal.returns-in-Ok-clause-resolved
returns-in-Ok-clause-resolved c =
    let s : ArenaState Lease = c.self.inside.leases in
    rw (← c.self.view_is) (first_kept ticket_numbers s.slots c.args.kept.now.items None (rw c.arena.ensures at c.in_default.ensures.first))

pub returns-in-Err-clause-stray_first : goal.returns-in-Err-clause-stray_first
returns-in-Err-clause-stray_first c =
    let s : ArenaState Lease = c.self.inside.leases in
    λ stray. absurd (stray (rw (← c.self.view_is) (first_kept ticket_numbers s.slots c.args.kept.now.items None (rw c.arena.ensures at c.in_default.ensures.first))))

pub returns-in-Err-clause-refusal : goal.returns-in-Err-clause-refusal
returns-in-Err-clause-refusal c =
    let s : ArenaState Lease = c.self.inside.leases in
    let refuses = subst (λ (ps : List Ticket). Refuses (arena_len s) (first_unresolved ticket_numbers s.slots ps) c.in-Err.refusal)
    (nothing_held {T = Lease} (values s.slots)) c.in-Err.ensures.refusal in
    rw (← c.self.view_is) (subst (λ (first : Option Ticket). Refuses (arena_len s) first c.in-Err.refusal)
    (sym (first_kept ticket_numbers s.slots c.args.kept.now.items None (rw c.arena.ensures at c.in_default.ensures.first))) refuses)
