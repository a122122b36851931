use Rattle.std.proofs.Common.{rules, OnOk}
use Rattle.triple_arena_direct_uses.specs.Tickets.{ticket_numbers, in_hands_of}
use Rattle.triple_arena_direct_uses.proofs.Exchanging.{AreExchanged, exchanged_if_ok, first_of, second_of, rest_of}
use Rattle.triple_arena_direct_uses.proofs.leases.Leases.swap_holders.Goals as goal

-- the two leases, each with the other one's holder
exchanged : (c : goal.After-with_disjoint_mut) → OnOk c.with_disjoint_mut.result
    (AreExchanged in_hands_of c.self.inside.leases (ticket_numbers c.args.first) (ticket_numbers c.args.second) c.with_disjoint_mut.new.self)
exchanged c =
    exchanged_if_ok _ _ in_hands_of (λ v w x y r called. search rules)
    c.self.inside.leases (ticket_numbers c.args.first) (ticket_numbers c.args.second) c.with_disjoint_mut.new.self
    c.with_disjoint_mut.result c.with_disjoint_mut.ensures.variant c.with_disjoint_mut.ensures.worked

pub returns-clause-first : goal.returns-clause-first
returns-clause-first c =
    rw (← c.self.view_is) (first_of in_hands_of _ _ _ _ c.with_disjoint_mut.result (exchanged c))

pub returns-clause-second : goal.returns-clause-second
returns-clause-second c =
    rw (← c.self.view_is) (second_of in_hands_of _ _ _ _ c.with_disjoint_mut.result (exchanged c))

pub returns-clause-others : goal.returns-clause-others
returns-clause-others c =
    rw (← c.self.view_is)
    (rest_of in_hands_of _ _ _ _ c.with_disjoint_mut.result (exchanged c) c.with_disjoint_mut.ensures.refused).0

pub returns-clause-counter : goal.returns-clause-counter
returns-clause-counter c =
    rw (← c.self.view_is)
    (rest_of in_hands_of _ _ _ _ c.with_disjoint_mut.result (exchanged c) c.with_disjoint_mut.ensures.refused).1
