use Rattle.std.proofs.Common.{rules}
use Rattle.triple_arena.specs.laws.VisitLaws.{visits_same}
use Rattle.triple_arena_direct_uses.specs.Tickets.{handed}
use Rattle.triple_arena_direct_uses.proofs.leases.Leases.hand_over.Goals as goal

pub returns-clause-leases : goal.returns-clause-leases
returns-clause-leases c = rw (← c.self.view_is) (visits_same _ _ (λ p v. handed c.args.from c.args.to v) _ (λ p shown left after called. search rules) _ _ _ c.for_each_mut.ensures.visited.1)

pub returns-clause-written : goal.returns-clause-written
returns-clause-written c = rw (← c.self.view_is) c.for_each_mut.ensures.written
