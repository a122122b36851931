use Rattle.triple_arena_direct.proofs.StrictRetaining.{emptied_removed, up_to_out}
use Rattle.triple_arena_direct.proofs.strict_arena.StrictArena.take_next.Goals as goal

pub invariant_of-self : goal.invariant_of-self
invariant_of-self g c counts =
    up_to_out c.self.inside.arena c.take_out-value.new.arena (g.P.Ptr.numbers c.in_ok-p.p).0 c.take_out-value.ensures.state (c.self.invariant counts)

pub returns-clause-leaves : goal.returns-clause-leaves
returns-clause-leaves g c =
    rw (← c.self.view_is) (emptied_removed c.self.inside.arena c.take_out-value.new.arena (g.P.Ptr.numbers c.in_ok-p.p).0 c.take_out-value.ensures.state)
