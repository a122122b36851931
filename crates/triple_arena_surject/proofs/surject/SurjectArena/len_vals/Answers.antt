use Rattle.std.proofs.Common.{◌≡◌, ap, subst}
use Rattle.triple_arena_surject.specs.Surject.{state_of, sets_in}
use Rattle.triple_arena_surject.proofs.States.{read, onto}
use Rattle.triple_arena_surject.proofs.surject.SurjectArena.len_vals.Goals as goal

pub returns-clause-onto : goal.returns-clause-onto
returns-clause-onto g c = onto (read g.P.Ptr.numbers _ c.self.inside.keys (g.B.ArenaStates.slots c.self.inside.sets) _ _ _ c.self.view_is) c.self.invariant

pub returns-clause-arenas : goal.returns-clause-arenas
returns-clause-arenas g c =
    let numbers = g.P.Ptr.numbers in
    let sets = c.self.inside.sets in
    subst (λ s. s ≡ sets_in numbers g.A.ArenaStates.slots g.A.ArenaStates.capacity g.A.ArenaStates.limit g.B.ArenaStates.slots g.B.ArenaStates.capacity g.B.ArenaStates.limit s.arena s.val_arena) c.self.view_is
    (ap (λ keys. state_of numbers sets keys (g.B.ArenaStates.slots sets) (g.B.ArenaStates.capacity sets) (g.B.ArenaStates.limit sets)) c.capacity-capacity.ensures.arena)
