use Rattle.std.proofs.Common.{sym}
use Rattle.triple_arena_surject.proofs.States.{no_share}
use Rattle.triple_arena_surject.proofs.surject.SurjectArena.get_val.Goals as goal

pub returns-in-None-clause-some : goal.returns-in-None-clause-some
returns-in-None-clause-some g c =
    absurd (no_share (g.B.ArenaStates.slots c.self.inside.sets) c.self.invariant (g.P.Ptr.numbers c.args.p) (g.P.Ptr.numbers c.in_ok-set.set) (sym c.in_ok-set.ensures) (sym c.in-None.ensures.value))
