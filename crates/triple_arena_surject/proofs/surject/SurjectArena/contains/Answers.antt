use Rattle.std.proofs.Common.{◌≡◌, ◌∙◌, subst}
use Rattle.triple_arena.specs.Histories.{History, remains}
use Rattle.triple_arena_surject.proofs.States.{read, there_is}
use Rattle.triple_arena_surject.proofs.surject.SurjectArena.contains.Goals as goal

pub returns-clause-value : goal.returns-clause-value
returns-clause-value g c =
    c.contains.ensures.value ∙ there_is (read g.P.Ptr.numbers _ c.self.inside.keys (g.B.ArenaStates.slots c.self.inside.sets) _ _ _ c.self.view_is) (g.P.Ptr.numbers c.args.p)

pub returns-clause-history : goal.returns-clause-history
returns-clause-history g c = subst (λ s. (h : History) → g.A.ArenaStates.fits h s.arena → c.contains.result ≡ remains h (g.P.Ptr.numbers c.args.p)) c.self.view_is c.contains.ensures.history
