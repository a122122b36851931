use Rattle.std.proofs.Common.{◌≡◌, subst}
use Rattle.triple_arena.specs.Histories.{History, remains}
use Rattle.triple_arena_chain.proofs.chains.Chains.contains.Goals as goal

pub returns-clause-history : goal.returns-clause-history
returns-clause-history g c = subst (λ s. (h : History) → g.A.ArenaStates.fits h s.arena → c.contains.result ≡ remains h (g.P.Ptr.numbers c.args.p)) c.self.view_is c.contains.ensures.history
