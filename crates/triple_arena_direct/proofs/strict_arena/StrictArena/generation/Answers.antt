use Rattle.triple_arena_traits.specs.laws.HistoryLaws.{Fits-keys}
use Rattle.triple_arena_direct.proofs.strict_arena.StrictArena.generation.Goals as goal

pub returns-clause-history : goal.returns-clause-history
returns-clause-history g c = rw (← c.self.view_is) (λ counts. Fits-keys c.self.inside.arena (c.self.invariant counts))
