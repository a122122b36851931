use Rattle.triple_arena_traits.specs.laws.HistoryLaws.{Fits-keys}
use Rattle.triple_arena_direct.proofs.strict_arena.StrictArena.is_exhausted_for_any.Goals as goal

pub returns-then-not-is_empty-clause-begun : goal.returns-then-not-is_empty-clause-begun
returns-then-not-is_empty-clause-begun g c = rw (← c.self.view_is) (λ counts. Fits-keys c.self.inside.arena (c.self.invariant counts))

pub returns-else-not-is_empty-clause-begun : goal.returns-else-not-is_empty-clause-begun
returns-else-not-is_empty-clause-begun g c = rw (← c.self.view_is) (λ counts. Fits-keys c.self.inside.arena (c.self.invariant counts))
