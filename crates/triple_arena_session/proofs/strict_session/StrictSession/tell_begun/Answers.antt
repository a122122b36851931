use Rattle.std.proofs.Common.{subst}
use Rattle.triple_arena_traits.specs.Walks.{keys}
use Rattle.triple_arena_traits.specs.Histories.{begun_with, Fits}
use Rattle.triple_arena_session.specs.SessionState.{node_of}
use Rattle.triple_arena_session.proofs.Begun.{Fits-keys-mapped}
use Rattle.triple_arena_session.proofs.strict_session.StrictSession.tell_begun.Goals as goal

pub returns : goal.returns
returns g c =
    λ counts. subst (λ a. Fits (begun_with (keys a.slots)) a) c.arena-arena.ensures (Fits-keys-mapped (node_of g.P.Ptr.numbers) c.arena-arena.result.now (c.generation-generation.ensures.history counts))
