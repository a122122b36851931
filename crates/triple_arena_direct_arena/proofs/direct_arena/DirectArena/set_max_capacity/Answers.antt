use Rattle.triple_arena_direct_arena.proofs.Limits.{left_within}
use Rattle.triple_arena_direct_arena.proofs.direct_arena.DirectArena.set_max_capacity.Goals as goal

pub returns-clause-bound : goal.returns-clause-bound
returns-clause-bound g c =
    let within = left_within c.args.self.now c.args.max_capacity in
    let few = rw c.shorten.ensures at c.set_limit.ensures.variant in
    ((λ ok. within.0 (few.0 ok)), (λ low. few.1 (within.1 low)))
