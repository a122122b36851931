use Rattle.std.proofs.Common.{◌+◌, ◌%◌, ◌^◌, rules}
use Rattle.triple_arena.specs.laws.VisitLaws.{visits_same}
use Rattle.triple_arena_uses.proofs.walks.add.Goals as goal

pub returns : goal.returns
returns g c =
    visits_same _ _ (λ p v. (v + c.args.n) % 2 ^ 64) _ (λ p shown left after called. search rules) _ _ _ c.for_each_mut.ensures.visited.1
