use Rattle.std.specs.Prelude.{nat_le}
use Rattle.std.proofs.Common.{rules}
use Rattle.triple_arena_direct.specs.laws.RetainLaws.{retained_found}
use Rattle.triple_arena_direct_uses.proofs.keeping.keep_from.Goals as goal

pub returns : goal.returns
returns g c =
    retained_found g.P.Ptr.numbers _ g.A.ArenaStates.with_value g.A.ArenaStates.removes g.A.ArenaStates.ending_wraps g.A.ArenaStates.slots g.met.A.ArenaLaws.slots_with_value g.met.A.ArenaLaws.slots_removed
    (λ p v. nat_le c.args.least v) (λ p v. v) _ (λ p shown left kept after called. search rules) _ _ _ _ c.retain-answer.ensures.retained.1
