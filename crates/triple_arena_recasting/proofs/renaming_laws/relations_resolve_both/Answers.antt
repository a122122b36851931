use Rattle.triple_arena_recasting.proofs.Relations.{both_stray}
use Rattle.triple_arena_recasting.proofs.renaming_laws.relations_resolve_both.Goals as goal

pub returns : goal.returns
returns g c = λ nothing nothing_too slots slots_too refusal refuses.
    both_stray g.P.Ptr.numbers g.Q.Ptr.numbers g.T.Recast-1.held g.T.Recast-2.held g.U.Recast-1.held g.U.Recast-2.held nothing nothing_too slots slots_too refusal refuses
