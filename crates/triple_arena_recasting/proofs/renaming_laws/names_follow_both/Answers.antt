use Rattle.triple_arena_recasting.specs.laws.NameLaws.{named_read_both}
use Rattle.triple_arena_recasting.proofs.renaming_laws.names_follow_both.Goals as goal

pub returns : goal.returns
returns g c = λ read stays rename rename_too slots news.
    named_read_both read rename slots news g.P.Ptr.numbers g.T.Recast-1.held g.T.Recast-1.refill g.Q.Ptr.numbers g.T.Recast-2.held g.T.Recast-2.refill rename_too stays
