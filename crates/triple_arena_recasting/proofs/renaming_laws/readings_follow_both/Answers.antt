use Rattle.triple_arena_recasting.specs.laws.RenamingBothLaws.{found_read_both}
use Rattle.triple_arena_recasting.proofs.Relations.{none_apart, none_read}
use Rattle.triple_arena_recasting.proofs.renaming_laws.readings_follow_both.Goals as goal

pub returns : goal.returns
returns g c = λ nothing rename rename_too before after is.
    let apart = none_apart g.T.Recast-1.held nothing g.T.Recast-1.refill g.met.T.Recast-1.refill_held g.T.Recast-2.held g.T.Recast-2.refill in
    let follows = none_read g.T.Recast-1.held nothing g.P.Ptr.numbers g.T.Recast-1.refill g.met.T.Recast-1.refill_held g.T.Reading.read in
    found_read_both g.P.Ptr.numbers rename g.T.Recast-1.held g.T.Recast-1.refill g.Q.Ptr.numbers rename_too g.T.Recast-2.held g.T.Recast-2.refill
    g.T.Reading.read (λ f r. r) g.T.Reading.renamed apart follows g.met.T.Reading.follows before after is
