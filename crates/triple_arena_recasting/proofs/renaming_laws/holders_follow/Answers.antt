use Rattle.triple_arena_recasting.specs.laws.RenamingLaws.{items_renamed, followed, same_first, resolved_live}
use Rattle.triple_arena_recasting.proofs.renaming_laws.holders_follow.Goals as goal

pub returns-clause-succeeds : goal.returns-clause-succeeds
returns-clause-succeeds g c = λ rename slots images holder maps none. (items_renamed g.P.Ptr.numbers slots rename images maps (g.H.Recast.held holder) none).0

pub returns-clause-renamed : goal.returns-clause-renamed
returns-clause-renamed g c = λ rename slots images old new maps none is.
    followed g.P.Ptr.numbers rename g.H.Recast.held g.H.Recast.refill g.met.H.Recast.held_refill slots images maps old new none is

pub returns-clause-same : goal.returns-clause-same
returns-clause-same g c = λ rename slots images ps maps. same_first g.P.Ptr.numbers slots rename images maps ps

pub returns-clause-live : goal.returns-clause-live
returns-clause-live g c = resolved_live g.P.Ptr.numbers
