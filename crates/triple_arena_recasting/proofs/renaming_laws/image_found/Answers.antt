use Rattle.triple_arena_recasting.specs.laws.ImageLaws.{image_or_kept, image_is, image_there}
use Rattle.triple_arena_recasting.proofs.renaming_laws.image_found.Goals as goal

pub returns-clause-live : goal.returns-clause-live
returns-clause-live g c = λ rename slots images maps. image_there g.P.Ptr.numbers rename slots images maps

pub returns-clause-image : goal.returns-clause-image
returns-clause-image g c = λ rename slots images maps. image_is g.P.Ptr.numbers rename slots images maps

pub returns-clause-kept : goal.returns-clause-kept
returns-clause-kept g c = λ rename slots images maps. image_or_kept g.P.Ptr.numbers rename slots images maps
