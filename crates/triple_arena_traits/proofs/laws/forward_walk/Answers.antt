use Rattle.triple_arena_traits.specs.laws.WalkLaws.{walk_rises, walk_sees}
use Rattle.triple_arena_traits.proofs.laws.forward_walk.Goals as goal

pub returns-clause-rises : goal.returns-clause-rises
returns-clause-rises g c = walk_rises

pub returns-clause-sees : goal.returns-clause-sees
returns-clause-sees g c = λ greatest first from turns to last end i start walk ends live lives still. walk_sees greatest from turns to last end i (start.all i live) walk ends lives still
