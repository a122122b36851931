use Rattle.triple_arena_traits.specs.Cloning.{clonable}
use Rattle.triple_arena_traits.specs.laws.CloningLaws.{clones_keep_capacity}
use Rattle.triple_arena_traits.proofs.laws.clones_keep_capacity.Goals as goal

pub returns : goal.returns
returns g c =
    record {
      fits = g.met.A.ArenaCloneFromWith.capacity_cloned;
      kept = clones_keep_capacity
          (clonable g.A.ArenaStates.slots g.A.ArenaStates.capacity g.A.ArenaCloneFromWith.clones)
          (clonable g.B.ArenaStates.slots g.B.ArenaStates.capacity g.B.ArenaCloneFromWith.clones)
          g.met.A.ArenaCloneFromWith.capacity_cloned g.met.B.ArenaCloneFromWith.capacity_cloned;
    }
