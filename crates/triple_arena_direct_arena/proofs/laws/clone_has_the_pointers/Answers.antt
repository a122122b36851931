use Rattle.triple_arena_direct_arena.proofs.Mirroring.{same_cloned, same_after}
use Rattle.triple_arena_direct_arena.proofs.laws.clone_has_the_pointers.Goals as goal

pub returns-clause-pointers : goal.returns-clause-pointers
returns-clause-pointers g c = same_cloned _ _

pub returns-clause-mirrors : goal.returns-clause-mirrors
returns-clause-mirrors g c = λ f source copy mirror changes after followed copies keeps made follows.
    same_after source mirror changes after followed (same_cloned _ _ f source copy mirror.slots copies keeps) made follows
