use Rattle.std.proofs.lemmas.Result.{on_ok_weaker}
use Rattle.triple_arena_direct_uses.proofs.circuit.Circuit.compact_nets.Goals as goal

pub returns-clause-cells : goal.returns-clause-cells
returns-clause-cells c = rw (← c.self.view_is) (on_ok_weaker c.compress_recast_with.result (c.readings_follow.ensures.arenas _ _ _) c.compress_recast_with.ensures.renamed)
