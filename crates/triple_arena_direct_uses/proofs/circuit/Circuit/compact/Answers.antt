use Rattle.std.proofs.Common.{refl}
use Rattle.std.proofs.lemmas.Result.{IfOk-weaker, on_ok_weaker}
use Rattle.triple_arena_direct_uses.proofs.circuit.Circuit.compact.Goals as goal

pub returns-clause-cell_map : goal.returns-clause-cell_map
returns-clause-cell_map c = rw (← c.self.view_is) (IfOk-weaker c.compress_recast_both.result _ _ (λ answers told. told.0) c.compress_recast_both.ensures.maps)

pub returns-clause-net_map : goal.returns-clause-net_map
returns-clause-net_map c = rw (← c.self.view_is) (IfOk-weaker c.compress_recast_both.result _ _ (λ answers told. told.1) c.compress_recast_both.ensures.maps)

pub returns-clause-cells : goal.returns-clause-cells
returns-clause-cells c = rw (← c.self.view_is) (on_ok_weaker c.compress_recast_both.result (λ is p live. c.readings_follow_both.ensures (λ v. refl) _ _ _ _ (is.found p live)) c.compress_recast_both.ensures.first)

pub returns-clause-nets : goal.returns-clause-nets
returns-clause-nets c = rw (← c.self.view_is) (on_ok_weaker c.compress_recast_both.result (λ is n live. c.readings_follow_both-2.ensures (λ v. refl) _ _ _ _ (is.found n live)) c.compress_recast_both.ensures.second)

pub returns-clause-there : goal.returns-clause-there
returns-clause-there c = rw (← c.self.view_is) (on_ok_weaker c.compress_recast_both.result (λ all. record {
  cells_there = c.relations_resolve.ensures.all _ _ all.first_resolved;
  nets_there = c.relations_resolve-2.ensures.all _ _ all.second_resolved;
}) c.compress_recast_both.ensures.resolved)
