use Rattle.std.specs.Prelude.{None}
use Rattle.triple_arena_chain.specs.Chains.{nodes}
use Rattle.triple_arena_chain.specs.laws.ResultLaws.{on_ok_1}
use Rattle.triple_arena_chain.specs.laws.RunLaws.{end_once}
use Rattle.triple_arena_chain_uses.proofs.merging.append.Goals as goal

pub returns-clause-listed : goal.returns-clause-listed
returns-clause-listed g c =
    let old = nodes c.args.lists.now in
    let last = g.P.Ptr.numbers c.args.last in
    on_ok_1 _ _ c.join.result c.join.ensures.joined
    (λ done ps qs run more apart. c.ends_as_lists.ensures.joined old last (g.P.Ptr.numbers c.args.first) (nodes c.join.new.self) ps qs None done run more (end_once old last ps run) apart)
