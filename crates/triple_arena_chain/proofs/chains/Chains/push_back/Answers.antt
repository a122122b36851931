use Rattle.std.specs.Prelude.{[], Contains}
use Rattle.std.proofs.Common.{◌≡◌, None, Some, sym, ◌∙◌, arith}
use Rattle.triple_arena_ptr.specs.Pointers.{Pointer}
use Rattle.triple_arena_chain.specs.Chains.{nodes}
use Rattle.triple_arena_chain.specs.laws.RunLaws.{end_once, values_pushed}
use Rattle.triple_arena_chain.specs.laws.ResultLaws.{if_ok_1}
use Rattle.triple_arena_chain.proofs.chains.Chains.push_back.Goals as goal

none_in : (p r : Pointer) → Contains [] r → p ≡ r → ⊥
none_in p r (k, within, is) same = omega (arith, within)

pub returns-in-None-clause-listed : goal.returns-in-None-clause-listed
returns-in-None-clause-listed g c =
    let old = nodes c.args.self.now in
    let new = nodes c.insert.new.self in
    let p = g.P.Ptr.numbers c.args.last in
    if_ok_1 _ _ c.insert.result c.insert.ensures.inserted
    (λ q done ps run.
    let law = c.chains_as_lists.ensures.inserted old p (g.P.Ptr.numbers q) c.args.value new ps [] None done run (end_once old p ps run) (none_in p) in
    (law.0, law.1 ∙ sym (values_pushed old p ps (Some c.args.value))))
