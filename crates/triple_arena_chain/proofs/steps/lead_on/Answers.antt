use Rattle.std.proofs.Common.{rules, ◌≡◌, [], ◌∷◌, Some, ap, sym, ◌∙◌, refl}
use Rattle.std.specs.Option.{option_map}
use Rattle.triple_arena.specs.Entries.{look_up}
use Rattle.triple_arena_chain.specs.Chains.{node_slots, changed, with_after}
use Rattle.triple_arena_chain.proofs.Reading.{changed_link}
use Rattle.triple_arena_chain.proofs.steps.lead_on.Goals as goal

pub returns-clause-nodes : goal.returns-clause-nodes
returns-clause-nodes g c = λ q.
    let slots = g.A.ArenaStates.slots c.args.arena.now in
    let change = with_after {T = g.row.T.Denot} (option_map g.P.Ptr.numbers c.args.after) in
    let found : look_up slots (g.P.Ptr.numbers c.in-Some.at) ≡ Some c.in-Some-get_mut.link.now = search rules in
    ap (λ s. look_up (node_slots g.P.Ptr.numbers s) q) (g.met.A.ArenaLaws.slots_with_value c.args.arena.now (g.P.Ptr.numbers c.in-Some.at).0 (record c.in-Some-get_mut.link.now { after = c.args.after }))
    ∙ changed_link g.P.Ptr.numbers slots c.in-Some.at c.in-Some-get_mut.link.now (record c.in-Some-get_mut.link.now { after = c.args.after }) change found refl q
    ∙ ap (λ at. changed (option_map g.P.Ptr.numbers at) change q (look_up (node_slots g.P.Ptr.numbers slots) q)) (sym c.in-Some.is)

pub returns-clause-written : goal.returns-clause-written
returns-clause-written g c = (((g.P.Ptr.numbers c.in-Some.at).0, record c.in-Some-get_mut.link.now { after = c.args.after }) ∷ [], refl)

pub returns-clause-history : goal.returns-clause-history
returns-clause-history g c = λ h fits. c.get_mut.ensures.written _ h fits
