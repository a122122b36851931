use Rattle.std.proofs.Common.{rules, [], ◌≡◌, Some, IsSome, ap, subst, ◌∙◌}
use Rattle.std.specs.Option.{option_map}
use Rattle.triple_arena.specs.Entries.{look_up}
use Rattle.triple_arena.specs.Histories.{Continues}
use Rattle.triple_arena_chain.specs.Chains.{nodes, node_of, node_slots, before_at, IsCut}
use Rattle.triple_arena_chain.proofs.Cutting.{cut_before_is}
use Rattle.triple_arena_chain.proofs.Reading.{read_link}
use Rattle.triple_arena_chain.proofs.chains.Chains.cut_before.Goals as goal

pub invariant_of-self : goal.invariant_of-self
invariant_of-self g c =
    let numbers = g.P.Ptr.numbers in
    let slots = g.A.ArenaStates.slots c.self.inside.arena in
    let new = look_up (node_slots numbers (g.A.ArenaStates.slots c.tie.new.arena)) in
    let found : look_up slots (numbers c.args.p) ≡ Some c.in-Some.link.now = search rules in
    let done = cut_before_is (look_up (node_slots numbers slots)) new c.self.invariant (numbers c.args.p) (node_of numbers c.in-Some.link.now) (read_link numbers slots (numbers c.args.p) ∙ ap (option_map (node_of numbers)) found) c.tie.ensures.nodes in
    done.1

pub returns-clause-cut : goal.returns-clause-cut
returns-clause-cut g c =
    let numbers = g.P.Ptr.numbers in
    let slots = g.A.ArenaStates.slots c.self.inside.arena in
    let new = look_up (node_slots numbers (g.A.ArenaStates.slots c.tie.new.arena)) in
    let found : look_up slots (numbers c.args.p) ≡ Some c.in-Some.link.now = search rules in
    let done = cut_before_is (look_up (node_slots numbers slots)) new c.self.invariant (numbers c.args.p) (node_of numbers c.in-Some.link.now) (read_link numbers slots (numbers c.args.p) ∙ ap (option_map (node_of numbers)) found) c.tie.ensures.nodes in
    subst (λ s. IsCut (nodes s) (before_at (nodes s) (numbers c.args.p)) (Some (numbers c.args.p)) new) c.self.view_is done.0

pub returns-clause-there : goal.returns-clause-there
returns-clause-there g c =
    let numbers = g.P.Ptr.numbers in
    let slots = g.A.ArenaStates.slots c.self.inside.arena in
    let new = look_up (node_slots numbers (g.A.ArenaStates.slots c.tie.new.arena)) in
    let found : look_up slots (numbers c.args.p) ≡ Some c.in-Some.link.now = search rules in
    let done = cut_before_is (look_up (node_slots numbers slots)) new c.self.invariant (numbers c.args.p) (node_of numbers c.in-Some.link.now) (read_link numbers slots (numbers c.args.p) ∙ ap (option_map (node_of numbers)) found) c.tie.ensures.nodes in
    subst (λ s. IsSome (nodes s (numbers c.args.p))) c.self.view_is done.2

pub returns-clause-history : goal.returns-clause-history
returns-clause-history g c = subst (λ s. Continues g.A.ArenaStates.fits s.arena [] c.tie.new.arena) c.self.view_is c.tie.ensures.history
