use Rattle.std.proofs.Common.{rules, [], ◌≡◌, Some, ap, subst, ◌∙◌}
use Rattle.std.specs.Option.{option_map}
use Rattle.triple_arena.specs.Entries.{look_up}
use Rattle.triple_arena.specs.Histories.{Continues}
use Rattle.triple_arena_chain.specs.Chains.{nodes, node_of, node_slots, IsJoined, AreOpen}
use Rattle.triple_arena_chain.proofs.Cutting.{joined_is, none_of}
use Rattle.triple_arena_chain.proofs.Reading.{read_link}
use Rattle.triple_arena_chain.proofs.chains.Chains.join.Goals as goal

pub invariant_of-self : goal.invariant_of-self
invariant_of-self g c =
    let numbers = g.P.Ptr.numbers in
    let slots = g.A.ArenaStates.slots c.self.inside.arena in
    let new = look_up (node_slots numbers (g.A.ArenaStates.slots c.tie.new.arena)) in
    let end : look_up slots (numbers c.args.last) ≡ Some c.in-Some.end.now = search rules in
    let start : look_up slots (numbers c.args.first) ≡ Some c.in-Some-get.start.now = search rules in
    let done =
    joined_is (look_up (node_slots numbers slots)) new c.self.invariant (numbers c.args.last) (numbers c.args.first) (node_of numbers c.in-Some.end.now) (node_of numbers c.in-Some-get.start.now)
    (read_link numbers slots (numbers c.args.last) ∙ ap (option_map (node_of numbers)) end) (read_link numbers slots (numbers c.args.first) ∙ ap (option_map (node_of numbers)) start)
    (ap (option_map numbers) (none_of c.in-Some.end.now.after c.if-is_some.ensures)) (ap (option_map numbers) (none_of c.in-Some-get.start.now.before c.if-is_some-2.ensures)) c.tie.ensures.nodes in
    done.1

pub returns-clause-joined : goal.returns-clause-joined
returns-clause-joined g c =
    let numbers = g.P.Ptr.numbers in
    let slots = g.A.ArenaStates.slots c.self.inside.arena in
    let new = look_up (node_slots numbers (g.A.ArenaStates.slots c.tie.new.arena)) in
    let end : look_up slots (numbers c.args.last) ≡ Some c.in-Some.end.now = search rules in
    let start : look_up slots (numbers c.args.first) ≡ Some c.in-Some-get.start.now = search rules in
    let done =
    joined_is (look_up (node_slots numbers slots)) new c.self.invariant (numbers c.args.last) (numbers c.args.first) (node_of numbers c.in-Some.end.now) (node_of numbers c.in-Some-get.start.now)
    (read_link numbers slots (numbers c.args.last) ∙ ap (option_map (node_of numbers)) end) (read_link numbers slots (numbers c.args.first) ∙ ap (option_map (node_of numbers)) start)
    (ap (option_map numbers) (none_of c.in-Some.end.now.after c.if-is_some.ensures)) (ap (option_map numbers) (none_of c.in-Some-get.start.now.before c.if-is_some-2.ensures)) c.tie.ensures.nodes in
    subst (λ s. IsJoined (nodes s) (numbers c.args.last) (numbers c.args.first) new) c.self.view_is done.0

pub returns-clause-open : goal.returns-clause-open
returns-clause-open g c =
    let numbers = g.P.Ptr.numbers in
    let slots = g.A.ArenaStates.slots c.self.inside.arena in
    let new = look_up (node_slots numbers (g.A.ArenaStates.slots c.tie.new.arena)) in
    let end : look_up slots (numbers c.args.last) ≡ Some c.in-Some.end.now = search rules in
    let start : look_up slots (numbers c.args.first) ≡ Some c.in-Some-get.start.now = search rules in
    let done =
    joined_is (look_up (node_slots numbers slots)) new c.self.invariant (numbers c.args.last) (numbers c.args.first) (node_of numbers c.in-Some.end.now) (node_of numbers c.in-Some-get.start.now)
    (read_link numbers slots (numbers c.args.last) ∙ ap (option_map (node_of numbers)) end) (read_link numbers slots (numbers c.args.first) ∙ ap (option_map (node_of numbers)) start)
    (ap (option_map numbers) (none_of c.in-Some.end.now.after c.if-is_some.ensures)) (ap (option_map numbers) (none_of c.in-Some-get.start.now.before c.if-is_some-2.ensures)) c.tie.ensures.nodes in
    subst (λ s. AreOpen (nodes s) (numbers c.args.last) (numbers c.args.first)) c.self.view_is (record { open_after = done.2; open_before = done.3 })

pub returns-clause-history : goal.returns-clause-history
returns-clause-history g c = subst (λ s. Continues g.A.ArenaStates.fits s.arena [] c.tie.new.arena) c.self.view_is c.tie.ensures.history
