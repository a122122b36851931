use Rattle.std.proofs.Common.{◌≡◌, Some, ap, sym, ◌∙◌}
use Rattle.std.specs.Option.{option_map, option_and_then}
use Rattle.triple_arena_base.specs.Invalidation.{allowed_option}
use Rattle.triple_arena.specs.Ending.{told}
use Rattle.triple_arena.specs.Entries.{look_up}
use Rattle.triple_arena_chain.specs.Chains.{Node, node_of, node_slots, changed, with_after, with_before}
use Rattle.triple_arena_chain.proofs.Reading.{read_link}
use Rattle.triple_arena_chain.specs.laws.TellingLaws.{told_parts, allowed_told}
use Rattle.triple_arena_chain.proofs.Tying.{is_removed}
use Rattle.triple_arena_chain.proofs.steps.unlink.Goals as goal

pub returns-clause-removed : goal.returns-clause-removed
returns-clause-removed g c =
    let numbers = g.P.Ptr.numbers in
    let slots = g.A.ArenaStates.slots c.args.arena.now in
    let mid = look_up (node_slots numbers (g.A.ArenaStates.slots c.take-taken.new.arena)) in
    let parts = told_parts (g.A.ArenaStates.ending_wraps c.args.arena.now) c.take-taken.result c.overflowing-link.result c.take-taken.ensures.answer.tells c.overflowing-link.ensures in
    let found : look_up slots (numbers c.args.p) ≡ Some c.overflowing-link.result.0 = c.take-taken.ensures.answer.value ∙ ap Some (sym parts.0) in
    let node : look_up (node_slots numbers slots) (numbers c.args.p) ≡ Some (node_of numbers c.overflowing-link.result.0) = read_link numbers slots (numbers c.args.p) ∙ ap (option_map (node_of numbers)) found in
    is_removed (look_up (node_slots numbers slots)) mid _ (numbers c.args.p) c.requires.linked c.take-taken.ensures.gone c.take-taken.ensures.others
    (λ r. c.tie.ensures.nodes r ∙ ap (λ o. changed (option_and_then (λ n. n.after) o) (with_before (option_and_then (λ n. n.before) o)) r (changed (option_and_then (λ n. n.before) o) (with_after (option_and_then (λ n. n.after) o)) r (mid r))) (sym node))

pub returns-clause-ended : goal.returns-clause-ended
returns-clause-ended g c = record {
  ended = (c.take-taken.new.arena, c.tie.ensures.written.0, c.take-taken.ensures.done, c.tie.ensures.written.1);
  history = λ up h fits. c.tie.ensures.history _ (c.take-taken.ensures.history up h fits);
}

pub returns-clause-answer : goal.returns-clause-answer
returns-clause-answer g c =
    let numbers = g.P.Ptr.numbers in
    let slots = g.A.ArenaStates.slots c.args.arena.now in
    let wraps = g.A.ArenaStates.ending_wraps c.args.arena.now in
    let link = c.overflowing-link.result.0 in
    let parts = told_parts wraps c.take-taken.result c.overflowing-link.result c.take-taken.ensures.answer.tells c.overflowing-link.ensures in
    let found : look_up slots (numbers c.args.p) ≡ Some link = c.take-taken.ensures.answer.value ∙ ap Some (sym parts.0) in
    let same : link.value ≡ allowed_option c.telling.result = sym (allowed_told c.overflowing-link.result.1 link.value) ∙ sym (ap allowed_option c.telling.ensures) in
    record {
      value = ap (option_map (λ (n : Node g.row.T.Denot). n.value)) (read_link numbers slots (numbers c.args.p) ∙ ap (option_map (node_of numbers)) found) ∙ ap Some same;
      tells = c.telling.ensures ∙ ap (λ b. told b link.value) parts.1 ∙ ap (told wraps) same;
    }

pub returns-clause-room : goal.returns-clause-room
returns-clause-room g c = record {
  capacity = c.tie.ensures.size.same_capacity ∙ c.take-taken.ensures.room.capacity;
  limit = c.tie.ensures.size.same_limit ∙ c.take-taken.ensures.room.limit;
}
