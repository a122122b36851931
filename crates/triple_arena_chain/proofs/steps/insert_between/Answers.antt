use Rattle.std.proofs.Common.{sym, ap}
use Rattle.std.specs.Option.{option_map}
use Rattle.triple_arena.specs.Entries.{look_up}
use Rattle.triple_arena_chain.specs.Chains.{node_slots}
use Rattle.triple_arena_chain.proofs.Sizes.{more_then_same, told_as, depends_on_room}
use Rattle.triple_arena_chain.proofs.Tying.{is_inserted}
use Rattle.triple_arena_chain.proofs.steps.insert_between.Goals as goal

pub returns-in-Ok-clause-inserted : goal.returns-in-Ok-clause-inserted
returns-in-Ok-clause-inserted g c =
    let numbers = g.P.Ptr.numbers in
    let put = c.in-Ok.ensures.put in
    is_inserted (look_up (node_slots numbers (g.A.ArenaStates.slots c.args.arena.now))) (look_up (node_slots numbers (g.A.ArenaStates.slots c.put.new.arena))) _
    (option_map numbers c.args.prev) (option_map numbers c.args.next) (numbers c.in-Ok.q) c.args.value c.requires.prev c.requires.next put.free put.found put.others
    c.tie.ensures.nodes

pub returns-in-Ok-clause-size : goal.returns-in-Ok-clause-size
returns-in-Ok-clause-size g c = more_then_same _ _ _ _ _ _ c.in-Ok.ensures.size c.tie.ensures.size.len c.tie.ensures.size.same_capacity c.tie.ensures.size.same_limit

pub returns-in-Ok-clause-room : goal.returns-in-Ok-clause-room
returns-in-Ok-clause-room g c = depends_on_room _ _ _ c.put.result _ (sym (ap told_as c.in-Ok.is)) c.put.ensures.beyond c.put.ensures.with_memory c.put.ensures.indexed c.put.ensures.had_place
