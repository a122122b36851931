use Rattle.std.proofs.Common.{None, refl, arith}
use Rattle.triple_arena.specs.ArenaState.{IsWellFormed}
use Rattle.triple_arena.specs.Insertion.{inserted}
use Rattle.triple_arena.specs.Walks.{values}
use Rattle.triple_arena_stack.specs.StackKind.StackKind.{heap}
use Rattle.triple_arena_uses.specs.FirstHistory.{one_more, new_one, with_room, with_a, with_b, reset, with_e, without_e, later_calls}
use Rattle.triple_arena_uses.proofs.first_history.history_after_a_reset.Goals as goal

pub returns-clause-calls : goal.returns-clause-calls
returns-clause-calls c =
    let stays = c.well_formed_stays.ensures in
    let room : IsWellFormed with_room = stays.grown heap new_one (stays.new 0 None 18446744073709551615 2) in
    let a : IsWellFormed with_a = stays.inserted with_room 10 room (omega arith) in
    let b : IsWellFormed with_b = stays.inserted with_a 20 a (omega arith) in
    let first : IsWellFormed reset = c.compression_moves.ensures.well_formed with_b 2 (values with_b.slots) b refl in
    let e : IsWellFormed with_e = stays.inserted reset 50 first (omega arith) in
    let gone : IsWellFormed without_e = stays.removed one_more with_e 3 e refl in
    (with_e, (50, first, refl, refl), (without_e, (refl, refl), (inserted without_e 60, (60, gone, refl, refl), refl)))

pub returns-clause-given : goal.returns-clause-given
returns-clause-given c = refl

pub returns-clause-ended : goal.returns-clause-ended
returns-clause-ended c = refl

pub returns-clause-fits : goal.returns-clause-fits
returns-clause-fits c =
    c.pointers_are_fresh.ensures.calls reset later_calls (inserted without_e 60) (returns-clause-calls c) _ (c.pointers_are_fresh.ensures.reset with_b 2 (values with_b.slots))
