use Rattle.std.proofs.Common.{None, [], ◌∷◌, refl, arith}
use Rattle.triple_arena_stack.specs.StackKind.StackKind.{heap}
use Rattle.triple_arena.specs.ArenaState.{IsWellFormed}
use Rattle.triple_arena_uses.specs.FirstHistory.{one_more, new_one, with_room, with_a, with_b, without_a, with_c, with_b_renewed, all_gone, with_d, closed, first_calls}
use Rattle.triple_arena_uses.proofs.first_history.first_history.Goals as goal

pub returns-clause-calls : goal.returns-clause-calls
returns-clause-calls c =
    let stays = c.well_formed_stays.ensures in
    let room : IsWellFormed with_room = stays.grown heap new_one (stays.new 0 None 18446744073709551615 2) in
    let a : IsWellFormed with_a = stays.inserted with_room 10 room (omega arith) in
    let b : IsWellFormed with_b = stays.inserted with_a 20 a (omega arith) in
    let gone : IsWellFormed without_a = stays.removed one_more with_b 1 b refl in
    let cleared : IsWellFormed all_gone = stays.cleared one_more with_b_renewed in
    (with_room, ((λ i. refl), refl), (with_a, (10, room, refl, refl), (with_b, (20, a, refl, refl), (without_a, (refl, refl), (with_c, (30, gone, refl, refl), (with_b_renewed, (refl, refl, refl), (all_gone, (refl, refl), (with_d, (40, cleared, refl, refl), (closed, (40 ∷ [], refl, refl, refl, refl), refl)))))))))

pub returns-clause-given : goal.returns-clause-given
returns-clause-given c = refl

pub returns-clause-ended : goal.returns-clause-ended
returns-clause-ended c = refl

pub returns-clause-left : goal.returns-clause-left
returns-clause-left c = refl

pub returns-clause-fits : goal.returns-clause-fits
returns-clause-fits c = c.pointers_are_fresh.ensures.calls new_one first_calls closed (returns-clause-calls c) _ (c.pointers_are_fresh.ensures.empty new_one refl)
