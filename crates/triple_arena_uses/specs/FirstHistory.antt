-- Two histories that are computed call by call: of a new arena, and of one that was just compressed with a reset.
use Rattle.std.specs.Prelude.{ℕ, ◌+◌, List, [], ◌∷◌, None}
use Rattle.triple_arena_stack.specs.StackKind.StackKind.{heap}
use Rattle.triple_arena.specs.ArenaState.{ArenaState, new_arena}
use Rattle.triple_arena.specs.Insertion.{next_pointer, inserted}
use Rattle.triple_arena.specs.Ending.{removed, invalidated, cleared}
use Rattle.triple_arena.specs.Reallocation.{grown}
use Rattle.triple_arena.specs.Compression.{compressed, raised_if_any}
use Rattle.triple_arena.specs.Walks.{keys, values}
use Rattle.triple_arena.specs.Histories.{ModelCall, insertion, removal, invalidation, clearing, compression, resizing}

abbrev pub one_more : ℕ → ℕ
one_more n = n + 1

-- a new arena, and what stands after each call
abbrev pub new_one : ArenaState ℕ
new_one = new_arena 0 None 18446744073709551615 2

abbrev pub with_room : ArenaState ℕ
with_room = grown heap new_one

abbrev pub with_a : ArenaState ℕ
with_a = inserted with_room 10

abbrev pub with_b : ArenaState ℕ
with_b = inserted with_a 20

abbrev pub without_a : ArenaState ℕ
without_a = removed one_more with_b 1

abbrev pub with_c : ArenaState ℕ
with_c = inserted without_a 30

abbrev pub with_b_renewed : ArenaState ℕ
with_b_renewed = invalidated one_more with_c 2

abbrev pub all_gone : ArenaState ℕ
all_gone = cleared one_more with_b_renewed

abbrev pub with_d : ArenaState ℕ
with_d = inserted all_gone 40

abbrev pub closed : ArenaState ℕ
closed = compressed with_d (raised_if_any one_more with_d) (values with_d.slots)

-- the calls that were made
abbrev pub first_calls : List ModelCall
first_calls =
    resizing
    ∷ insertion (next_pointer with_room)
    ∷ insertion (next_pointer with_a)
    ∷ removal (1, 2)
    ∷ insertion (next_pointer without_a)
    ∷ invalidation (2, 2) (2, with_b_renewed.counter)
    ∷ clearing (keys with_b_renewed.slots)
    ∷ insertion (next_pointer all_gone)
    ∷ compression (keys with_d.slots) (keys closed.slots)
    ∷ []

-- the arena of a and b, compressed with a reset, and what stands after three more calls
abbrev pub reset : ArenaState ℕ
reset = compressed with_b 2 (values with_b.slots)

abbrev pub with_e : ArenaState ℕ
with_e = inserted reset 50

abbrev pub without_e : ArenaState ℕ
without_e = removed one_more with_e 3

abbrev pub later_calls : List ModelCall
later_calls = insertion (next_pointer reset) ∷ removal (3, 2) ∷ insertion (next_pointer without_e) ∷ []
