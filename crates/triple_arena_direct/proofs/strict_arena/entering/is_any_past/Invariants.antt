use Rattle.std.proofs.Common.{◌≡◌, nat_lt}
use Rattle.std.specs.List.{list_any}
use Rattle.triple_arena_ptr.specs.Pointers.{Pointer}
use Rattle.triple_arena_traits.specs.Walks.{keys}
use Rattle.triple_arena_direct.proofs.strict_arena.entering.is_any_past.Given as goal

abbrev pub invariant-entries : goal.invariant-entries
invariant-entries g l =
    list_any (λ (p : Pointer). nat_lt l.fn.arena.counter p.1) l.p-iterator
    ≡ list_any (λ (p : Pointer). nat_lt l.fn.arena.counter p.1) (keys l.fn.arena.slots)
