use Rattle.std.proofs.Common.{◌≡◌}
use Rattle.std.specs.List.{list_any}
use Rattle.triple_arena.specs.Walks.{values}
use Rattle.triple_arena_uses.specs.Entities.{p0_numbers}
use Rattle.triple_arena_direct_uses.specs.Circuit.{net_read, leads_to}
use Rattle.triple_arena_direct_uses.proofs.circuit.ends.is_led_to.Given as goal

abbrev pub invariant-walk : goal.invariant-walk
invariant-walk l =
    list_any (λ net. leads_to (p0_numbers l.fn.cell) (net_read net)) l.net-iterator
    ≡ list_any (λ net. leads_to (p0_numbers l.fn.cell) (net_read net)) (values l.fn.nets.slots)
