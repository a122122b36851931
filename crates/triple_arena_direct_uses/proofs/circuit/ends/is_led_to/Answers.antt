use Rattle.std.proofs.Common.{rules}
use Rattle.triple_arena.specs.laws.ReadLaws.{any_found, none_found}
use Rattle.triple_arena_uses.specs.Entities.{p0_numbers}
use Rattle.triple_arena_direct_uses.specs.Circuit.{net_read, leads_to}
use Rattle.triple_arena_direct_uses.proofs.circuit.ends.is_led_to.Goals as goal

pub returns-then-leads_to-clause-led : goal.returns-then-leads_to-clause-led
returns-then-leads_to-clause-led c = λ _. any_found net_read (leads_to (p0_numbers c.args.cell)) c.args.nets.now.slots (search rules)

pub returns-clause-unled : goal.returns-clause-unled
returns-clause-unled c = λ _. none_found net_read (leads_to (p0_numbers c.args.cell)) c.args.nets.now.slots (search rules)
