use Rattle.std.proofs.Common.{rules, ◌≡◌, ◌||◌, false, sym, ap, ◌∙◌, map}
use Rattle.std.specs.List.{list_any}
use Rattle.std.specs.Option.{option_map, option_map_or}
use Rattle.triple_arena_ptr.specs.Pointers.{is_same}
use Rattle.triple_arena_uses.specs.Entities.{p0_numbers}
use Rattle.triple_arena_direct_uses.proofs.Reading.{any_numbers}
use Rattle.triple_arena_direct_uses.proofs.circuit.Net.leads_to.Goals as goal

pub returns-else-eq : goal.returns-else-eq
returns-else-eq c =
    let net = c.args.self.now in
    let undriven : option_map_or (λ p. is_same p (p0_numbers c.args.cell)) (option_map p0_numbers net.driver) false ≡ false = search rules in
    let told : c.contains.result ≡ list_any (λ p. is_same (p0_numbers p) (p0_numbers c.args.cell)) net.sinks.items = search rules in
    told ∙ any_numbers p0_numbers (λ p. is_same p (p0_numbers c.args.cell)) net.sinks.items
    ∙ ap (λ b. b || list_any (λ p. is_same p (p0_numbers c.args.cell)) (map p0_numbers net.sinks.items)) (sym undriven)
