use Rattle.std.proofs.Common.{rules, ◌≡◌, ◌∙◌}
use Rattle.std.specs.List.{list_any}
use Rattle.triple_arena_ptr.specs.Pointers.{is_same}
use Rattle.triple_arena_direct_uses.specs.Circuit.{q2_numbers}
use Rattle.triple_arena_direct_uses.proofs.Reading.{any_numbers}
use Rattle.triple_arena_direct_uses.proofs.circuit.Cell.reads_net.Goals as goal

pub returns : goal.returns
returns c =
    let told : c.contains.result ≡ list_any (λ p. is_same (q2_numbers p) (q2_numbers c.args.net)) c.args.self.now.reads.items = search rules in
    told ∙ any_numbers q2_numbers (λ p. is_same p (q2_numbers c.args.net)) c.args.self.now.reads.items
