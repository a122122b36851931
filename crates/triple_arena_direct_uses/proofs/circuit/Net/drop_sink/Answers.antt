use Rattle.std.proofs.Common.{rules, Bool, ap, ◌∙◌, map, not}
use Rattle.std.proofs.lemmas.Fn.{filter_same}
use Rattle.triple_arena_ptr.specs.Pointers.{Pointer, is_same}
use Rattle.triple_arena_uses.specs.Entities.{p0_numbers}
use Rattle.triple_arena_direct_uses.specs.Circuit.{net_read}
use Rattle.triple_arena_direct_uses.proofs.Reading.{filter_numbers}
use Rattle.triple_arena_direct_uses.proofs.circuit.Net.drop_sink.Goals as goal

pub returns : goal.returns
returns c =
    let kept : Pointer → Bool = λ q. not (is_same q (p0_numbers c.args.cell)) in
    ap (λ l. record (net_read c.args.self.now) { sinks = l })
    (ap (map p0_numbers) (filter_same _ (λ p. kept (p0_numbers p)) _ (λ p b f called. search rules) _ _ c.retain.ensures.filtered) ∙ filter_numbers p0_numbers kept c.args.self.now.sinks.items)
