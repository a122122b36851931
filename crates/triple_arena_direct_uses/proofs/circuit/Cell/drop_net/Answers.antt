use Rattle.std.proofs.Common.{rules, Bool, ap, ◌∙◌, map, not}
use Rattle.std.proofs.lemmas.Fn.{filter_same}
use Rattle.triple_arena_ptr.specs.Pointers.{Pointer, is_same}
use Rattle.triple_arena_direct_uses.specs.Circuit.{q2_numbers, cell_read}
use Rattle.triple_arena_direct_uses.proofs.Reading.{filter_numbers}
use Rattle.triple_arena_direct_uses.proofs.circuit.Cell.drop_net.Goals as goal

pub returns : goal.returns
returns c =
    let kept : Pointer → Bool = λ q. not (is_same q (q2_numbers c.args.net)) in
    ap (λ l. record (cell_read c.args.self.now) { reads = l })
    (ap (map q2_numbers) (filter_same _ (λ p. kept (q2_numbers p)) _ (λ p b f called. search rules) _ _ c.retain.ensures.filtered) ∙ filter_numbers q2_numbers kept c.args.self.now.reads.items)
