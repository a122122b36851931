use Rattle.std.proofs.Common.{map, ap, ◌∙◌}
use Rattle.std.proofs.lemmas.Result.{on_ok_weaker}
use Rattle.triple_arena_base.specs.laws.ReadingLaws.{itself_follows, vec_follows}
use Rattle.triple_arena_direct.specs.Concrete.{p0_numbers, q2_numbers, moved}
use Rattle.triple_arena_direct.specs.Holding.{itself, labelled}
use Rattle.triple_arena_direct_uses.specs.Labels.{label_read, label_renamed}
use Rattle.triple_arena_direct_uses.proofs.labels.compact_labelled.Goals as goal

pub returns-clause-read : goal.returns-clause-read
returns-clause-read c = on_ok_weaker c.compress_recast_both_with.result (λ is. record {
  labels_of_cells = ap (λ labels. map (label_read p0_numbers) labels.cells.items) is.filled
      ∙ vec_follows p0_numbers (labelled itself).held (labelled itself).refill (label_read p0_numbers) label_renamed
      (λ rename r l names. ap (λ p. (r.0, p)) (itself_follows p0_numbers rename r.1 l names)) (moved c.args.cells.now) c.args.labels.now.cells _ is.holds;
  labels_of_nets = ap (λ labels. map (label_read q2_numbers) labels.nets.items) is.filled
      ∙ vec_follows q2_numbers (labelled itself).held (labelled itself).refill (label_read q2_numbers) label_renamed
      (λ rename r l names. ap (λ p. (r.0, p)) (itself_follows q2_numbers rename r.1 l names)) (moved c.args.nets.now) c.args.labels.now.nets _ is.holds_too;
}) c.compress_recast_both_with.ensures.renamed
