use Rattle.std.proofs.Common.{rules}
use Rattle.triple_arena_recasting.proofs.MappedAnswers.{told_mapped, value_mapped}
use Rattle.triple_arena_recasting.proofs.renaming.compress_recast.Goals as goal

pub returns-clause-map : goal.returns-clause-map
returns-clause-map g c =
    let same = c.in_ok-images.ensures.unchanged in
    record {
      tells = told_mapped _ _ _ c.compress_renaming-answer.result c.map.result (rw same at c.compress_renaming-answer.ensures.answer) c.map.ensures;
      maps = rw (value_mapped _ c.compress_renaming-answer.new.images c.compress_renaming-answer.result c.map.result (λ t y r. search rules) c.map.ensures) (rw same at c.compress_renaming-answer.ensures.maps);
    }

pub returns-clause-compacted : goal.returns-clause-compacted
returns-clause-compacted g c = rw c.in_ok-images.ensures.unchanged at c.compress_renaming-answer.ensures.compacted

pub returns-clause-size : goal.returns-clause-size
returns-clause-size g c = rw c.in_ok-images.ensures.unchanged at c.compress_renaming-answer.ensures.size
