use Rattle.std.proofs.Common.{rules, sym, ◌∙◌}
use Rattle.triple_arena_recasting.proofs.Renames.{renames}
use Rattle.triple_arena_recasting.proofs.MappedAnswers.{told_mapped, value_mapped}
use Rattle.triple_arena_recasting.proofs.renaming.compress_recaster.Goals as goal

pub returns-clause-map : goal.returns-clause-map
returns-clause-map g c =
    record {
      tells = told_mapped _ _ _ c.compress-answer.result c.map.result c.compress-answer.ensures.answer c.map.ensures;
      maps = rw (value_mapped _ c.put_pointers.new.target c.compress-answer.result c.map.result (λ t y r. search rules) c.map.ensures)
          (renames g.P.Ptr.numbers (g.A.CompactArenaTrait.rank c.args.this.now c.args.reset_generation) (g.A.ArenaStates.slots c.args.this.now) c.put_pointers.new.target.slots
          (c.put_pointers.ensures.keys ∙ c.in_ok-all.ensures.keys) (c.put_pointers.ensures.values ∙ c.compress-answer.ensures.keys));
    }

pub returns-clause-compacted : goal.returns-clause-compacted
returns-clause-compacted g c =
    let is = c.compress-answer.ensures in
    record {
      ranked = is.keys;
      made = is.values;
      left = rw is.values is.done;
      found = is.found;
      history = is.history;
      begun = is.begun;
    }

pub returns-clause-size : goal.returns-clause-size
returns-clause-size g c =
    let is = c.compress-answer.ensures in
    record { len = is.len; same_limit = is.limit; same_capacity = is.capacity }
