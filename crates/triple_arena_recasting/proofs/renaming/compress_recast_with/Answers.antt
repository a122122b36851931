use Rattle.std.proofs.Common.{rules, ap, ◌∙◌}
use Rattle.triple_arena_base.specs.Held.{recast_items, held_all}
use Rattle.triple_arena_traits.specs.Entries.{look_up}
use Rattle.triple_arena_traits.specs.Walks.{values}
use Rattle.triple_arena_recasting.specs.laws.RenamingLaws.{front_resolved, followed}
use Rattle.triple_arena_recasting.proofs.MappedAnswers.{told_mapped, value_mapped}
use Rattle.triple_arena_recasting.proofs.renaming.compress_recast_with.Goals as goal

pub compress_renaming-answer-requires-clause-resolved : goal.compress_renaming-answer-requires-clause-resolved
compress_renaming-answer-requires-clause-resolved g c κs within =
    let slots = g.A.ArenaStates.slots c.args.this.now in
    rw c.in_ok-pointers.ensures.unchanged
    (front_resolved g.P.Ptr.numbers slots (held_all g.T.Recast.held (values slots)) (g.H.Recast.held c.args.holder.now) c.in_ok-pointers.ensures.resolved).0

pub returns-clause-map : goal.returns-clause-map
returns-clause-map g c =
    let same = c.in_ok-pointers.ensures.unchanged in
    record {
      tells = told_mapped _ _ _ c.compress_renaming-answer.result c.map.result (rw same at c.compress_renaming-answer.ensures.answer) c.map.ensures;
      maps = rw (value_mapped _ c.compress_renaming-answer.new.images c.compress_renaming-answer.result c.map.result (λ t y r. search rules) c.map.ensures) (rw same at c.compress_renaming-answer.ensures.maps);
    }

pub returns-clause-compacted : goal.returns-clause-compacted
returns-clause-compacted g c = rw c.in_ok-pointers.ensures.unchanged at c.compress_renaming-answer.ensures.compacted

pub returns-clause-size : goal.returns-clause-size
returns-clause-size g c = rw c.in_ok-pointers.ensures.unchanged at c.compress_renaming-answer.ensures.size

pub returns-clause-renamed : goal.returns-clause-renamed
returns-clause-renamed g c =
    let old = c.args.this.now in
    let slots = g.A.ArenaStates.slots old in
    let images = c.compress_renaming-answer.new.images.slots in
    let held = g.H.Recast.held in
    let resolved = front_resolved g.P.Ptr.numbers slots (held_all g.T.Recast.held (values slots)) (held c.args.holder.now) c.in_ok-pointers.ensures.resolved in
    let is = c.recast-renamed.ensures.after ∙ ap (λ (h : g.row.H.Denot). g.H.Recast.refill h (recast_items (λ p. look_up images (g.P.Ptr.numbers p)) (held h))) c.in_ok-pointers.ensures.holder_unchanged in
    followed g.P.Ptr.numbers (g.A.CompactArenaTrait.rank old c.args.reset_generation) held g.H.Recast.refill g.met.H.Recast.held_refill slots images
    (rw c.in_ok-pointers.ensures.unchanged at c.compress_renaming-answer.ensures.maps) c.args.holder.now c.recast-renamed.new.self resolved.1 is
