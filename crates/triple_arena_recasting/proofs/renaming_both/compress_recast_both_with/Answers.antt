use Rattle.std.proofs.Common.{rules, length, sym, ap, ◌∙◌}
use Rattle.triple_arena_base.specs.Held.{held_all, recast_items}
use Rattle.triple_arena_traits.specs.Entries.{look_up}
use Rattle.triple_arena_traits.specs.Walks.{values}
use Rattle.triple_arena_traits.specs.laws.CompressionLaws.{length-keys}
use Rattle.triple_arena_recasting.specs.laws.ImageLaws.{three_resolved}
use Rattle.triple_arena_recasting.specs.laws.RenamingBothLaws.{found_both}
use Rattle.triple_arena_recasting.proofs.FollowedBoth.{followed_both, holder_followed}
use Rattle.triple_arena_recasting.proofs.MappedAnswers.{told_mapped, value_mapped}
use Rattle.triple_arena_recasting.proofs.renaming_both.compress_recast_both_with.Goals as goal

pub compress_renaming-first_answer-requires-clause-resolved : goal.compress_renaming-first_answer-requires-clause-resolved
compress_renaming-first_answer-requires-clause-resolved g c κs within =
    let slots = g.A.ArenaStates.slots c.args.first.now in
    let same = c.in-Ok-resolved_beside.ensures.beside_unchanged ∙ c.in-Ok.ensures.unchanged in
    rw same (three_resolved g.P.Ptr.numbers slots (held_all g.T.Recast-1.held (values slots)) (held_all g.U.Recast-1.held (values (g.B.ArenaStates.slots c.args.second.now))) (g.H.Recast-1.held c.args.holder.now) c.in-Ok.ensures.resolved).0

pub compress_renaming-second_answer-requires-clause-resolved : goal.compress_renaming-second_answer-requires-clause-resolved
compress_renaming-second_answer-requires-clause-resolved g c κs within =
    let slots = g.B.ArenaStates.slots c.resolved_beside.new.beside in
    rw c.in-Ok-resolved_beside.ensures.unchanged
    (three_resolved g.Q.Ptr.numbers slots (held_all g.U.Recast-2.held (values slots)) (held_all g.T.Recast-2.held (values (g.A.ArenaStates.slots c.resolved_beside.new.this))) (g.H.Recast-2.held c.resolved_beside.new.holder) c.in-Ok-resolved_beside.ensures.resolved).0

pub returns-clause-maps : goal.returns-clause-maps
returns-clause-maps g c =
    let same = c.in-Ok-resolved_beside.ensures.beside_unchanged ∙ c.in-Ok.ensures.unchanged in
    let same_too = c.in-Ok-resolved_beside.ensures.unchanged ∙ c.in-Ok.ensures.beside_unchanged in (
      record {
        tells = told_mapped _ _ _ c.compress_renaming-first_answer.result c.map.result (rw same at c.compress_renaming-first_answer.ensures.answer) c.map.ensures;
        maps = rw (value_mapped _ c.compress_renaming-first_answer.new.images c.compress_renaming-first_answer.result c.map.result (λ t y r. search rules) c.map.ensures) (rw same at c.compress_renaming-first_answer.ensures.maps);
      },
      record {
        tells = told_mapped _ _ _ c.compress_renaming-second_answer.result c.map-2.result (rw same_too at c.compress_renaming-second_answer.ensures.answer) c.map-2.ensures;
        maps = rw (value_mapped _ c.compress_renaming-second_answer.new.images c.compress_renaming-second_answer.result c.map-2.result (λ t y r. search rules) c.map-2.ensures) (rw same_too at c.compress_renaming-second_answer.ensures.maps);
      },
    )

pub returns-clause-first : goal.returns-clause-first
returns-clause-first g c =
    let old = c.args.first.now in
    let new = c.recast_entries-renamed.new.arena in
    let rank = g.A.CompactArenaTrait.rank old c.args.reset_generation in
    let rank_too = g.B.CompactArenaTrait.rank c.args.second.now c.args.reset_generation in
    let same = c.in-Ok-resolved_beside.ensures.beside_unchanged ∙ c.in-Ok.ensures.unchanged in
    let same_too = c.in-Ok-resolved_beside.ensures.unchanged ∙ c.in-Ok.ensures.beside_unchanged in
    let slots_too = g.B.ArenaStates.slots c.args.second.now in
    let none = (three_resolved g.Q.Ptr.numbers slots_too (held_all g.U.Recast-2.held (values slots_too)) (held_all g.T.Recast-2.held (values (g.A.ArenaStates.slots old))) (g.H.Recast-2.held c.resolved_beside.new.holder)
    (rw (c.in-Ok.ensures.unchanged, c.in-Ok.ensures.beside_unchanged) at c.in-Ok-resolved_beside.ensures.resolved)).1 in
    let is = rw same at c.compress_renaming-first_answer.ensures.compacted in
    let moved = is.ranked in
    let follows = followed_both g.P.Ptr.numbers rank g.T.Recast-1.held g.T.Recast-1.refill g.Q.Ptr.numbers rank_too g.T.Recast-2.held g.T.Recast-2.refill
    c.requires.first_apart g.met.T.Recast-2.held_refill
    g.A.ArenaStates.slots g.A.ArenaStates.with_value old c.compress_renaming-first_answer.new.this new (g.A.CompactArenaTrait.compresses old c.args.reset_generation)
    (g.met.A.CompactArenaTrait.compresses_with_value old c.args.reset_generation) (g.met.A.CompactArenaTrait.values_compressed old c.args.reset_generation) (g.met.A.CompactArenaTrait.ranked old c.args.reset_generation)
    slots_too c.compress_renaming-second_answer.new.images.slots (rw same_too at c.compress_renaming-second_answer.ensures.maps) (values (g.A.ArenaStates.slots c.compress_renaming-first_answer.new.this), is.made, is.left) moved none c.recast_entries-renamed.ensures.after in
    let stand = c.recast_entries-renamed.ensures.keys ∙ moved in
    record {
      ranked = stand;
      made = follows.0;
      left = follows.1;
      found = found_both g.P.Ptr.numbers rank g.T.Recast-1.held g.T.Recast-1.refill g.Q.Ptr.numbers rank_too g.T.Recast-2.held g.T.Recast-2.refill
          rank (g.A.ArenaStates.slots old) (g.A.ArenaStates.slots new) stand follows.0;
      history = λ unset up h fits. rw c.recast_entries-renamed.ensures.keys (c.recast_entries-renamed.ensures.history _ (is.history unset up h fits));
      begun = λ h fits. rw c.recast_entries-renamed.ensures.keys (c.recast_entries-renamed.ensures.history _ (is.begun h fits));
    }

pub returns-clause-second : goal.returns-clause-second
returns-clause-second g c =
    let old = c.args.second.now in
    let new = c.recast_entries-also_renamed.new.arena in
    let rank = g.B.CompactArenaTrait.rank old c.args.reset_generation in
    let rank_too = g.A.CompactArenaTrait.rank c.args.first.now c.args.reset_generation in
    let same = c.in-Ok-resolved_beside.ensures.unchanged ∙ c.in-Ok.ensures.beside_unchanged in
    let same_too = c.in-Ok-resolved_beside.ensures.beside_unchanged ∙ c.in-Ok.ensures.unchanged in
    let slots_too = g.A.ArenaStates.slots c.args.first.now in
    let none = (three_resolved g.P.Ptr.numbers slots_too (held_all g.T.Recast-1.held (values slots_too)) (held_all g.U.Recast-1.held (values (g.B.ArenaStates.slots old))) (g.H.Recast-1.held c.args.holder.now) c.in-Ok.ensures.resolved).1 in
    let is = rw same at c.compress_renaming-second_answer.ensures.compacted in
    let moved = is.ranked in
    let follows = followed_both g.Q.Ptr.numbers rank g.U.Recast-2.held g.U.Recast-2.refill g.P.Ptr.numbers rank_too g.U.Recast-1.held g.U.Recast-1.refill
    c.requires.second_apart g.met.U.Recast-1.held_refill
    g.B.ArenaStates.slots g.B.ArenaStates.with_value old c.compress_renaming-second_answer.new.this new (g.B.CompactArenaTrait.compresses old c.args.reset_generation)
    (g.met.B.CompactArenaTrait.compresses_with_value old c.args.reset_generation) (g.met.B.CompactArenaTrait.values_compressed old c.args.reset_generation) (g.met.B.CompactArenaTrait.ranked old c.args.reset_generation)
    slots_too c.compress_renaming-first_answer.new.images.slots (rw same_too at c.compress_renaming-first_answer.ensures.maps) (values (g.B.ArenaStates.slots c.compress_renaming-second_answer.new.this), is.made, is.left) moved none c.recast_entries-also_renamed.ensures.after in
    let stand = c.recast_entries-also_renamed.ensures.keys ∙ moved in
    record {
      ranked = stand;
      made = follows.0;
      left = follows.1;
      found = found_both g.Q.Ptr.numbers rank g.U.Recast-2.held g.U.Recast-2.refill g.P.Ptr.numbers rank_too g.U.Recast-1.held g.U.Recast-1.refill
          rank (g.B.ArenaStates.slots old) (g.B.ArenaStates.slots new) stand follows.0;
      history = λ unset up h fits. rw c.recast_entries-also_renamed.ensures.keys (c.recast_entries-also_renamed.ensures.history _ (is.history unset up h fits));
      begun = λ h fits. rw c.recast_entries-also_renamed.ensures.keys (c.recast_entries-also_renamed.ensures.history _ (is.begun h fits));
    }

pub returns-clause-sizes : goal.returns-clause-sizes
returns-clause-sizes g c =
    let same = c.in-Ok-resolved_beside.ensures.beside_unchanged ∙ c.in-Ok.ensures.unchanged in
    let same_too = c.in-Ok-resolved_beside.ensures.unchanged ∙ c.in-Ok.ensures.beside_unchanged in (
      record {
        len = sym (length-keys (g.A.ArenaStates.slots c.recast_entries-renamed.new.arena)) ∙ ap length c.recast_entries-renamed.ensures.keys ∙ length-keys (g.A.ArenaStates.slots c.compress_renaming-first_answer.new.this)
            ∙ (rw same at c.compress_renaming-first_answer.ensures.size).len;
        same_limit = search rules;
        same_capacity = search rules;
      },
      record {
        len = sym (length-keys (g.B.ArenaStates.slots c.recast_entries-also_renamed.new.arena)) ∙ ap length c.recast_entries-also_renamed.ensures.keys ∙ length-keys (g.B.ArenaStates.slots c.compress_renaming-second_answer.new.this)
            ∙ (rw same_too at c.compress_renaming-second_answer.ensures.size).len;
        same_limit = search rules;
        same_capacity = search rules;
      },
    )

pub returns-clause-renamed : goal.returns-clause-renamed
returns-clause-renamed g c =
    let first = c.args.first.now in
    let second = c.args.second.now in
    let slots = g.A.ArenaStates.slots first in
    let slots_too = g.B.ArenaStates.slots second in
    let images = c.compress_renaming-first_answer.new.images.slots in
    let same = c.in-Ok-resolved_beside.ensures.beside_unchanged ∙ c.in-Ok.ensures.unchanged in
    let same_too = c.in-Ok-resolved_beside.ensures.unchanged ∙ c.in-Ok.ensures.beside_unchanged in
    let same_holder = c.in-Ok-resolved_beside.ensures.holder_unchanged ∙ c.in-Ok.ensures.holder_unchanged in
    let none = (three_resolved g.P.Ptr.numbers slots (held_all g.T.Recast-1.held (values slots)) (held_all g.U.Recast-1.held (values slots_too)) (g.H.Recast-1.held c.args.holder.now) c.in-Ok.ensures.resolved).2 in
    let none_too = (three_resolved g.Q.Ptr.numbers slots_too (held_all g.U.Recast-2.held (values slots_too)) (held_all g.T.Recast-2.held (values slots)) (g.H.Recast-2.held c.args.holder.now)
    (rw (c.in-Ok.ensures.unchanged, c.in-Ok.ensures.beside_unchanged, c.in-Ok.ensures.holder_unchanged) at c.in-Ok-resolved_beside.ensures.resolved)).2 in
    let is = c.follow.ensures ∙ ap (λ (h : g.row.H.Denot). g.H.Recast-1.refill h (recast_items (λ p. look_up images (g.P.Ptr.numbers p)) (g.H.Recast-1.held h))) same_holder in
    holder_followed g.P.Ptr.numbers (g.A.CompactArenaTrait.rank first c.args.reset_generation) g.H.Recast-1.held g.H.Recast-1.refill
    g.Q.Ptr.numbers (g.B.CompactArenaTrait.rank second c.args.reset_generation) g.H.Recast-2.held g.H.Recast-2.refill
    c.requires.holder_apart g.met.H.Recast-1.held_refill g.met.H.Recast-2.held_refill
    slots images (rw same at c.compress_renaming-first_answer.ensures.maps) slots_too c.compress_renaming-second_answer.new.images.slots (rw same_too at c.compress_renaming-second_answer.ensures.maps)
    c.args.holder.now c.follow.new.holder c.follow-2.new.holder none none_too is c.follow-2.ensures
