use Rattle.std.proofs.Common.{sym, ap, subst, length, Option, ◌∙◌}
use Rattle.std.proofs.lemmas.List.{length-map}
use Rattle.std.proofs.lemmas.Slice.Zip.{AllZip-long}
use Rattle.triple_arena_traits.specs.Entries.{look_up}
use Rattle.triple_arena_traits.specs.Walks.{keys, values}
use Rattle.triple_arena_traits.specs.laws.CompressionLaws.{length-keys, length-values}
use Rattle.triple_arena_traits.specs.Recasting.{recast_values}
use Rattle.triple_arena_recasting.specs.Renaming.{AreRenamed}
use Rattle.triple_arena_recasting.specs.laws.RenamingLaws.{found_renamed}
use Rattle.triple_arena_recasting.proofs.Renames.{renames}
use Rattle.triple_arena_recasting.proofs.Resolving.{values_renamed}
use Rattle.triple_arena_recasting.proofs.Followed.{recast_compressed}
use Rattle.triple_arena_recasting.proofs.renaming.compress_renaming.Goals as goal

pub put_pointers-requires-after_bounds : goal.put_pointers-requires-after_bounds
put_pointers-requires-after_bounds g c κs within =
    let old = c.args.this.now in
    ap length c.requires.own ∙ sym (length-map (keys (g.A.ArenaStates.slots old)) (g.A.CompactArenaTrait.rank old c.args.reset_generation)) ∙ ap length (sym c.compress-answer.ensures.keys)

pub returns-clause-maps : goal.returns-clause-maps
returns-clause-maps g c =
    let old = c.args.this.now in
    renames g.P.Ptr.numbers (g.A.CompactArenaTrait.rank old c.args.reset_generation) (g.A.ArenaStates.slots old) c.put_pointers.new.target.slots
    (c.put_pointers.ensures.keys ∙ c.requires.own) (c.put_pointers.ensures.values ∙ c.compress-answer.ensures.keys)

pub returns-clause-compacted : goal.returns-clause-compacted
returns-clause-compacted g c =
    let old = c.args.this.now in
    let new = c.recast_entries-renamed.new.arena in
    let slots = g.A.ArenaStates.slots old in
    let rank = g.A.CompactArenaTrait.rank old c.args.reset_generation in
    let image : g.row.P.Denot → Option g.row.P.Denot = λ p. look_up c.put_pointers.new.target.slots (g.P.Ptr.numbers p) in
    let ks = c.compress-answer.ensures.keys in
    let made = recast_values g.T.Recast.held g.T.Recast.refill image (values slots) in
    let all : AreRenamed g.P.Ptr.numbers rank g.T.Recast.held g.T.Recast.refill (values slots) made =
    values_renamed g.P.Ptr.numbers slots rank c.put_pointers.new.target.slots (returns-clause-maps g c) g.T.Recast.held g.T.Recast.refill g.met.T.Recast.held_refill (values slots) c.requires.resolved in
    let left = recast_compressed g.T.Recast.held g.T.Recast.refill image g.A.ArenaStates.slots g.A.ArenaStates.with_value
    (g.A.CompactArenaTrait.compresses old c.args.reset_generation) (g.met.A.CompactArenaTrait.compresses_with_value old c.args.reset_generation)
    rank old c.compress-answer.new.self new (values slots) (g.met.A.CompactArenaTrait.ranked old c.args.reset_generation)
    (length-values slots) c.compress-answer.ensures.done ks c.compress-answer.ensures.values c.recast_entries-renamed.ensures.after in
    let long = AllZip-long _ (values slots) made all ∙ length-values slots in
    let stand = g.met.A.CompactArenaTrait.keys_compressed old c.args.reset_generation made new left long in
    let there = g.met.A.CompactArenaTrait.values_compressed old c.args.reset_generation made new left long in
    let renamed = subst (AreRenamed g.P.Ptr.numbers rank g.T.Recast.held g.T.Recast.refill (values slots)) (sym there) all in
    record {
      ranked = stand;
      made = renamed;
      left = rw there left;
      found = found_renamed g.P.Ptr.numbers rank g.T.Recast.held g.T.Recast.refill rank slots (g.A.ArenaStates.slots new) stand renamed;
      history = λ unset up h fits. rw (stand ∙ sym ks) (c.recast_entries-renamed.ensures.history _ (c.compress-answer.ensures.history unset up h fits));
      begun = λ h fits. rw (stand ∙ sym ks) (c.recast_entries-renamed.ensures.history _ (c.compress-answer.ensures.begun h fits));
    }

pub returns-clause-size : goal.returns-clause-size
returns-clause-size g c =
    let old = c.args.this.now in
    let is = returns-clause-compacted g c in
    record {
      len = sym (length-keys (g.A.ArenaStates.slots c.recast_entries-renamed.new.arena)) ∙ ap length is.ranked
          ∙ length-map (keys (g.A.ArenaStates.slots old)) (g.A.CompactArenaTrait.rank old c.args.reset_generation) ∙ length-keys (g.A.ArenaStates.slots old);
      same_limit = g.met.A.CompactArenaTrait.limit_compressed _ _ _ _ is.left;
      same_capacity = g.met.A.CompactArenaTrait.capacity_compressed _ _ _ _ is.left;
    }
