use Rattle.std.proofs.Common.{sym}
use Rattle.triple_arena_base.specs.Held.{held_all}
use Rattle.triple_arena_traits.specs.Entries.{look_up}
use Rattle.triple_arena_traits.specs.Walks.{values}
use Rattle.triple_arena_recasting.proofs.Resolving.{all_resolved, one_unresolved}
use Rattle.triple_arena_recasting.proofs.Followed.{unchanged}
use Rattle.triple_arena_recasting.proofs.renaming.resolved_map.Goals as goal

pub returns-in-Ok-clause-unchanged : goal.returns-in-Ok-clause-unchanged
returns-in-Ok-clause-unchanged g c =
    unchanged g.P.Ptr.numbers (g.A.ArenaStates.slots c.args.this.now) g.T.Recast.held g.T.Recast.refill g.met.T.Recast.refill_held g.A.ArenaStates.slots g.A.ArenaStates.with_value g.met.A.CompactArenaTrait.with_value_same g.met.A.ArenaLaws.slots_with_value
    (λ p. look_up c.in_ok-all.all.slots (g.P.Ptr.numbers p)) c.args.this.now c.recast_entries.new.arena c.in_ok-all.ensures.own c.recast_entries.ensures.after

pub returns-in-Ok-clause-resolved : goal.returns-in-Ok-clause-resolved
returns-in-Ok-clause-resolved g c =
    all_resolved g.P.Ptr.numbers (g.A.ArenaStates.slots c.args.this.now) (λ p. look_up c.in_ok-all.all.slots (g.P.Ptr.numbers p)) c.in_ok-all.ensures.own (held_all g.T.Recast.held (values (g.A.ArenaStates.slots c.args.this.now)))
    (sym c.in-Ok.ensures.answer)

pub returns-in-Err-clause-unchanged : goal.returns-in-Err-clause-unchanged
returns-in-Err-clause-unchanged g c =
    unchanged g.P.Ptr.numbers (g.A.ArenaStates.slots c.args.this.now) g.T.Recast.held g.T.Recast.refill g.met.T.Recast.refill_held g.A.ArenaStates.slots g.A.ArenaStates.with_value g.met.A.CompactArenaTrait.with_value_same g.met.A.ArenaLaws.slots_with_value
    (λ p. look_up c.in_ok-all.all.slots (g.P.Ptr.numbers p)) c.args.this.now c.recast_entries.new.arena c.in_ok-all.ensures.own c.recast_entries.ensures.after

pub returns-in-Err-clause-refusal : goal.returns-in-Err-clause-refusal
returns-in-Err-clause-refusal g c unlimited =
    one_unresolved g.P.Ptr.numbers (g.A.ArenaStates.slots c.args.this.now) (λ p. look_up c.in_ok-all.all.slots (g.P.Ptr.numbers p)) c.in_ok-all.ensures.own (held_all g.T.Recast.held (values (g.A.ArenaStates.slots c.args.this.now)))
    c.in-Err.p (sym c.in-Err.ensures.answer)
