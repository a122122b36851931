use Rattle.std.specs.Result.{IfErr}
use Rattle.std.proofs.Common.{rules, sym, ◌++◌, ◌∙◌}
use Rattle.triple_arena_base.specs.Held.{held_all}
use Rattle.triple_arena_traits.specs.Entries.{look_up, entry_count}
use Rattle.triple_arena_traits.specs.Walks.{values}
use Rattle.triple_arena_recasting.specs.Renaming.{first_unresolved, Refuses}
use Rattle.triple_arena_recasting.specs.laws.RenamingLaws.{first_before, first_behind}
use Rattle.triple_arena_recasting.proofs.Resolving.{all_resolved, one_unresolved, holder_stays, refuses_more}
use Rattle.triple_arena_recasting.proofs.Followed.{unchanged}
use Rattle.triple_arena_recasting.proofs.renaming_both.resolved_beside.Goals as goal

pub returns-in_err-all-clause-refusal : goal.returns-in_err-all-clause-refusal
returns-in_err-all-clause-refusal g c unlimited =
    let refused = c.in_err-all.ensures.refusal unlimited in
    let slots = g.A.ArenaStates.slots c.args.this.now in
    let own = held_all g.T.Recast.held (values slots) in
    let others = held_all g.U.Recast.held (values (g.B.ArenaStates.slots c.args.beside.now)) in
    let first = first_unresolved g.P.Ptr.numbers slots own in
    let refuses : IfErr c.from_residual.result (Refuses (entry_count slots) first) = search rules in
    refuses_more (entry_count slots) first _ (λ p some. first_before g.P.Ptr.numbers slots (own ++ others) (g.H.Recast.held c.args.holder.now) p (first_before g.P.Ptr.numbers slots own others p some)) c.from_residual.result refuses

pub returns-in-Err-clause-refusal : goal.returns-in-Err-clause-refusal
returns-in-Err-clause-refusal g c unlimited =
    let slots = g.A.ArenaStates.slots c.args.this.now in
    let own = held_all g.T.Recast.held (values slots) in
    let others = held_all g.U.Recast.held (values (g.B.ArenaStates.slots c.args.beside.now)) in
    first_before g.P.Ptr.numbers slots (own ++ others) (g.H.Recast.held c.args.holder.now) c.in-Err.p
    (first_behind g.P.Ptr.numbers slots own others c.in_ok-all.ensures.resolved
    ∙ one_unresolved g.P.Ptr.numbers slots (λ p. look_up c.in_ok-all.all.slots (g.P.Ptr.numbers p)) c.in_ok-all.ensures.own others c.in-Err.p (sym c.in-Err.ensures.answer))

pub returns-in-Err-clause-beside_unchanged : goal.returns-in-Err-clause-beside_unchanged
returns-in-Err-clause-beside_unchanged g c =
    let slots = g.A.ArenaStates.slots c.args.this.now in
    unchanged g.P.Ptr.numbers slots g.U.Recast.held g.U.Recast.refill g.met.U.Recast.refill_held g.B.ArenaStates.slots g.B.ArenaStates.with_value g.met.B.CompactArenaTrait.with_value_same g.met.B.ArenaLaws.slots_with_value
    (λ p. look_up c.in_ok-all.all.slots (g.P.Ptr.numbers p)) c.args.beside.now c.recast_entries.new.arena c.in_ok-all.ensures.own c.recast_entries.ensures.after

pub returns-in-Err-recast-clause-refusal : goal.returns-in-Err-recast-clause-refusal
returns-in-Err-recast-clause-refusal g c unlimited =
    let slots = g.A.ArenaStates.slots c.args.this.now in
    let own = held_all g.T.Recast.held (values slots) in
    let others = held_all g.U.Recast.held (values (g.B.ArenaStates.slots c.args.beside.now)) in
    let held = g.H.Recast.held c.args.holder.now in
    let image = λ (p : g.row.P.Denot). look_up c.in_ok-all.all.slots (g.P.Ptr.numbers p) in
    first_behind g.P.Ptr.numbers slots (own ++ others) held
    (first_behind g.P.Ptr.numbers slots own others c.in_ok-all.ensures.resolved ∙ all_resolved g.P.Ptr.numbers slots image c.in_ok-all.ensures.own others (sym c.in-Ok.ensures.answer))
    ∙ one_unresolved g.P.Ptr.numbers slots image c.in_ok-all.ensures.own held c.in-Err-recast.p (sym c.in-Err-recast.ensures.answer)

pub returns-in-Err-recast-clause-beside_unchanged : goal.returns-in-Err-recast-clause-beside_unchanged
returns-in-Err-recast-clause-beside_unchanged g c =
    let slots = g.A.ArenaStates.slots c.args.this.now in
    unchanged g.P.Ptr.numbers slots g.U.Recast.held g.U.Recast.refill g.met.U.Recast.refill_held g.B.ArenaStates.slots g.B.ArenaStates.with_value g.met.B.CompactArenaTrait.with_value_same g.met.B.ArenaLaws.slots_with_value
    (λ p. look_up c.in_ok-all.all.slots (g.P.Ptr.numbers p)) c.args.beside.now c.recast_entries.new.arena c.in_ok-all.ensures.own c.recast_entries.ensures.after

pub returns-in-Err-recast-clause-holder_unchanged : goal.returns-in-Err-recast-clause-holder_unchanged
returns-in-Err-recast-clause-holder_unchanged g c =
    let slots = g.A.ArenaStates.slots c.args.this.now in
    holder_stays g.P.Ptr.numbers slots g.H.Recast.held g.H.Recast.refill g.met.H.Recast.refill_held (λ p. look_up c.in_ok-all.all.slots (g.P.Ptr.numbers p)) c.in_ok-all.ensures.own c.args.holder.now c.recast.new.self c.recast.ensures.after

pub returns-in-Ok-recast-clause-beside_unchanged : goal.returns-in-Ok-recast-clause-beside_unchanged
returns-in-Ok-recast-clause-beside_unchanged g c =
    let slots = g.A.ArenaStates.slots c.args.this.now in
    unchanged g.P.Ptr.numbers slots g.U.Recast.held g.U.Recast.refill g.met.U.Recast.refill_held g.B.ArenaStates.slots g.B.ArenaStates.with_value g.met.B.CompactArenaTrait.with_value_same g.met.B.ArenaLaws.slots_with_value
    (λ p. look_up c.in_ok-all.all.slots (g.P.Ptr.numbers p)) c.args.beside.now c.recast_entries.new.arena c.in_ok-all.ensures.own c.recast_entries.ensures.after

pub returns-in-Ok-recast-clause-holder_unchanged : goal.returns-in-Ok-recast-clause-holder_unchanged
returns-in-Ok-recast-clause-holder_unchanged g c =
    let slots = g.A.ArenaStates.slots c.args.this.now in
    holder_stays g.P.Ptr.numbers slots g.H.Recast.held g.H.Recast.refill g.met.H.Recast.refill_held (λ p. look_up c.in_ok-all.all.slots (g.P.Ptr.numbers p)) c.in_ok-all.ensures.own c.args.holder.now c.recast.new.self c.recast.ensures.after

pub returns-in-Ok-recast-clause-resolved : goal.returns-in-Ok-recast-clause-resolved
returns-in-Ok-recast-clause-resolved g c =
    let slots = g.A.ArenaStates.slots c.args.this.now in
    let own = held_all g.T.Recast.held (values slots) in
    let others = held_all g.U.Recast.held (values (g.B.ArenaStates.slots c.args.beside.now)) in
    let held = g.H.Recast.held c.args.holder.now in
    let image = λ (p : g.row.P.Denot). look_up c.in_ok-all.all.slots (g.P.Ptr.numbers p) in
    first_behind g.P.Ptr.numbers slots (own ++ others) held
    (first_behind g.P.Ptr.numbers slots own others c.in_ok-all.ensures.resolved ∙ all_resolved g.P.Ptr.numbers slots image c.in_ok-all.ensures.own others (sym c.in-Ok.ensures.answer))
    ∙ all_resolved g.P.Ptr.numbers slots image c.in_ok-all.ensures.own held (sym c.in-Ok-recast.ensures.answer)
