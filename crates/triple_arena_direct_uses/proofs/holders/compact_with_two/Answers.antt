use Rattle.std.proofs.Common.{rules, sym, ◌∙◌}
use Rattle.std.specs.Result.{IfErr}
use Rattle.triple_arena_base.specs.Held.{held_all}
use Rattle.triple_arena.specs.ArenaState.{arena_len}
use Rattle.triple_arena.specs.Walks.{values}
use Rattle.triple_arena_direct.specs.Renaming.{first_unresolved, Refuses}
use Rattle.triple_arena_direct.specs.laws.RenamingLaws.{first_before, first_behind}
use Rattle.triple_arena_uses.specs.Entities.{p0_numbers}
use Rattle.triple_arena_direct_uses.proofs.holders.compact_with_two.Goals as goal

pub returns-clause-first : goal.returns-clause-first
returns-clause-first g c =
    c.holders_follow.ensures.renamed _ c.args.arena.now.slots _ c.args.first.now c.recast-first.new.self
    (rw (← c.value_of-map.ensures) at c.in_ok-answer.ensures.map.maps) (sym c.in_default.ensures.first) (rw c.unresolved.ensures.unchanged at c.recast-first.ensures.after)

pub returns-clause-second : goal.returns-clause-second
returns-clause-second g c =
    c.holders_follow-2.ensures.renamed _ c.args.arena.now.slots _ c.args.second.now c.recast-second.new.self
    (rw (← c.value_of-map.ensures) at c.in_ok-answer.ensures.map.maps) (sym c.in_default-unresolved.ensures.first) (rw c.unresolved-2.ensures.unchanged at c.recast-second.ensures.after)

pub returns-in-Some-clause-refusal : goal.returns-in-Some-clause-refusal
returns-in-Some-clause-refusal g c = first_before p0_numbers c.args.arena.now.slots _ _ _ (sym c.in-Some.ensures.first)

pub returns-in-Some-unresolved-clause-refusal : goal.returns-in-Some-unresolved-clause-refusal
returns-in-Some-unresolved-clause-refusal g c =
    first_behind p0_numbers c.args.arena.now.slots _ _ (sym c.in_default.ensures.first)
    ∙ first_before p0_numbers c.args.arena.now.slots _ _ _ (sym c.in-Some-unresolved.ensures.first)

pub returns-in_err-answer-clause-refusal : goal.returns-in_err-answer-clause-refusal
returns-in_err-answer-clause-refusal g c =
    let slots = c.args.arena.now.slots in
    let refuses : IfErr c.from_residual.result (Refuses (arena_len c.args.arena.now) (first_unresolved p0_numbers slots (held_all g.T.Recast.held (values slots)))) = search rules in
    rw (first_behind p0_numbers slots (g.H.Recast.held c.args.first.now) _ (sym c.in_default.ensures.first), first_behind p0_numbers slots (g.K.Recast.held c.args.second.now) _ (sym c.in_default-unresolved.ensures.first)) refuses
