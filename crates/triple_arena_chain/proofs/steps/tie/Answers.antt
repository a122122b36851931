use Rattle.std.proofs.Common.{◌++◌, sym, ap, ◌∙◌}
use Rattle.triple_arena_chain.specs.Endings.{with_values}
use Rattle.triple_arena_chain.specs.laws.TellingLaws.{written_after}
use Rattle.triple_arena_chain.proofs.steps.tie.Goals as goal

pub returns-clause-written : goal.returns-clause-written
returns-clause-written g c =
    let with_value = g.A.ArenaStates.with_value in
    let first = c.lead_on.ensures.written in
    let then = c.lead_back.ensures.written in
    (first.0 ++ then.0, then.1 ∙ ap (λ a. with_values with_value a then.0) first.1 ∙ sym (written_after with_value c.args.arena.now first.0 then.0))
