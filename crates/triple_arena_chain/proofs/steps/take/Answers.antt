use Rattle.std.proofs.Common.{ap, ◌∙◌}
use Rattle.triple_arena_base.specs.Invalidation.{is_invalid, as_option}
use Rattle.triple_arena_chain.proofs.Reading.{same_link}
use Rattle.triple_arena_chain.specs.laws.TellingLaws.{not_invalid, told_there}
use Rattle.triple_arena_chain.proofs.steps.take.Goals as goal

pub unwrap-requires : goal.unwrap-requires
unwrap-requires g c = ap is_invalid c.remove.ensures.answer ∙ not_invalid _ _ c.requires

pub returns-clause-answer : goal.returns-clause-answer
returns-clause-answer g c =
    let told = told_there _ _ _ (c.unwrap.ensures ∙ ap as_option c.remove.ensures.answer) in
    record { value = told.0; tells = told.1 }

pub returns-clause-others : goal.returns-clause-others
returns-clause-others g c = λ r other. same_link g.P.Ptr.numbers (g.A.ArenaStates.slots c.args.arena.now) (g.A.ArenaStates.slots c.remove.new.self) r (c.remove.ensures.others r other)

pub returns-clause-room : goal.returns-clause-room
returns-clause-room g c =
    let done = c.remove.ensures.done c.requires in
    record { capacity = g.met.A.ArenaLaws.capacity_removed _ _ _ done; limit = g.met.A.ArenaLaws.limit_removed _ _ _ done }
