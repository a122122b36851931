use Rattle.std.proofs.Common.{rules}
use Rattle.triple_arena_session.proofs.StrictTextLaws.{RunsProgramAsStore}
use Rattle.triple_arena_session.proofs.program.run_program.Goals as goal

pub returns-in-Ok-with_capacity-clause-run : goal.returns-in-Ok-with_capacity-clause-run
returns-in-Ok-with_capacity-clause-run g c = search rules

pub returns-in-Ok-with_capacity-clause-store : goal.returns-in-Ok-with_capacity-clause-store
returns-in-Ok-with_capacity-clause-store g c =
    RunsProgramAsStore g.W.Write.contents _ (g.R.Read.remaining c.args.input.now) _ _ _ (returns-in-Ok-with_capacity-clause-run g c)
