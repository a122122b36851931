use Rattle.triple_arena_commands.proofs.NameLemmas.{none_recast}
use Rattle.triple_arena_commands.proofs.name_table.NameTable.rename_at.Goals as goal

pub returns-in-Err-clause-items : goal.returns-in-Err-clause-items
returns-in-Err-clause-items g c = none_recast (g.R.Recaster.image c.args.recaster.now) c.args.self.now.items c.args.name c.in-Some.p c.in-Err.field-0 c.in-Some.ensures c.in-Err.ensures.answer
