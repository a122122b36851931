use Rattle.std.proofs.Common.{◌<◌, subst, ◌∙◌}
use Rattle.triple_arena_commands.proofs.NameLemmas.{one_more_mapped}
use Rattle.triple_arena_commands.proofs.name_table.NameTable.rename.Goals as goal

pub names-preserved : goal.names-preserved
names-preserved g c = record {
  items = one_more_mapped (g.R.Recaster.image c.args.recaster.now) c.args.self.now.items c.names.self.items c.rename_at.new.self.items c.names.before (subst (λ n. c.names.before < n) c.len-before-end.ensures c.names-test.true) c.names.invariant.items c.rename_at.ensures.items;
  room = c.rename_at.ensures.room ∙ c.names.invariant.room;
}
