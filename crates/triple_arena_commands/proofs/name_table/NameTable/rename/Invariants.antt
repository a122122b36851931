use Rattle.std.proofs.Common.{◌≡◌}
use Rattle.triple_arena_base.specs.Held.{recast_item}
use Rattle.triple_arena_commands.proofs.NameLemmas.{mapped_to}
use Rattle.triple_arena_commands.proofs.name_table.NameTable.rename.Given as goal

abbrev pub invariant-names : goal.invariant-names
invariant-names g l = record {
  items : l.self.items ≡ mapped_to (λ p. recast_item (g.R.Recaster.image l.fn.recaster p) p) l.before l.initial.self.items;
  room : l.self.room ≡ l.initial.self.room;
}
