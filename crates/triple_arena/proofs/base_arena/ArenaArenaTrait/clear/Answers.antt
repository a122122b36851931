use Rattle.std.proofs.Common.{rules}
use Rattle.triple_arena_traits.specs.laws.HistoryLaws.{Continues-cleared}
use Rattle.triple_arena.proofs.base_arena.ArenaArenaTrait.clear.Goals as goal

pub returns-then-is_empty-clause-done : goal.returns-then-is_empty-clause-done
returns-then-is_empty-clause-done g c = search rules

pub returns-then-is_empty-clause-history : goal.returns-then-is_empty-clause-history
returns-then-is_empty-clause-history g c counts =
    Continues-cleared g.P.Gen.PtrGen.generations c.args.self.now _ counts (returns-then-is_empty-clause-done g c)

pub returns-clause-done : goal.returns-clause-done
returns-clause-done g c = search rules

pub returns-clause-history : goal.returns-clause-history
returns-clause-history g c counts =
    Continues-cleared g.P.Gen.PtrGen.generations c.args.self.now _ counts (returns-clause-done g c)
