use Rattle.std.proofs.Common.{rules}
use Rattle.triple_arena_direct.proofs.StrictDone.{has_grown}
use Rattle.triple_arena_direct.proofs.strict_arena.StrictArena.grow_if_full.Goals as goal

pub returns-clause-done : goal.returns-clause-done
returns-clause-done g c = has_grown g.S.NonZeroInxGenericStack.kind c.args.self.now _ (search rules) (search rules)
