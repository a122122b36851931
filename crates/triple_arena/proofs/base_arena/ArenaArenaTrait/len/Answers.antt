use Rattle.std.proofs.Common.{subst}
use Rattle.triple_arena_traits.specs.ArenaState.{IsWellFormed}
use Rattle.triple_arena_traits.specs.laws.WellFormedLaws.{len_within}
use Rattle.triple_arena.proofs.base_arena.ArenaArenaTrait.len.Goals as goal

pub returns-clause-fits : goal.returns-clause-fits
returns-clause-fits g c = len_within c.args.self.now (subst IsWellFormed c.self.view_is c.self.invariant.well)
