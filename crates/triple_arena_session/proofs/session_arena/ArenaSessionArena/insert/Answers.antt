use Rattle.std.proofs.Common.{ap, ◌∙◌}
use Rattle.triple_arena_traits.specs.Insertion.{inserted}
use Rattle.triple_arena_traits.specs.Reallocation.{grown}
use Rattle.triple_arena_session.specs.SessionLayout.{uncounted}
use Rattle.triple_arena_session.proofs.Uncounted.{uncounted-counted, uncounted-inserted, uncounted-grown_inserted}
use Rattle.triple_arena_session.proofs.session_arena.ArenaSessionArena.insert.Goals as goal

pub returns-clause-inserted : goal.returns-clause-inserted
returns-clause-inserted g c =
    uncounted-counted c.insert_reallocating.result _ (inserted (grown g.S.NonZeroInxGenericStack.kind c.args.self.now) c.args.t) c.insert_reallocating.new.self _ (uncounted-grown_inserted g.S.NonZeroInxGenericStack.kind c.args.self.now c.args.t) c.insert_reallocating.ensures.inserted

pub returns-clause-had_place : goal.returns-clause-had_place
returns-clause-had_place g c = λ less. let had = c.insert_reallocating.ensures.had_place less in (had.0, ap uncounted had.1 ∙ uncounted-inserted c.args.self.now c.args.t)
