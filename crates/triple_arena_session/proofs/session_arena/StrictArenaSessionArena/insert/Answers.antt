use Rattle.std.proofs.Common.{ap, ◌∙◌}
use Rattle.std.proofs.lemmas.Result.{IfOk-weaker}
use Rattle.triple_arena_traits.specs.Insertion.{inserted}
use Rattle.triple_arena_traits.specs.Reallocation.{grown}
use Rattle.triple_arena_session.specs.SessionLayout.{uncounted}
use Rattle.triple_arena_session.proofs.Uncounted.{uncounted-done, uncounted-inserted, uncounted-grown_inserted}
use Rattle.triple_arena_session.proofs.session_arena.StrictArenaSessionArena.insert.Goals as goal

pub returns-clause-inserted : goal.returns-clause-inserted
returns-clause-inserted g c =
    uncounted-done c.insert.result (inserted (grown g.S.NonZeroInxGenericStack.kind c.args.self.now) c.args.t) c.insert.new.self _ (uncounted-grown_inserted g.S.NonZeroInxGenericStack.kind c.args.self.now c.args.t)
    (IfOk-weaker c.insert.result _ _ (λ p done. done.left) c.insert.ensures.done)

pub returns-clause-had_place : goal.returns-clause-had_place
returns-clause-had_place g c = λ less. let had = c.insert.ensures.had_place less in (had.0, ap uncounted had.1.0 ∙ uncounted-inserted c.args.self.now c.args.t)
