use Rattle.std.proofs.Common.{refl}
use Rattle.std.proofs.lemmas.Result.{on_ok_weaker}
use Rattle.triple_arena_traits.specs.FreeList.{tidied}
use Rattle.triple_arena_traits.specs.Reallocation.{reallocated}
use Rattle.triple_arena_session.proofs.Uncounted.{uncounted-done, uncounted-refused}
use Rattle.triple_arena_session.proofs.session_arena.StrictArenaSessionArena.reallocate_min_capacity.Goals as goal

pub returns-clause-done : goal.returns-clause-done
returns-clause-done g c = uncounted-done c.reallocate_min_capacity.result (reallocated g.S.NonZeroInxGenericStack.kind c.args.self.now c.args.min_capacity) c.reallocate_min_capacity.new.self _ refl
    (on_ok_weaker c.reallocate_min_capacity.result (λ done. done.left) c.reallocate_min_capacity.ensures.done)

pub returns-clause-refused : goal.returns-clause-refused
returns-clause-refused g c = uncounted-refused c.reallocate_min_capacity.result (tidied c.args.self.now) c.reallocate_min_capacity.new.self _ refl c.reallocate_min_capacity.ensures.refused
