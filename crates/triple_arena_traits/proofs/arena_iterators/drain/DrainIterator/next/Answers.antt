use Rattle.std.proofs.Common.{◌∙◌, ap, refl}
use Rattle.triple_arena_base.specs.Invalidation.{overflowing_option}
use Rattle.triple_arena_traits.specs.laws.WalkLaws.{none_left, answer_first, others_ahead}
use Rattle.triple_arena_traits.proofs.Walking.{overflowing_told, fewer_removed}
use Rattle.triple_arena_traits.proofs.arena_iterators.drain.DrainIterator.next.Goals as goal

pub returns-in_err-p-clause-steps : goal.returns-in_err-p-clause-steps
returns-in_err-p-clause-steps g c =
    let step = rw c.in_err-p.was at c.take_next.ensures.step in
    rw c.from_residual.ensures (refl, λ draining. let none = none_left _ _ _ _ draining step.0 in ((none.0, step.1), rw step.1 none.1))

pub returns-clause-steps : goal.returns-clause-steps
returns-clause-steps g c =
    let step = rw c.in_ok-p.was at c.take_next.ensures.step in
    let taken = c.overflowing-value.ensures ∙ ap overflowing_option step.1 ∙ overflowing_told _ _ in (
      refl,
      λ draining. (
        (_, step.0, rw taken at c.told.ensures, answer_first _ _ _ _ _ draining step.2, step.3, step.4),
        others_ahead _ _ _ _ _ _ draining step.2 (g.met.A.ArenaLaws.slots_removed _ _ _ step.4.0),
      ),
    )

pub returns-clause-goes : goal.returns-clause-goes
returns-clause-goes g c =
    let step = rw c.in_ok-p.was at c.take_next.ensures.step in
    record {
      on = λ f. (tt, tt, fewer_removed g.A.ArenaStates.slots c.args.self.now.arena.now c.take_next.new.arena (g.P.Ptr.numbers c.in_ok-p.p) step.0 step.3 (g.met.A.ArenaLaws.len_removed _ _ _ step.4.0));
      keeps = tt;
      rests = λ f. tt;
    }
