use Rattle.std.proofs.Common.{Some, None, refl}
use Rattle.triple_arena_ptr.specs.Numbers.{greatest_index}
use Rattle.triple_arena_direct.proofs.Draining.{next_drained, fewer_taken}
use Rattle.triple_arena_direct.proofs.strict_arena.drain.StrictDrainIterator.next.Goals as goal

pub returns-in_err-p-clause-steps : goal.returns-in_err-p-clause-steps
returns-in_err-p-clause-steps g c =
    let out = rw c.in_err-p.was at c.take_next.ensures.taken in
    let steps = rw c.in_err-p.was at c.take_next.ensures.steps in
    rw c.from_residual.ensures (
      refl,
      c.take_next.ensures.leaves,
      λ draining. next_drained g.P.Ptr.numbers (greatest_index g.P.Inx.PtrInx.greatest) c.args.self.now.arena.now c.take_next.new.self c.args.self.now.advancer c.take_next.new.advancer None out steps draining,
    )

pub returns-clause-steps : goal.returns-clause-steps
returns-clause-steps g c =
    let out = rw c.in_ok-p.was at c.take_next.ensures.taken in
    let steps = rw c.in_ok-p.was at c.take_next.ensures.steps in (
      refl,
      c.take_next.ensures.leaves,
      λ draining. next_drained g.P.Ptr.numbers (greatest_index g.P.Inx.PtrInx.greatest) c.args.self.now.arena.now c.take_next.new.self c.args.self.now.advancer c.take_next.new.advancer (Some (c.in_ok-p.p, c.in_ok-p.value)) out steps draining,
    )

pub returns-clause-goes : goal.returns-clause-goes
returns-clause-goes g c =
    record {
      on = λ f. (tt, tt, fewer_taken g.P.Ptr.numbers c.args.self.now.arena.now c.take_next.new.self (c.in_ok-p.p, c.in_ok-p.value) (rw c.in_ok-p.was at c.take_next.ensures.taken));
      keeps = tt;
      rests = λ f. tt;
    }
