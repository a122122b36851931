use Rattle.std.proofs.Common.{[], is_some, ap, refl}
use Rattle.triple_arena_direct.specs.laws.GoneLaws.{up_to-continues, gone-continues}
use Rattle.triple_arena_direct.proofs.StrictSteps.{found_at}
use Rattle.triple_arena_direct.proofs.strict_arena.StrictArena.get_inx_mut.Goals as goal

pub invariant_of-self-lent : goal.invariant_of-self-lent
invariant_of-self-lent g c lent = (λ value counts. up_to-continues c.self.inside.arena _ (c.self.invariant counts) [] (c.get_inx_mut.ensures.written value), c.self.invariant)

pub returns : goal.returns
returns g c = (
  rw c.self.view_is refl,
  record {
    value = rw (← c.self.view_is) c.get_inx_mut.ensures.value;
    writes_back = tt;
    step = λ generation was value there. (ap is_some (found_at c.args.self.now.slots (g.P.Inx.PtrInx.number c.args.inx) generation was there), refl, refl);
    written = rw (← c.self.view_is) c.get_inx_mut.ensures.written;
    stays_gone = rw (← c.self.view_is) (λ counts value. gone-continues c.self.inside.arena _ (c.self.invariant counts) [] (c.get_inx_mut.ensures.written value));
  },
)
