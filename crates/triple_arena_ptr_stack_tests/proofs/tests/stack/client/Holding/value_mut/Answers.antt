use Rattle.std.proofs.Common.{refl, ap}
use Rattle.triple_arena_ptr_stack_tests.proofs.ClientLemmas.{set_same, on_some}
use Rattle.triple_arena_ptr_stack_tests.proofs.tests.stack.client.Holding.value_mut.Goals as goal

pub returns-in-Some : goal.returns-in-Some
returns-in-Some g c =
    let S = g.met.S.NonZeroInxGenericStack in (
      (
        refl,
        λ w. on_some c.value_mut.result refl,
        ap (λ (v : g.row.S.Denot). record c.args.self.now { slots = v }) (rw (set_same _ _ _ c.in-Some.ensures.value) (S.with_items_same _)),
      ),
      record { writes_back = tt },
    )
