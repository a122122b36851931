use Rattle.triple_arena_ptr_stack_tests.proofs.tests.base.steps.Given as goal

abbrev pub decreases-loop-item : goal.decreases-loop-item
decreases-loop-item g l = g.A.Advancer.left l.advancer l.collection
