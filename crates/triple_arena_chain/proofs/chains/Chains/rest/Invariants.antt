use Rattle.std.proofs.Common.{List, ◌++◌, map, is_some, cond, ◌+◌}
use Rattle.triple_arena_ptr.specs.Pointers.{Pointer}
use Rattle.triple_arena_chain.specs.Chains.{nodes, begun_at, Answers}
use Rattle.triple_arena_chain.proofs.chains.Chains.rest.Given as goal

-- whatever the advancer answers from here on, it answered what was collected before that
abbrev pub invariant-walk : goal.invariant-walk
invariant-walk g l =
    (qs : List Pointer) → Answers (nodes l.fn.self) l.advancer qs
    → Answers (nodes l.fn.self) (begun_at (g.P.Ptr.numbers l.fn.p) l.fn.self.len) (map g.P.Ptr.numbers l.all.items ++ qs)

abbrev pub decreases-walk : goal.decreases-walk
decreases-walk g l = cond (is_some l.advancer.next) (l.advancer.left + 1) 0
