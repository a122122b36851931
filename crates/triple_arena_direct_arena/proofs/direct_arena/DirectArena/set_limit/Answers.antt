use Rattle.std.proofs.Common.{◌≤◌, sym, subst}
use Rattle.triple_arena_direct_arena.proofs.Resizing.{relimited, size_is}
use Rattle.triple_arena_direct_arena.proofs.direct_arena.DirectArena.set_limit.Goals as goal

pub returns-clause-variant : goal.returns-clause-variant
returns-clause-variant g c =
    let size = size_is g.P.Gen.PtrGen.number _ _ _ _ c.args.self.now c.self.view_is in
    let when = c.uncounted_set_max_capacity.ensures.variant in
    (λ ok. subst (λ n. n ≤ c.args.limit) size (when.0 ok), λ few. when.1 (subst (λ n. n ≤ c.args.limit) (sym size) few))

pub invariant_of-self : goal.invariant_of-self
invariant_of-self g c =
    let e = c.uncounted_set_max_capacity.ensures in
    (relimited g.P.Gen.PtrGen.number _ _ _ _ _ _ _ _ c.args.self.now c.args.limit c.uncounted_set_max_capacity.result c.self.invariant c.self.view_is e.items e.room e.limit e.refused
    (λ ok. subst (λ n. n ≤ c.args.limit) (size_is g.P.Gen.PtrGen.number _ _ _ _ c.args.self.now c.self.view_is) (e.variant.0 ok))).0

pub returns-clause-done : goal.returns-clause-done
returns-clause-done g c =
    let e = c.uncounted_set_max_capacity.ensures in
    (relimited g.P.Gen.PtrGen.number _ _ _ _ _ _ _ _ c.args.self.now c.args.limit c.uncounted_set_max_capacity.result c.self.invariant c.self.view_is e.items e.room e.limit e.refused
    (returns-clause-variant g c).0).1

pub returns-clause-refused : goal.returns-clause-refused
returns-clause-refused g c =
    let e = c.uncounted_set_max_capacity.ensures in
    (relimited g.P.Gen.PtrGen.number _ _ _ _ _ _ _ _ c.args.self.now c.args.limit c.uncounted_set_max_capacity.result c.self.invariant c.self.view_is e.items e.room e.limit e.refused
    (returns-clause-variant g c).0).2
