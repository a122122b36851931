use Rattle.triple_arena_slots.proofs.Resizing.{as_shown, limit_changed}
use Rattle.std.proofs.Common.{◌↔◌, ◌≤◌, IsOk, refl}
use Rattle.triple_arena.proofs.base_arena.Arena.set_limit.Goals as goal

pub invariant_of-self : goal.invariant_of-self
invariant_of-self g c = (limit_changed g.P.Gen.PtrGen.number c.uncounted_set_max_capacity.result _ _ _ _ _ _ _ _ _ _ _ _ _ c.args.limit c.args.self.now c.self.invariant c.self.view_is c.uncounted_set_max_capacity.ensures.items refl c.uncounted_set_max_capacity.ensures.room c.uncounted_set_max_capacity.ensures.variant.0 c.uncounted_set_max_capacity.ensures.limit c.uncounted_set_max_capacity.ensures.refused c.uncounted_set_max_capacity.ensures.steps).0

pub returns-clause-variant : goal.returns-clause-variant
returns-clause-variant g c = as_shown g.P.Gen.PtrGen.number _ _ _ _ _ _ _ _ c.args.self.now (λ room limit n. IsOk c.uncounted_set_max_capacity.result ↔ (n ≤ c.args.limit)) c.self.invariant c.self.view_is c.uncounted_set_max_capacity.ensures.variant

pub returns-clause-done : goal.returns-clause-done
returns-clause-done g c = (limit_changed g.P.Gen.PtrGen.number c.uncounted_set_max_capacity.result _ _ _ _ _ _ _ _ _ _ _ _ _ c.args.limit c.args.self.now c.self.invariant c.self.view_is c.uncounted_set_max_capacity.ensures.items refl c.uncounted_set_max_capacity.ensures.room c.uncounted_set_max_capacity.ensures.variant.0 c.uncounted_set_max_capacity.ensures.limit c.uncounted_set_max_capacity.ensures.refused c.uncounted_set_max_capacity.ensures.steps).1

pub returns-clause-refused : goal.returns-clause-refused
returns-clause-refused g c = (limit_changed g.P.Gen.PtrGen.number c.uncounted_set_max_capacity.result _ _ _ _ _ _ _ _ _ _ _ _ _ c.args.limit c.args.self.now c.self.invariant c.self.view_is c.uncounted_set_max_capacity.ensures.items refl c.uncounted_set_max_capacity.ensures.room c.uncounted_set_max_capacity.ensures.variant.0 c.uncounted_set_max_capacity.ensures.limit c.uncounted_set_max_capacity.ensures.refused c.uncounted_set_max_capacity.ensures.steps).2
