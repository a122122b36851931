use Rattle.triple_arena_slots.proofs.Resizing.{placed, as_shown, room_changed}
use Rattle.triple_arena_ptr.specs.Numbers.{greatest_index}
use Rattle.triple_arena_stack.specs.Capacity.{stack_capacity, IsWithin, IsBeyond}
use Rattle.triple_arena_stack.specs.StackKind.{reallocated_room}
use Rattle.triple_arena_base.specs.declared.errors.ReallocationError.TheVariants.{BeyondMaxCapacity}
use Rattle.std.proofs.Common.{◌≡◌, ◌↔◌, Err, IsOk, OnOk, refl}
use Rattle.triple_arena.proofs.base_arena.Arena.reallocate.Goals as goal

pub invariant_of-self : goal.invariant_of-self
invariant_of-self g c = (room_changed g.P.Gen.PtrGen.number c.uncounted_reallocate.result g.S.NonZeroInxGenericStack.kind _ _ _ _ _ _ _ _ _ _ _ _ _ c.args.min_capacity c.args.self.now c.self.invariant c.self.view_is c.uncounted_reallocate.ensures.items refl c.uncounted_reallocate.ensures.limit c.uncounted_reallocate.ensures.room c.uncounted_reallocate.ensures.refused c.uncounted_reallocate.ensures.steps).0

pub returns-clause-done : goal.returns-clause-done
returns-clause-done g c = (room_changed g.P.Gen.PtrGen.number c.uncounted_reallocate.result g.S.NonZeroInxGenericStack.kind _ _ _ _ _ _ _ _ _ _ _ _ _ c.args.min_capacity c.args.self.now c.self.invariant c.self.view_is c.uncounted_reallocate.ensures.items refl c.uncounted_reallocate.ensures.limit c.uncounted_reallocate.ensures.room c.uncounted_reallocate.ensures.refused c.uncounted_reallocate.ensures.steps).1

pub returns-clause-refused : goal.returns-clause-refused
returns-clause-refused g c = (room_changed g.P.Gen.PtrGen.number c.uncounted_reallocate.result g.S.NonZeroInxGenericStack.kind _ _ _ _ _ _ _ _ _ _ _ _ _ c.args.min_capacity c.args.self.now c.self.invariant c.self.view_is c.uncounted_reallocate.ensures.items refl c.uncounted_reallocate.ensures.limit c.uncounted_reallocate.ensures.room c.uncounted_reallocate.ensures.refused c.uncounted_reallocate.ensures.steps).2

pub returns-clause-within : goal.returns-clause-within
returns-clause-within g c = as_shown g.P.Gen.PtrGen.number _ _ _ _ _ _ _ _ c.args.self.now (λ room limit n. OnOk c.uncounted_reallocate.result (IsWithin limit c.args.min_capacity)) c.self.invariant c.self.view_is c.uncounted_reallocate.ensures.within

pub returns-clause-beyond : goal.returns-clause-beyond
returns-clause-beyond g c = as_shown g.P.Gen.PtrGen.number _ _ _ _ _ _ _ _ c.args.self.now (λ room limit n. (c.uncounted_reallocate.result ≡ Err BeyondMaxCapacity) ↔ IsBeyond limit c.args.min_capacity) c.self.invariant c.self.view_is c.uncounted_reallocate.ensures.beyond

pub returns-clause-succeeds : goal.returns-clause-succeeds
returns-clause-succeeds g c = as_shown g.P.Gen.PtrGen.number _ _ _ _ _ _ _ _ c.args.self.now (λ room limit n. IsWithin limit c.args.min_capacity → reallocated_room g.S.NonZeroInxGenericStack.kind room n c.args.min_capacity ≡ room → IsOk c.uncounted_reallocate.result) c.self.invariant c.self.view_is c.uncounted_reallocate.ensures.succeeds

pub returns-clause-with_memory : goal.returns-clause-with_memory
returns-clause-with_memory g c = as_shown g.P.Gen.PtrGen.number _ _ _ _ _ _ _ _ c.args.self.now (λ room limit n. IsWithin limit c.args.min_capacity → g.S.NonZeroInxGenericStack.has_memory (reallocated_room g.S.NonZeroInxGenericStack.kind room n c.args.min_capacity) → IsOk c.uncounted_reallocate.result) c.self.invariant c.self.view_is c.uncounted_reallocate.ensures.with_memory

pub returns-clause-place : goal.returns-clause-place
returns-clause-place g c = placed c.uncounted_reallocate.result c.args.min_capacity (stack_capacity (g.S.NonZeroInxGenericStack.room c.uncounted_reallocate.new.self.stack) (g.S.NonZeroInxGenericStack.limit c.uncounted_reallocate.new.self.stack)) (greatest_index g.P.Inx.PtrInx.greatest) c.uncounted_reallocate.ensures.place
