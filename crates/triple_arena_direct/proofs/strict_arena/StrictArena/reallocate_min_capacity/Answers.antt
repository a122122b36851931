use Rattle.std.proofs.Common.{rules, ◌∷◌, [], refl}
use Rattle.triple_arena_ptr.specs.Numbers.{greatest_index}
use Rattle.triple_arena_traits.specs.Reallocation.{reallocated}
use Rattle.triple_arena_traits.specs.laws.EntryLaws.{slots-reallocated}
use Rattle.triple_arena_traits.specs.laws.LengthLaws.{len-reallocated}
use Rattle.triple_arena_traits.specs.Histories.{resizing}
use Rattle.triple_arena_direct.specs.StrictCalls.{to_reallocate}
use Rattle.triple_arena_direct.specs.laws.GoneLaws.{up_to-continues}
use Rattle.triple_arena_direct.proofs.StrictSteps.{kept_if_ok, reallocating}
use Rattle.triple_arena_direct.proofs.StrictDone.{called, has_room}
use Rattle.triple_arena_direct.proofs.strict_arena.StrictArena.reallocate_min_capacity.Goals as goal

pub invariant_of-self : goal.invariant_of-self
invariant_of-self g c counts =
    up_to-continues c.self.inside.arena c.reallocate_min_capacity.new.self (c.self.invariant counts) (resizing ∷ []) c.reallocate_min_capacity.ensures.history

pub returns-clause-done : goal.returns-clause-done
returns-clause-done g c =
    let is = c.reallocate_min_capacity.ensures in
    rw (← c.self.view_is) (has_room g.S.NonZeroInxGenericStack.kind c.self.inside.arena c.reallocate_min_capacity.new.self (greatest_index g.P.Inx.PtrInx.greatest) c.args.min_capacity c.reallocate_min_capacity.result is.done is.within is.place)

pub returns-clause-kept : goal.returns-clause-kept
returns-clause-kept g c =
    let kind = g.S.NonZeroInxGenericStack.kind in
    let s = c.self.inside.arena in
    let after = reallocated kind s c.args.min_capacity in
    rw (← c.self.view_is) (kept_if_ok s c.reallocate_min_capacity.new.self after c.reallocate_min_capacity.result c.reallocate_min_capacity.ensures.done c.reallocate_min_capacity.ensures.refused
    (slots-reallocated kind s c.args.min_capacity after refl) (len-reallocated kind s c.args.min_capacity after refl))

pub returns-clause-call : goal.returns-clause-call
returns-clause-call g c =
    let s = c.self.inside.arena in
    let kind = g.S.NonZeroInxGenericStack.kind in
    let gens = g.P.Gen.PtrGen.generations in
    rw (← c.self.view_is) (called kind gens s c.reallocate_min_capacity.new.self (to_reallocate c.args.min_capacity) (resizing ∷ []) c.self.invariant
    (reallocating kind gens s c.reallocate_min_capacity.new.self c.args.min_capacity c.reallocate_min_capacity.result c.reallocate_min_capacity.ensures.done c.reallocate_min_capacity.ensures.refused) c.reallocate_min_capacity.ensures.history)
