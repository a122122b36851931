use Rattle.std.proofs.Common.{◌∷◌, [], refl}
use Rattle.triple_arena_traits.specs.Histories.{resizing}
use Rattle.triple_arena_direct.specs.StrictCalls.{to_give_up_end}
use Rattle.triple_arena_direct.specs.laws.GoneLaws.{up_to-continues}
use Rattle.triple_arena_direct.proofs.StrictDone.{called}
use Rattle.triple_arena_direct.proofs.strict_arena.StrictArena.remove_free_end_slots.Goals as goal

pub invariant_of-self : goal.invariant_of-self
invariant_of-self g c counts =
    up_to-continues c.self.inside.arena c.remove_free_end_slots.new.self (c.self.invariant counts) (resizing ∷ []) c.remove_free_end_slots.ensures.history

pub returns-clause-kept : goal.returns-clause-kept
returns-clause-kept g c =
    rw (← c.self.view_is) (record { kept = c.remove_free_end_slots.ensures.kept; same_len = c.remove_free_end_slots.ensures.same_len })

pub returns-clause-call : goal.returns-clause-call
returns-clause-call g c =
    rw (← c.self.view_is) (called g.S.NonZeroInxGenericStack.kind g.P.Gen.PtrGen.generations c.self.inside.arena c.remove_free_end_slots.new.self to_give_up_end (resizing ∷ []) c.self.invariant
    (refl, c.remove_free_end_slots.ensures.state) c.remove_free_end_slots.ensures.history)
