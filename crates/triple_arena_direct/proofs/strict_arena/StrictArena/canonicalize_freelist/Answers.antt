use Rattle.std.proofs.Common.{◌∷◌, [], ap, refl}
use Rattle.std.specs.Option.{option_and_then}
use Rattle.triple_arena.specs.laws.TouchedLaws.{tidied_len}
use Rattle.triple_arena_traits.specs.Entries.{value_of_generation}
use Rattle.triple_arena_traits.specs.Histories.{resizing}
use Rattle.triple_arena_direct.specs.StrictCalls.{to_tidy}
use Rattle.triple_arena_direct.specs.laws.GoneLaws.{up_to-continues}
use Rattle.triple_arena_direct.proofs.StrictDone.{called}
use Rattle.triple_arena_direct.proofs.strict_arena.StrictArena.canonicalize_freelist.Goals as goal

pub invariant_of-self : goal.invariant_of-self
invariant_of-self g c counts =
    up_to-continues c.self.inside.arena c.canonicalize_freelist.new.self (c.self.invariant counts) (resizing ∷ []) c.canonicalize_freelist.ensures.history

pub returns-clause-kept : goal.returns-clause-kept
returns-clause-kept g c =
    rw (← c.self.view_is) (record {
      kept = λ q. ap (option_and_then (value_of_generation q.1)) (c.canonicalize_freelist.ensures.tidied.entries q.0);
      same_len = tidied_len c.self.inside.arena c.canonicalize_freelist.new.self c.canonicalize_freelist.ensures.state;
    })

pub returns-clause-call : goal.returns-clause-call
returns-clause-call g c =
    rw (← c.self.view_is) (called g.S.NonZeroInxGenericStack.kind g.P.Gen.PtrGen.generations c.self.inside.arena c.canonicalize_freelist.new.self to_tidy (resizing ∷ []) c.self.invariant
    (refl, c.canonicalize_freelist.ensures.state) c.canonicalize_freelist.ensures.history)
