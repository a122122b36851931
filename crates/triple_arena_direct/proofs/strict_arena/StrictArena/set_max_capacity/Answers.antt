use Rattle.std.proofs.Common.{◌∷◌, []}
use Rattle.triple_arena_traits.specs.Reallocation.{with_limit}
use Rattle.triple_arena_traits.specs.Histories.{resizing}
use Rattle.triple_arena_direct.specs.StrictCalls.{to_limit}
use Rattle.triple_arena_direct.specs.laws.GoneLaws.{up_to-continues}
use Rattle.triple_arena_direct.proofs.StrictSteps.{limited, kept_if_ok, kept_limited, len_limited}
use Rattle.triple_arena_direct.proofs.StrictDone.{called}
use Rattle.triple_arena_direct.proofs.strict_arena.StrictArena.set_max_capacity.Goals as goal

pub invariant_of-self : goal.invariant_of-self
invariant_of-self g c counts =
    up_to-continues c.self.inside.arena c.set_max_capacity.new.self (c.self.invariant counts) (resizing ∷ []) c.set_max_capacity.ensures.history

pub returns-clause-kept : goal.returns-clause-kept
returns-clause-kept g c =
    let s = c.self.inside.arena in
    rw (← c.self.view_is) (kept_if_ok s c.set_max_capacity.new.self (with_limit s c.args.max_capacity) c.set_max_capacity.result c.set_max_capacity.ensures.done c.set_max_capacity.ensures.refused
    (kept_limited s c.args.max_capacity) (len_limited s c.args.max_capacity))

pub returns-clause-call : goal.returns-clause-call
returns-clause-call g c =
    let s = c.self.inside.arena in
    let kind = g.S.NonZeroInxGenericStack.kind in
    let gens = g.P.Gen.PtrGen.generations in
    rw (← c.self.view_is) (called kind gens s c.set_max_capacity.new.self (to_limit c.args.max_capacity) (resizing ∷ []) c.self.invariant
    (limited kind gens s c.set_max_capacity.new.self c.args.max_capacity c.set_max_capacity.result c.set_max_capacity.ensures.done c.set_max_capacity.ensures.refused) c.set_max_capacity.ensures.history)
