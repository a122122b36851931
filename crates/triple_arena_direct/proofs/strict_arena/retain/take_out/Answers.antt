use Rattle.std.proofs.Common.{◌∙◌, ap, Some, sym}
use Rattle.triple_arena_base.specs.Invalidation.{as_option, allowed_option}
use Rattle.triple_arena_ptr.specs.Numbers.{raise, wraps}
use Rattle.triple_arena_traits.specs.Ending.{told_of}
use Rattle.triple_arena_traits.specs.laws.WalkLaws.{found}
use Rattle.triple_arena_traits.proofs.Walking.{unwrapped, allowed_told}
use Rattle.triple_arena_direct.proofs.StrictRetaining.{taken_back}
use Rattle.triple_arena_direct.proofs.strict_arena.retain.take_out.Goals as goal

pub returns-clause-value : goal.returns-clause-value
returns-clause-value g c =
    let f = found c.args.arena.now.slots (g.P.Ptr.numbers c.args.p) c.requires in
    let gens = g.P.Gen.PtrGen.generations in
    let told = unwrapped (wraps gens c.args.arena.now.counter) f.value c.unwrap.result (c.unwrap.ensures ∙ ap as_option (c.remove.ensures.answer ∙ ap (told_of (wraps gens c.args.arena.now.counter)) f.looked_up)) in
    f.looked_up ∙ ap Some (sym (c.allow-value.ensures ∙ ap allowed_option told ∙ allowed_told _ _))

pub returns-clause-state : goal.returns-clause-state
returns-clause-state g c =
    rw c.set_generation.ensures
    (taken_back (raise g.P.Gen.PtrGen.generations) c.args.arena.now c.remove.new.self (g.P.Ptr.numbers c.args.p).0 (g.P.Gen.PtrGen.number c.generation-counter.result) (c.remove.ensures.done c.requires) c.generation-counter.ensures)
