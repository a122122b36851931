use Rattle.std.proofs.Common.{◌∙◌, ap, subst}
use Rattle.triple_arena_traits.specs.FreeEnd.{shortened}
use Rattle.triple_arena_direct_arena.specs.DirectState.{direct_shortened}
use Rattle.triple_arena_direct_arena.specs.DirectLayout.{Counts}
use Rattle.triple_arena_direct_arena.proofs.Held.{made, Counts-shortened}
use Rattle.triple_arena_direct_arena.proofs.direct_arena.DirectArena.shorten.Goals as goal

pub invariant_of-self : goal.invariant_of-self
invariant_of-self g c =
    (made g.P.Gen.PtrGen.number _ _ _ _ _ (direct_shortened c.args.self.now c.args.len)
    ((rw c.uncounted_stack_mut.ensures.value at c.shorten.ensures.slots) ∙ ap (λ s. shortened c.args.len s.slots) c.self.view_is)
    ((rw c.uncounted_stack_mut.ensures.value at c.shorten.ensures.room) ∙ ap (λ s. s.room) c.self.view_is)
    ((rw c.uncounted_stack_mut.ensures.value at c.shorten.ensures.limit) ∙ ap (λ s. s.limit) c.self.view_is)
    (ap (λ s. s.greatest) c.self.view_is)
    (Counts-shortened _ c.args.self.now c.args.len (subst (Counts _) c.self.view_is c.self.invariant))).0

pub returns : goal.returns
returns g c =
    (made g.P.Gen.PtrGen.number _ _ _ _ _ (direct_shortened c.args.self.now c.args.len)
    ((rw c.uncounted_stack_mut.ensures.value at c.shorten.ensures.slots) ∙ ap (λ s. shortened c.args.len s.slots) c.self.view_is)
    ((rw c.uncounted_stack_mut.ensures.value at c.shorten.ensures.room) ∙ ap (λ s. s.room) c.self.view_is)
    ((rw c.uncounted_stack_mut.ensures.value at c.shorten.ensures.limit) ∙ ap (λ s. s.limit) c.self.view_is)
    (ap (λ s. s.greatest) c.self.view_is)
    (Counts-shortened _ c.args.self.now c.args.len (subst (Counts _) c.self.view_is c.self.invariant))).1
