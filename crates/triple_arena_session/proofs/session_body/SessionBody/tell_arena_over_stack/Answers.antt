use Rattle.std.proofs.Common.{subst, ap, ◌∙◌}
use Rattle.triple_arena_session.specs.SessionState.{node_of}
use Rattle.triple_arena_session.specs.Shown.{IsArenaOver}
use Rattle.triple_arena_session.proofs.Mapped.{IsWellFormed-mapped}
use Rattle.triple_arena_session.proofs.session_body.SessionBody.tell_arena_over_stack.Goals as goal

pub returns-clause-over : goal.returns-clause-over
returns-clause-over g c =
    subst (λ s. IsArenaOver g.S.NonZeroInxGenericStack.kind s.arena) (ap (λ body. body.named) c.self-inside.view_is ∙ c.self.view_is)
    (IsWellFormed-mapped (node_of g.P.Ptr.numbers) _ c.len-len.ensures.well_formed, c.max_capacity-limit.ensures.of_kind)
