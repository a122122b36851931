use Rattle.std.proofs.Common.{[], ◌∷◌, sym, ap, ◌∙◌}
use Rattle.triple_arena_base.specs.Invalidation.{is_overflow}
use Rattle.triple_arena_recasting.proofs.Retained.{overflow_is}
use Rattle.triple_arena_recasting.proofs.retaining.end_unless.Goals as goal

pub returns-clause-history : goal.returns-clause-history
returns-clause-history g c up =
    let wraps = c.is_overflow-wrapped.ensures ∙ ap is_overflow c.remove-answer.ensures.answer ∙ overflow_is _ _ c.requires.live in
    (g.P.Ptr.numbers c.args.p ∷ [], c.remove-answer.ensures.history c.requires.live (up.0, sym wraps ∙ up.1))
