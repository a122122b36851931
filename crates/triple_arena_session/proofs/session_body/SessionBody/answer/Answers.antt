use Rattle.std.proofs.Common.{◌&&◌, not, ap, sym, subst, ◌∙◌}
use Rattle.triple_arena_session.specs.Shown.{IsArenaOver}
use Rattle.triple_arena_session.proofs.KnownSound.{still_known}
use Rattle.triple_arena_session.proofs.session_body.SessionBody.answer.Goals as goal

pub invariant_of-self : goal.invariant_of-self
invariant_of-self g c is =
    still_known g.S.NonZeroInxGenericStack.kind g.S.NonZeroInxGenericStack.has_memory g.P.Gen.PtrGen.generations c.self.inside.named c.args.command c.reply-reply.result c.reply-reply.new.self (subst (λ s. IsArenaOver g.S.NonZeroInxGenericStack.kind s.arena) (sym c.self.view_is) c.tell_arena_over_stack.ensures.over) c.reply-reply.ensures c.self.inside.sound c.self.invariant
    (ap (λ told. c.self.inside.sound && not told) (sym c.tells_of_wrap.ensures) ∙ is)
