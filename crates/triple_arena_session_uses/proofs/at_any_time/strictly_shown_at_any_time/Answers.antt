use Rattle.std.proofs.Common.{refl}
use Rattle.std.proofs.lemmas.Result.{IfOk-weaker}
use Rattle.triple_arena_ptr.specs.Numbers.{counting_to}
use Rattle.triple_arena_stack.specs.StackKind.StackKind.{heap}
use Rattle.triple_arena_session.specs.KindRun.{greatest}
use Rattle.triple_arena_session.specs.StrictSession.{IsStrictSessionStep}
use Rattle.triple_arena_session.specs.laws.RunLaws.{IsRun-front}
use Rattle.triple_arena_session_uses.proofs.at_any_time.strictly_shown_at_any_time.Goals as goal

pub returns-clause-between : goal.returns-clause-between
returns-clause-between c =
    IfOk-weaker c.run.result _ _ (λ replies ran. λ count.
    let front = IsRun-front (IsStrictSessionStep heap (λ _. ⊥) (counting_to greatest)) c.args.session.now c.run.new.self c.args.commands.now replies.items count ran in (
      front.0,
      front.1,
      c.strict_session_runs_as_store.ensures.store refl c.args.session.now front.0 _ _ c.run.ensures.stays.arena c.run.ensures.stays.within (c.run.ensures.stays.was_sound refl) front.1,
      (c.strict_session_runs_as_store.ensures.sound refl c.args.session.now front.0 _ _ c.run.ensures.stays.arena c.run.ensures.stays.within (c.run.ensures.stays.was_sound refl) front.1).2,
    )) c.run.ensures.ran
