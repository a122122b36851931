use Rattle.std.proofs.Common.{◌≡◌, ◌≤◌, ℕ, Bool, true, false, refl, subst, arith}
use Rattle.triple_arena_session.specs.Command.{Command}
use Rattle.triple_arena_session.specs.Reply.{Reply}
use Rattle.triple_arena_session.specs.Reply.TheVariants.{Exhausted}
use Rattle.triple_arena_session.specs.StrictStore.{StrictStore, UnlessExhausted, IsCountedStep, is_spent, IsStrictStoreStep}
use Rattle.triple_arena_session.specs.KindRun.{greatest}
use Rattle.triple_arena_session.specs.StrictSession.{strictly_shown}
use Rattle.triple_arena_session_uses.proofs.raises.step_counted.Goals as goal

-- a step that is to be refused is answered so
refused_where : (s t : StrictStore ℕ) (command : Command ℕ) (reply : Reply ℕ) (spent : Bool) → UnlessExhausted spent (IsCountedStep s command reply t) reply s t → spent ≡ true → reply ≡ Exhausted
refused_where s t command reply true refused so = refused.0
refused_where s t command reply false step so = cc

pub returns-clause-spent : goal.returns-clause-spent
returns-clause-spent c =
    let s : StrictStore ℕ = strictly_shown greatest c.args.session.now in
    let t : StrictStore ℕ = strictly_shown greatest c.step.new.self in (
      (λ so. ((c.strict_store_is_exact.ensures.exhausted s t c.args.command).0 (subst (λ r. IsStrictStoreStep s c.args.command r t) so (c.step.ensures.store refl))).0),
      refused_where s t c.args.command c.step.result (is_spent s c.args.command) (c.step.ensures.store refl),
    )

pub returns-clause-unchanged : goal.returns-clause-unchanged
returns-clause-unchanged c so =
    let s : StrictStore ℕ = strictly_shown greatest c.args.session.now in
    let t : StrictStore ℕ = strictly_shown greatest c.step.new.self in
    ((c.strict_store_is_exact.ensures.exhausted s t c.args.command).0 (subst (λ r. IsStrictStoreStep s c.args.command r t) so (c.step.ensures.store refl))).1

pub returns-clause-counted : goal.returns-clause-counted
returns-clause-counted c other =
    c.strict_store_is_exact.ensures.counted (strictly_shown greatest c.args.session.now) (strictly_shown greatest c.step.new.self) c.args.command c.step.result (c.step.ensures.store refl) other

pub returns-clause-exact : goal.returns-clause-exact
returns-clause-exact c =
    let within : c.step.new.self.arena.counter ≤ greatest = (c.strict_session_steps_as_store.ensures.sound refl c.args.session.now c.step.new.self c.args.command c.step.result c.step.ensures.stays.arena c.step.ensures.stays.within (c.step.ensures.stays.was_sound refl) c.step.ensures.step).1 in
    omega arith
