use Rattle.std.proofs.Common.{◌++◌, refl}
use Rattle.triple_arena_ptr.specs.Numbers.{counting_to}
use Rattle.triple_arena_stack.specs.StackKind.StackKind.{heap}
use Rattle.triple_arena_session.specs.StrictStore.{IsStrictStoreStep}
use Rattle.triple_arena_session.specs.KindRun.{greatest}
use Rattle.triple_arena_session.specs.StrictSession.{IsStrictSessionStep, strictly_shown}
use Rattle.triple_arena_session.specs.laws.RunLaws.{IsRun-append}
use Rattle.triple_arena_session_uses.proofs.compactions.answers_in_two_runs.Goals as goal

pub returns-clause-unseen : goal.returns-clause-unseen
returns-clause-unseen c =
    let before = strictly_shown greatest c.args.session.now in
    let after = strictly_shown greatest c.run-2.new.self in
    let ran = IsRun-append IsStrictStoreStep before (strictly_shown greatest c.run.new.self) after c.args.first.now c.args.others.now c.in_ok-told.told.items c.in_ok-more.more.items (c.in_ok-told.ensures.store refl) (c.in_ok-more.ensures.store refl) in
    c.strict_compaction_is_unseen.ensures before after (c.args.first.now ++ c.args.others.now) (c.in_ok-told.told.items ++ c.in_ok-more.more.items) ran

pub returns-clause-ran : goal.returns-clause-ran
returns-clause-ran c =
    IsRun-append (IsStrictSessionStep heap (λ _. ⊥) (counting_to greatest)) c.args.session.now c.run.new.self c.run-2.new.self c.args.first.now c.args.others.now c.in_ok-told.told.items c.in_ok-more.more.items c.in_ok-told.ensures.ran c.in_ok-more.ensures.ran
