use Rattle.std.proofs.Common.{refl}
use Rattle.triple_arena_session.specs.StoreRuns.{without_wrap}
use Rattle.triple_arena_session.specs.Shown.{shown}
use Rattle.triple_arena_session_uses.proofs.rows.reply_that_may_come.Goals as goal

pub returns-clause-may : goal.returns-clause-may
returns-clause-may c =
    let made = c.step.ensures.at_wrap refl c.requires.sound in
    (c.store_is_exact.ensures.replies (shown c.args.session.now) c.args.command (without_wrap c.step.result)).0 (made.0, made.1)
