use Rattle.std.proofs.Common.{◌≡◌, ◌≤◌, length, take, vec_capacity}
use Rattle.triple_arena_commands.specs.Runs.{IsRun, TellsOfNoWrap}
use Rattle.triple_arena_session.specs.SessionLayout.{IsStepStrictIf}
use Rattle.triple_arena_session.proofs.session_body.SessionBody.run_commands.Given as goal

abbrev pub invariant-commands : goal.invariant-commands
invariant-commands g l = record {
  ran : IsRun (IsStepStrictIf g.A.SessionArena.strict g.S.NonZeroInxGenericStack.kind g.S.NonZeroInxGenericStack.has_memory g.P.Gen.PtrGen.generations) l.initial.self (take l.command-index l.commands) l.replies.items l.self;
  told : TellsOfNoWrap l.replies.items;
  count : length l.replies.items ≡ l.command-index;
  room : length l.commands ≤ vec_capacity l.replies;
}
