use Rattle.std.proofs.Common.{Some, Err, subst}
use Rattle.triple_arena_session.specs.TextError.{TextError}
use Rattle.triple_arena_session.specs.TextRun.{IsTextRun}
use Rattle.triple_arena_session.specs.Kind.TheVariants.{Heap}
use Rattle.triple_arena_session.specs.KindRun.{IsStepOfKind}
use Rattle.triple_arena_session_uses.proofs.MalformedLines.{malformed}
use Rattle.triple_arena_session_uses.proofs.named_entries.run_to_malformed.Goals as goal

pub returns-in-Err-Malformed-clause-malformed : goal.returns-in-Err-Malformed-clause-malformed
returns-in-Err-Malformed-clause-malformed c =
    let Ran : TextError → Type 0 = λ why. IsTextRun (IsStepOfKind Heap) (Some c.args.text.now) (Err why) c.args.session.now c.run_text.new.session (Some c.args.output.now.items) (Some c.run_text.new.output.items) in
    malformed c.lines_are_exact.ensures c.forms_are_exact.ensures c.args.text.now c.in-Err-Malformed.line (subst Ran c.in-Err-Malformed.field-0-is c.in-Err-Malformed.ensures.run).0
