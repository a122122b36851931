use Rattle.std.proofs.lemmas.Result.{on_err_weaker}
use Rattle.triple_arena_commands.proofs.Writes.{cut_behind, cut_at_once}
use Rattle.triple_arena_commands.proofs.output.write_line.Goals as goal

pub returns-in-Ok-2-clause-err : goal.returns-in-Ok-2-clause-err
returns-in-Ok-2-clause-err g c = on_err_weaker c.write_all.result (cut_behind _ _ _ c.args.bytes.now c.in-Ok.count c.in-Ok.ensures.bytes) c.write_all.ensures.err

pub returns-in-Err-2-clause-err : goal.returns-in-Err-2-clause-err
returns-in-Err-2-clause-err g c = cut_at_once _ _ c.args.bytes.now c.requires c.in-Err.ensures.bytes
