use Rattle.std.proofs.Common.{◌++◌}
use Rattle.std.proofs.lemmas.Result.{on_err_weaker}
use Rattle.triple_arena_snapshot.proofs.Writes.{cut_later}
use Rattle.triple_arena_snapshot.proofs.saving.write_parts.Goals as goal

pub returns-clause-err : goal.returns-clause-err
returns-clause-err g c =
    let held = g.W.Write.contents in
    on_err_weaker c.write_both.result (cut_later (held c.args.output.now) (held c.write_all.new.output) (held c.write_both.new.output) c.args.first.now (c.args.second.now ++ c.args.third.now) c.in_ok-write_all.ensures.ok) c.write_both.ensures.err
