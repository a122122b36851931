use Rattle.std.proofs.Common.{◌∙◌}
use Rattle.triple_arena_snapshot.proofs.Writes.{same_file, same_refused}
use Rattle.triple_arena_snapshot.proofs.saving.save_arena_as.Goals as goal

pub returns-clause-written : goal.returns-clause-written
returns-clause-written g c =
    let held = g.W.Write.contents in
    same_file c.write_file.result (held c.args.output.now) (held c.write_file.new.output) _ c.deref.result.now _ (c.deref.ensures.value ∙ c.in-Ok.ensures.written) c.write_file.ensures.written

pub returns-clause-refused : goal.returns-clause-refused
returns-clause-refused g c =
    let held = g.W.Write.contents in
    same_refused c.write_file.result (held c.args.output.now) (held c.write_file.new.output) _ c.deref.result.now _ (c.deref.ensures.value ∙ c.in-Ok.ensures.written) c.write_file.ensures.refused
