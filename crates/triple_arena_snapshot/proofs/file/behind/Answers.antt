use Rattle.triple_arena_snapshot.specs.Marks.{behind}
use Rattle.triple_arena_snapshot.proofs.Marks.{cut_short}
use Rattle.triple_arena_snapshot.proofs.file.behind.Goals as goal

pub returns-in-empty-clause-read : goal.returns-in-empty-clause-read
returns-in-empty-clause-read c =
    cut_short c.args.marked.now c.loop-m.m-index c.args.fault c.loop-m.rest.now (behind c.args.marked.now c.args.fault c.args.bytes.now) c.loop-m-test.true c.in-empty.len_below c.loop-m.invariant
