use Rattle.std.proofs.Common.{◌++◌, arith}
use Rattle.triple_arena_snapshot.specs.declared.fault.Fault.TheVariants.{Shape}
use Rattle.triple_arena_snapshot.specs.Marks.{behind}
use Rattle.triple_arena_snapshot.proofs.Marks.{cut_short}
use Rattle.triple_arena_snapshot.proofs.shapes.behind_bytes.Goals as goal

pub returns-in-empty-clause-read : goal.returns-in-empty-clause-read
returns-in-empty-clause-read g c =
    let shape = c.args.outer.now ++ g.T.Codec.shape in
    cut_short shape c.loop-at.at Shape c.loop-at.rest.now (behind shape Shape c.args.bytes.now) (omega (arith, c.loop-at-test.true, c.requires)) c.in-empty.len_below c.loop-at.invariant
