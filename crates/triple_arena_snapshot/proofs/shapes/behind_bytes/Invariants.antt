use Rattle.std.proofs.Common.{◌≡◌, ◌++◌, drop}
use Rattle.triple_arena_snapshot.specs.declared.fault.Fault.TheVariants.{Shape}
use Rattle.triple_arena_snapshot.specs.Marks.{behind}
use Rattle.triple_arena_snapshot.proofs.shapes.behind_bytes.Given as goal

abbrev pub invariant-loop-at : goal.invariant-loop-at
invariant-loop-at g l = behind (drop l.at (l.outer ++ g.T.Codec.shape)) Shape l.rest ≡ behind (l.outer ++ g.T.Codec.shape) Shape l.bytes
