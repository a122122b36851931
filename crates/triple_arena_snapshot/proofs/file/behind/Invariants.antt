use Rattle.std.proofs.Common.{◌≡◌, drop}
use Rattle.triple_arena_snapshot.specs.Marks.{behind}
use Rattle.triple_arena_snapshot.proofs.file.behind.Given as goal

abbrev pub invariant-loop-m : goal.invariant-loop-m
invariant-loop-m l = behind (drop l.m-index l.marked) l.fault l.rest ≡ behind l.marked l.fault l.bytes
