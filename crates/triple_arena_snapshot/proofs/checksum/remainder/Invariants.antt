use Rattle.std.proofs.Common.{◌≡◌, drop}
use Rattle.triple_arena_snapshot.specs.Checksum.{remainder}
use Rattle.triple_arena_snapshot.proofs.checksum.remainder.Given as goal

abbrev pub invariant-loop-b : goal.invariant-loop-b
invariant-loop-b l = remainder l.left (drop l.b-index l.bytes) ≡ remainder l.state l.bytes
