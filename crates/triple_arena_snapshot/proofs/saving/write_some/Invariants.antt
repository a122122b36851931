use Rattle.std.proofs.Common.{◌-◌, ◌^◌}
use Rattle.std.specs.Io.KnownBytes.{Keeps}
use Rattle.triple_arena_snapshot.proofs.saving.write_some.Given as goal

abbrev pub invariant-tries : goal.invariant-tries
invariant-tries g l = Keeps (g.W.Write.contents l.initial.output) (g.W.Write.contents l.output)

abbrev pub decreases-tries : goal.decreases-tries
decreases-tries g l = 2 ^ 32 - l.tries
