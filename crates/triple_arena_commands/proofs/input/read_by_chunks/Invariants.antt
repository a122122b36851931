use Rattle.std.proofs.Common.{◌-◌, ◌^◌}
use Rattle.std.specs.Io.KnownBytes.{Consumes}
use Rattle.triple_arena_commands.proofs.input.read_by_chunks.Given as goal

abbrev pub invariant-reads : goal.invariant-reads
invariant-reads g l = Consumes (g.R.Read.remaining l.initial.input) (g.R.Read.remaining l.input) l.text.items

abbrev pub decreases-reads : goal.decreases-reads
decreases-reads g l = 2 ^ 32 - l.reads
